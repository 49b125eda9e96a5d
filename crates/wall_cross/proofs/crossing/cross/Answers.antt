use Rattle.std.proofs.Common.{refl, sym, subst}
use Rattle.std.proofs.lemmas.Bool.{false≢true}
use Rattle.tri_core.specs.Triangulation.{Triangulation}
use Rattle.hinge_form.specs.Triples.{Triple, of_form}
use Rattle.hinge_form.specs.Hinges.{IsHalfPlanePoint, IsStrictAt}
use Rattle.wall_cross.specs.Crossings.{AreAllFlipped, Crosses, DiagonalsFit}
use Rattle.wall_cross.proofs.crossing.cross.Goals as goal

pub returns-in-Ok-clause-flipped : goal.returns-in-Ok-clause-flipped
returns-in-Ok-clause-flipped c =
    subst (λ (t : Triangulation). AreAllFlipped t.field t.halves c.args.wall.now.edges.items c.cross_in_place.new.tri.halves) c.in_ok-crossed.ensures c.in-Ok.ensures.flipped

pub returns-in-Ok-clause-crossed : goal.returns-in-Ok-clause-crossed
returns-in-Ok-clause-crossed c =
    subst (λ (t : Triangulation). Crosses t.field t.halves (of_form c.args.wall.now.form) c.args.wall.now.edges.items c.cross_in_place.new.tri.halves) c.in_ok-crossed.ensures c.in-Ok.ensures.crossed

pub returns-in-Ok-clause-strict : goal.returns-in-Ok-clause-strict
returns-in-Ok-clause-strict c =
    subst (λ (t : Triangulation). (q : Triple) × IsHalfPlanePoint t.field q × IsStrictAt t.field c.cross_in_place.new.tri.halves q) c.in_ok-crossed.ensures c.in-Ok.ensures.strict

pub returns-in-Ok-clause-fits : goal.returns-in-Ok-clause-fits
returns-in-Ok-clause-fits c =
    subst (λ (t : Triangulation). DiagonalsFit t.field t.halves c.args.wall.now.edges.items) c.in_ok-crossed.ensures (c.in-Ok.ensures.fits.0 refl)

pub returns-in-Err-clause-wide : goal.returns-in-Err-clause-wide
returns-in-Err-clause-wide c =
    λ _ fits. false≢true (c.in-Err.ensures.fits.1 (subst (λ (t : Triangulation). DiagonalsFit t.field t.halves c.args.wall.now.edges.items) (sym c.in_ok-crossed.ensures) fits))
