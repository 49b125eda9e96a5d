use Rattle.std.proofs.Common.{subst, sym}
use Rattle.hinge_form.specs.Hinges.{of_place, place_at}
use Rattle.delaunay_flip.specs.Flipping.{IsNegative, IsNextFlip}
use Rattle.delaunay_flip.specs.Widths.{EdgesFit, FlipFits}
use Rattle.delaunay_flip.specs.Keeping.{KeptAt}
use Rattle.delaunay_flip.proofs.Keepings.{table_fits}
use Rattle.delaunay_flip.proofs.kept.Kept.flip.Goals as goal

pub flip_least-requires-clause-some : goal.flip_least-requires-clause-some
flip_least-requires-clause-some c =
    let some = subst (λ (k : KeptAt). IsNegative k.tri.field (place_at k.point) k.tri.halves c.requires.some.0) (sym c.self.view_is) c.requires.some.1 in
    (c.requires.some.0, subst (λ q. IsNegative c.self.inside.tri.field q c.self.inside.tri.halves c.requires.some.0) (sym c.place_of.ensures.place) some)

pub returns-clause-flipped : goal.returns-clause-flipped
returns-clause-flipped c =
    subst (λ (k : KeptAt). IsNextFlip k.tri.field (place_at k.point) k.tri.halves c.flip_least.new.tri.halves) c.self.view_is
    (subst (λ q. IsNextFlip c.self.inside.tri.field q c.self.inside.tri.halves c.flip_least.new.tri.halves) c.place_of.ensures.place c.in_ok-flip_least.ensures.flipped)

pub returns-clause-diagonal : goal.returns-clause-diagonal
returns-clause-diagonal c =
    subst (λ (k : KeptAt). FlipFits k.tri.field (place_at k.point) k.tri.halves) c.self.view_is
    (subst (λ q. FlipFits c.self.inside.tri.field q c.self.inside.tri.halves) c.place_of.ensures.place c.in_ok-flip_least.ensures.diagonal)

pub returns-clause-fits : goal.returns-clause-fits
returns-clause-fits c =
    subst (λ (k : KeptAt). EdgesFit k.tri.field (place_at k.point) c.flip_least.new.tri.halves) c.self.view_is
    (subst (λ q. EdgesFit c.self.inside.tri.field q c.flip_least.new.tri.halves) c.place_of.ensures.place
    (table_fits c.self.inside.tri.field (of_place c.place_of.result) c.flip_least.new.tri.halves c.flip_least.new.values c.in_ok-flip_least.ensures.table))
