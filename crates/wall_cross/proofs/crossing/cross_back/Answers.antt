use Rattle.std.proofs.Common.{ℕ, List, refl, sym, subst}
use Rattle.std.proofs.lemmas.Bool.{false≢true}
use Rattle.quad_field.specs.FieldNumber.{IsFieldNumber}
use Rattle.tri_core.specs.Triangulation.{Triangulation}
use Rattle.hinge_form.specs.Triples.{Triple, of_form}
use Rattle.hinge_form.specs.Walls.{IsWall}
use Rattle.wall_cross.specs.Crossings.{AreAllFlipped, DiagonalsFit}
use Rattle.wall_cross.proofs.Crossed.{wall_again, crossed_back}
use Rattle.wall_cross.proofs.crossing.cross_back.Goals as goal

pub flip_wall-requires-clause-wall : goal.flip_wall-requires-clause-wall
flip_wall-requires-clause-wall c =
    let d = c.args.tri.now.field in
    let field : IsFieldNumber d = subst IsFieldNumber c.requires.field c.is_valid.ensures.number in
    let wall = c.args.wall.now in
    let from = c.requires.crossed in
    let own : (other : Triple) × IsWall d c.args.tri.now.halves other wall.edges.items =
    wall_again d field from.0 from.1 (of_form wall.form) wall.edges.items from.2 c.args.tri.now.halves from.3 in
    subst (λ (xs : List ℕ). (other : Triple) × IsWall c.in_ok-back.back.field c.in_ok-back.back.halves other xs) (sym c.as_slice.ensures.value)
    (subst (λ (t : Triangulation). (other : Triple) × IsWall t.field t.halves other wall.edges.items) (sym c.in_ok-back.ensures) own)

pub returns-in-Ok-clause-back : goal.returns-in-Ok-clause-back
returns-in-Ok-clause-back c = λ from valid w crossed.
    let d = c.args.tri.now.field in
    let field : IsFieldNumber d = subst IsFieldNumber c.requires.field c.is_valid.ensures.number in
    let wall = c.args.wall.now in
    let later = c.flip_wall.new.tri.halves in
    crossed_back d field from valid (of_form wall.form) wall.edges.items w c.args.tri.now.halves crossed later
    (subst (λ (t : Triangulation). AreAllFlipped t.field t.halves wall.edges.items later) c.in_ok-back.ensures
    (subst (λ (xs : List ℕ). AreAllFlipped c.in_ok-back.back.field c.in_ok-back.back.halves xs later) c.as_slice.ensures.value c.in-Ok.ensures.flipped))

pub returns-in-Ok-clause-fits : goal.returns-in-Ok-clause-fits
returns-in-Ok-clause-fits c =
    subst (λ (t : Triangulation). DiagonalsFit t.field t.halves c.args.wall.now.edges.items) c.in_ok-back.ensures
    (subst (λ (xs : List ℕ). DiagonalsFit c.in_ok-back.back.field c.in_ok-back.back.halves xs) c.as_slice.ensures.value (c.in-Ok.ensures.fits.0 refl))

pub returns-in-Err-clause-wide : goal.returns-in-Err-clause-wide
returns-in-Err-clause-wide c =
    λ _ fits. false≢true (c.in-Err.ensures.fits.1
    (subst (λ (xs : List ℕ). DiagonalsFit c.in_ok-back.back.field c.in_ok-back.back.halves xs) (sym c.as_slice.ensures.value)
    (subst (λ (t : Triangulation). DiagonalsFit t.field t.halves c.args.wall.now.edges.items) (sym c.in_ok-back.ensures) fits)))
