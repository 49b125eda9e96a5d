use Rattle.std.proofs.Common.{◌↔◌, ℕ, List, IsOk, sym, subst}
use Rattle.quad_field.specs.FieldNumber.{IsFieldNumber}
use Rattle.hinge_form.specs.Triples.{of_form}
use Rattle.hinge_form.specs.Walls.{IsWall}
use Rattle.wall_cross.specs.Crossings.{AreAllFlipped, DiagonalsFit}
use Rattle.wall_cross.proofs.Behind.{strict_behind}
use Rattle.wall_cross.proofs.Crossed.{on_ok, crossing_of_wall}
use Rattle.wall_cross.proofs.crossing.cross_in_place.Goals as goal

pub flip_wall-requires-clause-wall : goal.flip_wall-requires-clause-wall
flip_wall-requires-clause-wall c =
    (of_form c.args.wall.now.form, subst (IsWall c.args.tri.now.field c.args.tri.now.halves (of_form c.args.wall.now.form)) (sym c.as_slice.ensures.value) c.requires.wall)

pub returns-clause-flipped : goal.returns-clause-flipped
returns-clause-flipped c =
    on_ok c.flip_wall.result _ _
    (λ h. subst (λ (xs : List ℕ). AreAllFlipped c.args.tri.now.field c.args.tri.now.halves xs c.flip_wall.new.tri.halves) c.as_slice.ensures.value h) c.flip_wall.ensures.flipped

pub returns-clause-crossed : goal.returns-clause-crossed
returns-clause-crossed c =
    let d = c.args.tri.now.field in
    let halves = c.args.tri.now.halves in
    let wall = c.args.wall.now in
    let later = c.flip_wall.new.tri.halves in
    on_ok c.flip_wall.result _ _
    (λ h. crossing_of_wall d halves later (of_form wall.form) wall.edges.items c.requires.wall (subst (λ (xs : List ℕ). AreAllFlipped d halves xs later) c.as_slice.ensures.value h))
    c.flip_wall.ensures.flipped

pub returns-clause-strict : goal.returns-clause-strict
returns-clause-strict c =
    let d = c.args.tri.now.field in
    let halves = c.args.tri.now.halves in
    let field : IsFieldNumber d = subst IsFieldNumber c.requires.field c.is_valid.ensures.number in
    let wall = c.args.wall.now in
    let later = c.flip_wall.new.tri.halves in
    on_ok c.flip_wall.result _ _
    (λ h. strict_behind d field halves c.is_valid.ensures.valid (of_form wall.form) wall.edges.items c.requires.wall later
    (subst (λ (xs : List ℕ). AreAllFlipped d halves xs later) c.as_slice.ensures.value h))
    c.flip_wall.ensures.flipped

pub returns-clause-fits : goal.returns-clause-fits
returns-clause-fits c =
    subst (λ (xs : List ℕ). IsOk c.flip_wall.result ↔ DiagonalsFit c.args.tri.now.field c.args.tri.now.halves xs) c.as_slice.ensures.value c.flip_wall.ensures.fits
