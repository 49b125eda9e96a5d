use Rattle.std.proofs.Common.{rules, ◌≡◌, ℕ, List, length, of_z, to_z, sym, ◌∙◌, ap, subst, arith}
use Rattle.std.specs.Prelude.{ℤ, pos, FitsSigned}
use Rattle.std.specs.Int.{w128}
use Rattle.std.proofs.lemmas.Int.{to_z-of_z}
use Rattle.rings.specs.Matrices.{Matrix}
use Rattle.quad_field.specs.declared.quad.Quad.{Quad}
use Rattle.plane.specs.Matrices.{rows_of}
use Rattle.tri_core.specs.declared.half.Half.{Half}
use Rattle.tri_core.specs.Triangulation.{IsTriangulation}
use Rattle.tri_core.specs.Mapped.{AreMapped, AreMultiplied}
use Rattle.tri_core.proofs.Mapped.{changed_glued}
use Rattle.tri_core.proofs.Bijections.{image_from_carried, carried_from_image}
use Rattle.tri_core.proofs.equality.equal_by.Goals as goal

pub are_carried-requires-clause-one : goal.are_carried-requires-clause-one
are_carried-requires-clause-one c =
    let from : List Half = c.halves.result.now in
    let valid : IsTriangulation c.args.from.now.field from = subst (IsTriangulation c.args.from.now.field) (sym c.halves.ensures.halves) c.halves.ensures.valid in
    rw c.as_slice.ensures.value (changed_glued _ from c.in_ok-one.one.items c.in_ok-one.ensures.mapped c.args.from.now.field valid)

pub are_carried-requires-clause-two : goal.are_carried-requires-clause-two
are_carried-requires-clause-two c =
    let to : List Half = c.halves-2.result.now in
    let valid : IsTriangulation c.args.to.now.field to = subst (IsTriangulation c.args.to.now.field) (sym c.halves-2.ensures.halves) c.halves-2.ensures.valid in
    rw c.as_slice-2.ensures.value (changed_glued _ to c.in_ok-two.two.items c.in_ok-two.ensures.multiplied c.args.to.now.field valid)

pub returns-clause-exact : goal.returns-clause-exact
returns-clause-exact c =
    let d : ℕ = c.args.f.now in
    let n : Matrix Quad = c.args.m.now.rows in
    let m : ℕ = c.args.m.now.denominator in
    let from : List Half = c.args.from.now.halves in
    let to : List Half = c.args.to.now.halves in
    let one : List Half = c.as_slice.result.now in
    let two : List Half = c.as_slice-2.result.now in
    let valid : IsTriangulation d from = subst (λ (e : ℕ). IsTriangulation e from) (sym c.requires.from) c.halves.ensures.valid in
    let valid_to : IsTriangulation d to = subst (λ (e : ℕ). IsTriangulation e to) (sym c.requires.to) c.halves-2.ensures.valid in
    let rows : rows_of c.entries.result.now ≡ n = ap rows_of c.entries.ensures.rows in
    let fits : FitsSigned w128 c.denominator.result = search rules in
    let whole : to_z w128 (of_z w128 c.denominator.result) ≡ pos m = to_z-of_z w128 c.denominator.result fits ∙ c.denominator.ensures.denominator in
    let first : AreMapped d n from one =
    subst (λ (o : Matrix Quad). AreMapped d o from one) rows
    (subst (λ (l : List Half). AreMapped d (rows_of c.entries.result.now) l one) c.halves.ensures.halves
    (subst (λ (l : List Half). AreMapped d (rows_of c.entries.result.now) c.halves.result.now l) (sym c.as_slice.ensures.value) c.in_ok-one.ensures.mapped)) in
    let second : AreMultiplied (pos m) to two =
    subst (λ (k : ℤ). AreMultiplied k to two) whole
    (subst (λ (l : List Half). AreMultiplied (to_z w128 (of_z w128 c.denominator.result)) l two) c.halves-2.ensures.halves
    (subst (λ (l : List Half). AreMultiplied (to_z w128 (of_z w128 c.denominator.result)) c.halves-2.result.now l) (sym c.as_slice-2.ensures.value) c.in_ok-two.ensures.multiplied)) in
    let count : length to ≡ length from = omega (arith, c.if-triangles.false, c.triangles.ensures.count, c.triangles-2.ensures.count) in
    let carried = c.in_ok-are_carried.ensures in (
      λ yes. let w = carried.0 yes in image_from_carried d n m from to one two valid valid_to first second c.denominator.ensures.lowest.positive count w.0 w.1,
      λ image. carried.1 (image.0, carried_from_image d n m from to one two valid valid_to first second image.0 image.1 image.2),
    )
