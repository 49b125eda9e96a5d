use Rattle.std.proofs.Common.{◌∷◌, [], ◌∙◌, ◌*◌, ◌+◌, ℕ, List, Option, subst}
use Rattle.std.specs.Prelude.{IfSome}
use Rattle.std.specs.Int.{w128}
use Rattle.std.proofs.lemmas.Int.{to_z-of_z}
use Rattle.quad_field.specs.declared.quad.Quad.{Quad}
use Rattle.quad_field.specs.Width.{PartsFit}
use Rattle.canon_code.specs.Numbered.{entry}
use Rattle.canon_code.specs.WholeFrames.{IsWholeAt}
use Rattle.canon_code.proofs.whole.whole_row.Goals as goal

pub returns-in-Some-clause-whole : goal.returns-in-Some-clause-whole
returns-in-Some-clause-whole c =
    let d : ℕ = c.args.f.now in
    let halves = c.args.tri.now.halves in
    let places : List ℕ = c.args.numbering.now.places.items in
    let x : Quad = c.in-Some.x in
    let y : Quad = c.in-Some.y in
    let z : Quad = c.in-Some.z in
    let w : Quad = c.in-Some.w in
    let first : IsWholeAt d halves c.args.start.now (entry places) (3 * c.args.t) (x, y) =
    subst (λ (o : Option (Quad × Quad × Quad × Quad)). IfSome o (λ q. IsWholeAt d halves c.args.start.now (entry places) (3 * c.args.t) (q.0, q.1))) c.in-Some.is c.in_ok-x.ensures.first in
    let second : IsWholeAt d halves c.args.start.now (entry places) (3 * c.args.t + 1) (z, w) =
    subst (λ (o : Option (Quad × Quad × Quad × Quad)). IfSome o (λ q. IsWholeAt d halves c.args.start.now (entry places) (3 * c.args.t + 1) (q.2, q.3))) c.in-Some.is c.in_ok-x.ensures.second in
    let fits : PartsFit x × PartsFit y × PartsFit z × PartsFit w =
    subst (λ (o : Option (Quad × Quad × Quad × Quad)). IfSome o (λ q. PartsFit q.0 × PartsFit q.1 × PartsFit q.2 × PartsFit q.3)) c.in-Some.is c.in_ok-x.ensures.fits in (
      (x, y),
      (z, w),
      first,
      second,
      (λ i.
          to_z-of_z w128 x.a fits.0.0 i ∷ to_z-of_z w128 x.b fits.0.1 i ∷ to_z-of_z w128 y.a fits.1.0 i ∷ to_z-of_z w128 y.b fits.1.1 i
          ∷ to_z-of_z w128 z.a fits.2.0 i ∷ to_z-of_z w128 z.b fits.2.1 i ∷ to_z-of_z w128 w.a fits.3.0 i ∷ to_z-of_z w128 w.b fits.3.1 i
          ∷ to_z-of_z w128 c.twin_at-one.result c.twin_at-one.ensures.fits i ∷ to_z-of_z w128 c.twin_at-two.result c.twin_at-two.ensures.fits i ∷ to_z-of_z w128 c.twin_at-three.result c.twin_at-three.ensures.fits i ∷ [])
          ∙ λ i. x.a ∷ x.b ∷ y.a ∷ y.b ∷ z.a ∷ z.b ∷ w.a ∷ w.b ∷ c.twin_at-one.ensures.twin i ∷ c.twin_at-two.ensures.twin i ∷ c.twin_at-three.ensures.twin i ∷ [],
    )
