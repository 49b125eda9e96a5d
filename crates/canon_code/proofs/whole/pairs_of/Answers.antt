use Rattle.std.proofs.Common.{◌≡◌, ◌+◌, ◌*◌, ◌<◌, ◌∷◌, ◌++◌, [], ℕ, List, Option, length, sym, ap, subst, arith}
use Rattle.std.specs.Prelude.{IfSome}
use Rattle.std.proofs.lemmas.List.{length_push}
use Rattle.quad_field.specs.declared.quad.Quad.{Quad}
use Rattle.plane.specs.Vectors.{Vector, vector}
use Rattle.tri_core.specs.HalfEdges.{vector_at}
use Rattle.canon_code.specs.Numbered.{entry}
use Rattle.canon_code.specs.WholeFrames.{IsWhole}
use Rattle.canon_code.specs.Distinct.{ArePairs}
use Rattle.canon_code.proofs.Coordinated.{vec_read}
use Rattle.canon_code.proofs.KeptVectors.{pairs_more}
use Rattle.canon_code.proofs.whole.pairs_of.Goals as goal

pub loop-i-preserved : goal.loop-i-preserved
loop-i-preserved c =
    let halves = c.args.tri.now.halves in
    let d : ℕ = c.args.f.now in
    let start = c.args.start.now in
    let firsts : List ℕ = c.args.firsts.now in
    let i : ℕ = c.loop-i.i in
    let list : List Quad = c.loop-i.list.items in
    let x : Quad = c.in-Ok-Some.x in
    let y : Quad = c.in-Ok-Some.y in
    let low : i < length firsts = omega arith in
    let read : vector c.half.result.now.vec ≡ vector_at halves (entry firsts i) = ap vector (vec_read halves (entry firsts i) c.half.result.now c.half.ensures) in
    let found : IsWhole d start.frame start.divisor (vector c.half.result.now.vec) (x, y) =
    subst (λ (o : Option (Quad × Quad)). IfSome o (λ w. IsWhole d start.frame start.divisor (vector c.half.result.now.vec) (w.0, w.1))) c.in-Ok-Some.field-0-is c.in-Ok-Some.ensures.whole in
    let whole : IsWhole d start.frame start.divisor (vector_at halves (entry firsts i)) (x, y) = subst (λ (v : Vector Quad). IsWhole d start.frame start.divisor v (x, y)) read found in
    subst (λ (l : List Quad). (length l ≡ 2 * (i + 1)) × ArePairs d halves start firsts l) (sym c.in_ok-push_pair-in-Ok-Some.ensures)
    (omega (arith, length_push list x, length_push (list ++ x ∷ []) y, c.loop-i.invariant.0), pairs_more d halves start firsts list i x y c.loop-i.invariant.1 c.loop-i.invariant.0 low whole)
