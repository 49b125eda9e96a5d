-- What the body of the flip hands back is the flip, and a triangulation.
use Rattle.std.proofs.Common.{◌≡◌, ℕ, ◌<◌, List, ◌++◌, length, take, sym, ◌∙◌, ap, subst}
use Rattle.std.proofs.lemmas.List.{take_at}
use Rattle.quad_field.specs.Quads.{quad_ops}
use Rattle.plane.specs.declared.vec2.Vec2.{Vec2}
use Rattle.plane.specs.Vectors.{vector, vector_sum, opposite_vector}
use Rattle.tri_core.specs.declared.half.Half.{Half}
use Rattle.tri_core.specs.HalfEdges.{vector_at, twin_at, next_of, previous_of}
use Rattle.tri_core.specs.Triangulation.{IsTriangulation}
use Rattle.tri_core.specs.Flips.{IsEdge, IsStrictlyConvex, IsFlip, AreApart}
use Rattle.tri_core.specs.Slots.{IsCarried}
use Rattle.tri_core.proofs.Triangles.{half_apart}
use Rattle.tri_core.proofs.Flipped.{triangulation-flip}

-- what is carried with the new diagonal is the flip
pub flip-carried : (d : ℕ) (halves : List Half) (h : ℕ) (later : List Half) (u v : Vec2) → IsCarried halves h (twin_at halves h) u v (λ k. ⊥) later
    → vector u ≡ opposite_vector (quad_ops d) (vector_sum (quad_ops d) (vector_at halves (previous_of (twin_at halves h))) (vector_at halves (next_of h)))
    → vector v ≡ opposite_vector (quad_ops d) (vector u)
    → IsFlip d halves h later
flip-carried d halves h later u v carried diagonal opposite = record {
  count = carried.count;
  diagonal = ap vector carried.diagonal ∙ diagonal;
  opposite = ap vector carried.opposite ∙ opposite ∙ ap (λ w. opposite_vector (quad_ops d) (vector w)) (sym carried.diagonal);
  vectors = λ k below eh eg. ap vector (carried.vectors k below eh eg);
  twins = λ k below. carried.others k below (λ none. none);
}

-- the same where the half-edges, the field and the list behind the slice have other names
pub flip-named : (d field : ℕ) (halves xs ys : List Half) (h : ℕ) (later : List Half) (u v : Vec2) → xs ≡ halves → ys ≡ halves → d ≡ field
    → IsCarried ys h (twin_at ys h) u v (λ k. ⊥) later
    → vector u ≡ opposite_vector (quad_ops d) (vector_sum (quad_ops d) (vector_at xs (previous_of (twin_at xs h))) (vector_at xs (next_of h)))
    → vector v ≡ opposite_vector (quad_ops d) (vector u)
    → IsFlip field halves h later
flip-named d field halves xs ys h later u v ex ey ed carried diagonal opposite =
    let here : IsCarried halves h (twin_at halves h) u v (λ k. ⊥) later = subst (λ (l : List Half). IsCarried l h (twin_at l h) u v (λ k. ⊥) later) ey carried in
    let across : vector u ≡ opposite_vector (quad_ops d) (vector_sum (quad_ops d) (vector_at halves (previous_of (twin_at halves h))) (vector_at halves (next_of h))) =
    subst (λ (l : List Half). vector u ≡ opposite_vector (quad_ops d) (vector_sum (quad_ops d) (vector_at l (previous_of (twin_at l h))) (vector_at l (next_of h)))) ex diagonal in
    subst (λ (e : ℕ). IsFlip e halves h later) ed (flip-carried d halves h later u v here across opposite)

pub apart-named : (d : ℕ) (halves items xs : List Half) (h : ℕ) → items ≡ halves → xs ≡ items → IsTriangulation d items → h < length halves → AreApart xs h (twin_at xs h)
apart-named d halves items xs h ei ex valid below =
    subst (λ (l : List Half). AreApart l h (twin_at l h)) (sym ex) (half_apart d items h valid (subst (λ (l : List Half). h < length l) (sym ei) below))

-- the slice that is handed back holds the flip
pub handed-flip : (field : ℕ) (halves later rest : List Half) (h len : ℕ) → length later ≡ len → IsFlip field halves h later → IsFlip field halves h (take len (later ++ rest))
handed-flip field halves later rest h len e flip = rw (take_at later rest len e) flip

-- and so a triangulation
pub handed-triangulation : (field inner : ℕ) (halves items later rest : List Half) (h len : ℕ) → inner ≡ field → items ≡ halves → length later ≡ len
    → IsTriangulation inner items → IsEdge halves h → IsStrictlyConvex field halves h → IsFlip field halves h later
    → IsTriangulation inner (take len (later ++ rest))
handed-triangulation field inner halves items later rest h len ei el e valid edge convex flip =
    let old : IsTriangulation field halves = subst (λ (l : List Half). IsTriangulation field l) el (subst (λ (n : ℕ). IsTriangulation n items) ei valid) in
    rw (take_at later rest len e) (subst (λ (n : ℕ). IsTriangulation n later) (sym ei) (triangulation-flip field halves h later old edge.0 convex flip))
