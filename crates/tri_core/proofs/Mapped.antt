-- The image of a triangulation by a matrix of positive determinant is a triangulation.
use Rattle.std.proofs.Common.{◌≡◌, ℕ, ◌+◌, ◌*◌, ◌<◌, IsTrue, List, [], ◌∷◌, length, refl, sym, ◌∙◌, ap, subst, arith}
use Rattle.std.specs.Prelude.{pos}
use Rattle.rings.specs.Ring.{var, expr, Expr}
use Rattle.rings.specs.Forms.{det}
use Rattle.rings.specs.Vectors.{Vector, vector_sum, opposite_vector, zero_vector}
use Rattle.rings.specs.Matrices.{Matrix, mapped, matrix_det}
use Rattle.rings.proofs.Solver.{identity}
use Rattle.rings.proofs.Matrices.{det_mapped}
use Rattle.quad_field.specs.declared.quad.Quad.{Quad}
use Rattle.quad_field.specs.FieldNumber.{IsFieldNumber}
use Rattle.quad_field.specs.Quads.{quad_ops, IsPositive}
use Rattle.quad_field.proofs.CallerLemmas.{quad_ring, order_of}
use Rattle.tri_core.specs.declared.half.Half.{Half}
use Rattle.tri_core.specs.HalfEdges.{vector_at, twin_at, triangle_of}
use Rattle.tri_core.specs.Triangulation.{IsTriangulation, IsTriangle, IsJoined}
use Rattle.tri_core.specs.Images.{IsImage}
use Rattle.tri_core.specs.Mapped.{AreChanged, AreMapped}
use Rattle.tri_core.specs.Walks.{AreGlued}
use Rattle.tri_core.proofs.Quadrilaterals.{vectors_equal}
use Rattle.tri_core.proofs.Images.{one_vector}

-- ---- half-edges with changed vectors are glued as before
module _ (change : Vector Quad → Vector Quad) (halves later : List Half) (changed : AreChanged change halves later) where
  before : (k : ℕ) → k < length later → k < length halves
  before k below = subst (λ (l : ℕ). k < l) changed.count below

  after : (k : ℕ) → k < length halves → k < length later
  after k below = subst (λ (l : ℕ). k < l) (sym changed.count) below

  module _ (d : ℕ) (valid : IsTriangulation d halves) where
    pub changed_inside : (k : ℕ) → k < length later → twin_at later k < length later
    changed_inside k below =
        let old = before k below in
        subst (λ (m : ℕ). m < length later) (sym (changed.twins k old)) (after (twin_at halves k) (valid.paired k old).0)

    pub changed_back : (k : ℕ) → k < length later → twin_at later (twin_at later k) ≡ k
    changed_back k below =
        let old = before k below in
        ap (twin_at later) (changed.twins k old) ∙ changed.twins (twin_at halves k) (valid.paired k old).0 ∙ (valid.paired k old).1

    pub changed_joined : (t : ℕ) → IsTriangle later t → IsJoined later t
    changed_joined t there = λ set start closed.
        valid.joined t (before (3 * t) there) set start (λ h below holds.
        subst (λ (m : ℕ). IsTrue (set (triangle_of m))) (changed.twins h below) (closed h (after h below) holds))

    pub changed_glued : AreGlued later
    changed_glued = record {
      count = let count = valid.count in let same = changed.count in (omega (arith, count.0), omega (arith, count.1), omega (arith, count.2));
      pairs = record { inside = changed_inside; back = changed_back };
      joined = changed_joined;
    }

-- ---- mapped vectors
-- a matrix and three vectors of variables
abbrev n' : Matrix Expr
n' = (var 0, var 1, var 2, var 3)

abbrev u' : Vector Expr
u' = (var 4, var 5)

abbrev v' : Vector Expr
v' = (var 6, var 7)

abbrev w' : Vector Expr
w' = (var 8, var 9)

module _ (d : ℕ) (n : Matrix Quad) where
  -- n·u + n·v + n·w = n·(u + v + w)
  mapped_sum : (u v w : Vector Quad) → let O = quad_ops d in
      vector_sum O (vector_sum O (mapped O n u) (mapped O n v)) (mapped O n w) ≡ mapped O n (vector_sum O (vector_sum O u v) w)
  mapped_sum u v w =
      let O = quad_ops d in
      let values = n.0 ∷ n.1 ∷ n.2 ∷ n.3 ∷ u.0 ∷ u.1 ∷ v.0 ∷ v.1 ∷ w.0 ∷ w.1 ∷ [] in
      let sums = vector_sum expr (vector_sum expr (mapped expr n' u') (mapped expr n' v')) (mapped expr n' w') in
      let image = mapped expr n' (vector_sum expr (vector_sum expr u' v') w') in
      vectors_equal O (quad_ring d) _ _ (identity O (quad_ring d) values sums.0 image.0 tt) (identity O (quad_ring d) values sums.1 image.1 tt)

  -- n·0 = 0
  mapped_zero : let O = quad_ops d in mapped O n (zero_vector O) ≡ zero_vector O
  mapped_zero =
      let O = quad_ops d in
      let values = n.0 ∷ n.1 ∷ n.2 ∷ n.3 ∷ [] in
      let image = mapped expr n' (zero_vector expr) in
      vectors_equal O (quad_ring d) _ _ (identity O (quad_ring d) values image.0 (expr.int (pos 0)) tt) (identity O (quad_ring d) values image.1 (expr.int (pos 0)) tt)

  -- n·(-u) = -(n·u)
  mapped_opposite : (u : Vector Quad) → let O = quad_ops d in mapped O n (opposite_vector O u) ≡ opposite_vector O (mapped O n u)
  mapped_opposite u =
      let O = quad_ops d in
      let values = n.0 ∷ n.1 ∷ n.2 ∷ n.3 ∷ u.0 ∷ u.1 ∷ [] in
      let image = mapped expr n' (opposite_vector expr u') in
      let opposite = opposite_vector expr (mapped expr n' u') in
      vectors_equal O (quad_ring d) _ _ (identity O (quad_ring d) values image.0 opposite.0 tt) (identity O (quad_ring d) values image.1 opposite.1 tt)

  module _ (halves later : List Half) (are : AreMapped d n halves later) where
    -- it is the image
    pub mapped_image : IsImage d n 1 halves later (λ k. k) (λ k. k)
    mapped_image = record {
      denominator = omega arith;
      count = are.count;
      each_once = record { forth_inside = λ k below. below; back_inside = λ k below. below; back_forth = λ k below. refl; forth_back = λ k below. refl };
      next = λ k below. refl;
      twin = λ k below. sym (are.twins k below);
      vectors = λ k below. one_vector d (vector_at later k) ∙ are.vectors k below;
    }

    -- and a triangulation
    pub mapped_valid : IsFieldNumber d → IsPositive d (matrix_det (quad_ops d) n) → IsTriangulation d halves → IsTriangulation d later
    mapped_valid field positive valid = record {
      count = (changed_glued (mapped (quad_ops d) n) halves later are d valid).count;
      closed = λ t there.
          let O = quad_ops d in
          let old = before (mapped O n) halves later are (3 * t) there in
          let whole = valid.count.0 in
          let first = are.vectors (3 * t) old in
          let second = are.vectors (3 * t + 1) (omega arith) in
          let third = are.vectors (3 * t + 2) (omega arith) in
          (λ i. vector_sum O (vector_sum O (first i) (second i)) (third i))
          ∙ mapped_sum (vector_at halves (3 * t)) (vector_at halves (3 * t + 1)) (vector_at halves (3 * t + 2)) ∙ ap (mapped O n) (valid.closed t old) ∙ mapped_zero;
      turns = λ t there.
          let O = quad_ops d in
          let old = before (mapped O n) halves later are (3 * t) there in
          let whole = valid.count.0 in
          let u = vector_at halves (3 * t) in
          let v = vector_at halves (3 * t + 1) in
          let first = are.vectors (3 * t) old in
          let second = are.vectors (3 * t + 1) (omega arith) in
          subst (IsPositive d) (sym (det_mapped O (quad_ring d) n u v) ∙ (λ i. det O (sym first i) (sym second i)))
          ((order_of d field).product (matrix_det O n) (det O u v) positive (valid.turns t old));
      paired = λ h below.
          let O = quad_ops d in
          let old = before (mapped O n) halves later are h below in
          let pair = valid.paired h old in (
            changed_inside (mapped O n) halves later are d valid h below,
            changed_back (mapped O n) halves later are d valid h below,
            ap (vector_at later) (are.twins h old) ∙ are.vectors (twin_at halves h) pair.0 ∙ ap (mapped O n) pair.2 ∙ mapped_opposite (vector_at halves h)
                ∙ ap (opposite_vector O) (sym (are.vectors h old)),
          );
      joined = changed_joined (mapped (quad_ops d) n) halves later are d valid;
    }
