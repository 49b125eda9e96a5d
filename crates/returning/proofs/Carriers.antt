-- Two matrices that take one frame to one frame have one value.
use Rattle.std.proofs.Common.{◌≡◌, ℕ, List, [], ◌∷◌, sym, ap, ◌∙◌}
use Rattle.std.specs.Prelude.{pos}
use Rattle.rings.specs.Ring.{Ops, IsRing, var, expr}
use Rattle.rings.specs.Order.{IsOrdered}
use Rattle.rings.specs.Forms.{det}
use Rattle.rings.specs.Vectors.{Vector, multiple_vector}
use Rattle.rings.specs.Matrices.{Matrix, mapped, multiple_matrix}
use Rattle.rings.proofs.Solver.{identity}
use Rattle.rings.proofs.Factors.{cancel_positive}
use Rattle.quad_field.specs.FieldNumber.{IsFieldNumber}
use Rattle.quad_field.specs.Quads.{quad_ops}
use Rattle.quad_field.proofs.CallerLemmas.{quad_ring, order_of}
use Rattle.plane.specs.Matrices.{FieldMatrix, HaveOneValue}
use Rattle.plane.proofs.CallerLemmas.{scaled_rows}
use Rattle.tri_core.specs.declared.half.Half.{Half}
use Rattle.tri_core.specs.HalfEdges.{vector_at, next_of}
use Rattle.tri_core.specs.Triangulation.{TurnsInto}
use Rattle.tri_core.specs.Images.{CarriesFrame}

module _ {R : Type 0} (O : Ops R) (L : IsRing O) {P : R → Type 0} (Q : IsOrdered O P) where
  -- (c·n)·u = c·(n·u), and c·(b·x) = b·(c·x)
  multiple_mapped : (c : R) (n : Matrix R) (u : Vector R) → mapped O (multiple_matrix O c n) u ≡ multiple_vector O c (mapped O n u)
  multiple_mapped c n u i = (one n.0 n.1 i, one n.2 n.3 i)
    where
      one : (p q : R) → O.add (O.mul (O.mul c p) u.0) (O.mul (O.mul c q) u.1) ≡ O.mul c (O.add (O.mul p u.0) (O.mul q u.1))
      one p q =
          identity O L (c ∷ p ∷ q ∷ u.0 ∷ u.1 ∷ []) (expr.add (expr.mul (expr.mul (var 0) (var 1)) (var 3)) (expr.mul (expr.mul (var 0) (var 2)) (var 4)))
          (expr.mul (var 0) (expr.add (expr.mul (var 1) (var 3)) (expr.mul (var 2) (var 4)))) tt

  multiples_swapped : (c b : R) (x : Vector R) → multiple_vector O c (multiple_vector O b x) ≡ multiple_vector O b (multiple_vector O c x)
  multiples_swapped c b x i = (one x.0 i, one x.1 i)
    where
      one : (t : R) → O.mul c (O.mul b t) ≡ O.mul b (O.mul c t)
      one t = identity O L (c ∷ b ∷ t ∷ []) (expr.mul (var 0) (expr.mul (var 1) (var 2))) (expr.mul (var 1) (expr.mul (var 0) (var 2))) tt

  -- two rows that agree at u and at v, where u turns to the left into v
  one_row : (p q r s : R) (u v : Vector R) → P (det O u v) → O.add (O.mul p u.0) (O.mul q u.1) ≡ O.add (O.mul r u.0) (O.mul s u.1)
      → O.add (O.mul p v.0) (O.mul q v.1) ≡ O.add (O.mul r v.0) (O.mul s v.1) → (p ≡ r) × (q ≡ s)
  one_row p q r s u v turns e f = (
    cancel_positive O L Q (det O u v) p r turns (first p q ∙ (λ i. O.sub (O.mul (e i) v.1) (O.mul (f i) u.1)) ∙ sym (first r s)),
    cancel_positive O L Q (det O u v) q s turns (second p q ∙ (λ i. O.sub (O.mul (f i) u.0) (O.mul (e i) v.0)) ∙ sym (second r s)),
  )
    where
      first : (p q : R) → O.mul (det O u v) p ≡ O.sub (O.mul (O.add (O.mul p u.0) (O.mul q u.1)) v.1) (O.mul (O.add (O.mul p v.0) (O.mul q v.1)) u.1)
      first p q =
          identity O L (p ∷ q ∷ u.0 ∷ u.1 ∷ v.0 ∷ v.1 ∷ []) (expr.mul (det expr (var 2, var 3) (var 4, var 5)) (var 0))
          (expr.sub (expr.mul (expr.add (expr.mul (var 0) (var 2)) (expr.mul (var 1) (var 3))) (var 5)) (expr.mul (expr.add (expr.mul (var 0) (var 4)) (expr.mul (var 1) (var 5))) (var 3))) tt

      second : (p q : R) → O.mul (det O u v) q ≡ O.sub (O.mul (O.add (O.mul p v.0) (O.mul q v.1)) u.0) (O.mul (O.add (O.mul p u.0) (O.mul q u.1)) v.0)
      second p q =
          identity O L (p ∷ q ∷ u.0 ∷ u.1 ∷ v.0 ∷ v.1 ∷ []) (expr.mul (det expr (var 2, var 3) (var 4, var 5)) (var 1))
          (expr.sub (expr.mul (expr.add (expr.mul (var 0) (var 4)) (expr.mul (var 1) (var 5))) (var 2)) (expr.mul (expr.add (expr.mul (var 0) (var 2)) (expr.mul (var 1) (var 3))) (var 4))) tt

  -- matrices that agree at u and at v are equal
  one_matrix : (n k : Matrix R) (u v : Vector R) → P (det O u v) → mapped O n u ≡ mapped O k u → mapped O n v ≡ mapped O k v → n ≡ k
  one_matrix n k u v turns e f =
      let a = one_row n.0 n.1 k.0 k.1 u v turns (ap (λ (x : Vector R). x.0) e) (ap (λ (x : Vector R). x.0) f) in
      let b = one_row n.2 n.3 k.2 k.3 u v turns (ap (λ (x : Vector R). x.1) e) (ap (λ (x : Vector R). x.1) f) in
      λ i. (a.0 i, a.1 i, b.0 i, b.1 i)

  -- n/m and k/j that take u to x and v to y: j·n = m·k
  one_frame : (n k : Matrix R) (m j : R) (u v x y : Vector R) → P (det O u v) → multiple_vector O m x ≡ mapped O n u → multiple_vector O m y ≡ mapped O n v
      → multiple_vector O j x ≡ mapped O k u → multiple_vector O j y ≡ mapped O k v → multiple_matrix O j n ≡ multiple_matrix O m k
  one_frame n k m j u v x y turns nx ny kx ky = one_matrix (multiple_matrix O j n) (multiple_matrix O m k) u v turns (agree u x nx kx) (agree v y ny ky)
    where
      agree : (u x : Vector R) → multiple_vector O m x ≡ mapped O n u → multiple_vector O j x ≡ mapped O k u → mapped O (multiple_matrix O j n) u ≡ mapped O (multiple_matrix O m k) u
      agree u x e f = multiple_mapped j n u ∙ ap (multiple_vector O j) (sym e) ∙ multiples_swapped j m x ∙ ap (multiple_vector O m) f ∙ sym (multiple_mapped m k u)

pub one_value_of_frame : (d : ℕ) → IsFieldNumber d → (from to : List Half) (h k : ℕ) (a b : FieldMatrix) → TurnsInto d from h (next_of h)
    → CarriesFrame d a.rows a.denominator from h to k → CarriesFrame d b.rows b.denominator from h to k → HaveOneValue a b
one_value_of_frame d field from to h k a b turns p q =
    scaled_rows d (pos b.denominator) a.rows
    ∙ one_frame (quad_ops d) (quad_ring d) (order_of d field) a.rows b.rows ((quad_ops d).int (pos a.denominator)) ((quad_ops d).int (pos b.denominator))
    (vector_at from h) (vector_at from (next_of h)) (vector_at to k) (vector_at to (next_of k)) turns p.0 p.1 q.0 q.1
    ∙ sym (scaled_rows d (pos a.denominator) b.rows)
