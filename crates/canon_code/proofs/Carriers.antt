-- The matrix that takes the canonical triangulation's first half-edges to a start and the next one: it takes the whole triangulation, and is one only.
use Rattle.std.proofs.Common.{◌≡◌, ℕ, ◌<◌, List, [], ◌∷◌, length, sym, ap, ◌∙◌, arith}
use mathlib.Core.Path.{ap₂}
use Rattle.std.specs.Prelude.{ℤ, pos}
use Rattle.rings.specs.Ring.{Ops, IsRing, var, expr}
use Rattle.rings.specs.Order.{IsOrdered}
use Rattle.rings.proofs.Solver.{identity}
use Rattle.rings.proofs.Factors.{cancel_positive}
use Rattle.rings.specs.Vectors.{Vector}
use Rattle.rings.specs.Matrices.{Matrix}
use Rattle.quad_field.specs.declared.quad.Quad.{Quad}
use Rattle.quad_field.specs.FieldNumber.{IsFieldNumber}
use Rattle.quad_field.specs.Quads.{quad_ops, scaled}
use Rattle.quad_field.proofs.CallerLemmas.{quad_ring, order_of, scaled_is}
use Rattle.plane.specs.Vectors.{det}
use Rattle.plane.specs.Matrices.{FieldMatrix, IsInLowestTerms, HaveOneValue}
use Rattle.plane.proofs.CallerLemmas.{one_value}
use Rattle.tri_core.specs.declared.half.Half.{Half}
use Rattle.tri_core.specs.HalfEdges.{vector_at, next_of}
use Rattle.tri_core.specs.Triangulation.{IsTriangulation, TurnsInto}
use Rattle.tri_core.specs.Images.{IsImageBy, CarriesFrame}
use Rattle.canon_code.specs.Serials.{IsSerial}
use Rattle.canon_code.specs.Canonical.{canonical}
use Rattle.canon_code.proofs.Canonical.{canonical_valid, canonical_serial, as_many}
use Rattle.canon_code.proofs.Reconstructed.{reconstructed, forth, back}

module _ {R : Type 0} (O : Ops R) (L : IsRing O) {P : R → Type 0} (Q : IsOrdered O P) where
  -- two rows that take e and g to the same numbers, over two denominators
  one_row : (m k a b c f x y : R) (e g : Vector R) → P (det O e g)
      → O.mul m x ≡ O.add (O.mul a e.0) (O.mul b e.1) → O.mul m y ≡ O.add (O.mul a g.0) (O.mul b g.1)
      → O.mul k x ≡ O.add (O.mul c e.0) (O.mul f e.1) → O.mul k y ≡ O.add (O.mul c g.0) (O.mul f g.1)
      → (O.mul k a ≡ O.mul m c) × (O.mul k b ≡ O.mul m f)
  one_row m k a b c f x y e g p ax ay cx cy = (
    cancel_positive O L Q (det O e g) _ _ p
        (first k a b ∙ ap₂ (λ s t. O.mul k (O.sub (O.mul s g.1) (O.mul t e.1))) (sym ax) (sym ay) ∙ moved k m g.1 e.1
        ∙ ap₂ (λ s t. O.mul m (O.sub (O.mul s g.1) (O.mul t e.1))) cx cy ∙ sym (first m c f)),
    cancel_positive O L Q (det O e g) _ _ p
        (second k a b ∙ ap₂ (λ s t. O.mul k (O.sub (O.mul t e.0) (O.mul s g.0))) (sym ax) (sym ay) ∙ moved_second k m g.0 e.0
        ∙ ap₂ (λ s t. O.mul m (O.sub (O.mul t e.0) (O.mul s g.0))) cx cy ∙ sym (second m c f)),
  )
    where
      first : (n u v : R) → O.mul (det O e g) (O.mul n u) ≡ O.mul n (O.sub (O.mul (O.add (O.mul u e.0) (O.mul v e.1)) g.1) (O.mul (O.add (O.mul u g.0) (O.mul v g.1)) e.1))
      first n u v =
          identity O L (e.0 ∷ e.1 ∷ g.0 ∷ g.1 ∷ n ∷ u ∷ v ∷ [])
          (expr.mul (expr.sub (expr.mul (var 0) (var 3)) (expr.mul (var 1) (var 2))) (expr.mul (var 4) (var 5)))
          (expr.mul (var 4) (expr.sub (expr.mul (expr.add (expr.mul (var 5) (var 0)) (expr.mul (var 6) (var 1))) (var 3)) (expr.mul (expr.add (expr.mul (var 5) (var 2)) (expr.mul (var 6) (var 3))) (var 1)))) tt

      second : (n u v : R) → O.mul (det O e g) (O.mul n v) ≡ O.mul n (O.sub (O.mul (O.add (O.mul u g.0) (O.mul v g.1)) e.0) (O.mul (O.add (O.mul u e.0) (O.mul v e.1)) g.0))
      second n u v =
          identity O L (e.0 ∷ e.1 ∷ g.0 ∷ g.1 ∷ n ∷ u ∷ v ∷ [])
          (expr.mul (expr.sub (expr.mul (var 0) (var 3)) (expr.mul (var 1) (var 2))) (expr.mul (var 4) (var 6)))
          (expr.mul (var 4) (expr.sub (expr.mul (expr.add (expr.mul (var 5) (var 2)) (expr.mul (var 6) (var 3))) (var 0)) (expr.mul (expr.add (expr.mul (var 5) (var 0)) (expr.mul (var 6) (var 1))) (var 2)))) tt

      moved : (n q s t : R) → O.mul n (O.sub (O.mul (O.mul q x) s) (O.mul (O.mul q y) t)) ≡ O.mul q (O.sub (O.mul (O.mul n x) s) (O.mul (O.mul n y) t))
      moved n q s t =
          identity O L (n ∷ q ∷ s ∷ t ∷ x ∷ y ∷ [])
          (expr.mul (var 0) (expr.sub (expr.mul (expr.mul (var 1) (var 4)) (var 2)) (expr.mul (expr.mul (var 1) (var 5)) (var 3))))
          (expr.mul (var 1) (expr.sub (expr.mul (expr.mul (var 0) (var 4)) (var 2)) (expr.mul (expr.mul (var 0) (var 5)) (var 3)))) tt

      moved_second : (n q s t : R) → O.mul n (O.sub (O.mul (O.mul q y) t) (O.mul (O.mul q x) s)) ≡ O.mul q (O.sub (O.mul (O.mul n y) t) (O.mul (O.mul n x) s))
      moved_second n q s t =
          identity O L (n ∷ q ∷ s ∷ t ∷ x ∷ y ∷ [])
          (expr.mul (var 0) (expr.sub (expr.mul (expr.mul (var 1) (var 5)) (var 3)) (expr.mul (expr.mul (var 1) (var 4)) (var 2))))
          (expr.mul (var 1) (expr.sub (expr.mul (expr.mul (var 0) (var 5)) (var 3)) (expr.mul (expr.mul (var 0) (var 4)) (var 2)))) tt

module _ (d : ℕ) (field : IsFieldNumber d) where
  -- one matrix in lowest terms takes the frame of a half-edge, which turns into the next, to that of another
  pub one_carrier : (from : List Half) (h : ℕ) (to : List Half) (k : ℕ) (a b : FieldMatrix) → TurnsInto d from h (next_of h)
      → CarriesFrame d a.rows a.denominator from h to k → CarriesFrame d b.rows b.denominator from h to k → IsInLowestTerms a → IsInLowestTerms b → a ≡ b
  one_carrier from h to k a b turns ca cb low lowest = one_value a b low lowest same
    where
      top : ((quad_ops d).mul ((quad_ops d).int (pos b.denominator)) a.rows.0 ≡ (quad_ops d).mul ((quad_ops d).int (pos a.denominator)) b.rows.0)
          × ((quad_ops d).mul ((quad_ops d).int (pos b.denominator)) a.rows.1 ≡ (quad_ops d).mul ((quad_ops d).int (pos a.denominator)) b.rows.1)
      top = one_row (quad_ops d) (quad_ring d) (order_of d field) ((quad_ops d).int (pos a.denominator)) ((quad_ops d).int (pos b.denominator)) a.rows.0 a.rows.1 b.rows.0 b.rows.1
          (vector_at to k).0 (vector_at to (next_of k)).0 (vector_at from h) (vector_at from (next_of h)) turns
          (ap (λ (v : Vector Quad). v.0) ca.0) (ap (λ (v : Vector Quad). v.0) ca.1) (ap (λ (v : Vector Quad). v.0) cb.0) (ap (λ (v : Vector Quad). v.0) cb.1)

      low_row : ((quad_ops d).mul ((quad_ops d).int (pos b.denominator)) a.rows.2 ≡ (quad_ops d).mul ((quad_ops d).int (pos a.denominator)) b.rows.2)
          × ((quad_ops d).mul ((quad_ops d).int (pos b.denominator)) a.rows.3 ≡ (quad_ops d).mul ((quad_ops d).int (pos a.denominator)) b.rows.3)
      low_row = one_row (quad_ops d) (quad_ring d) (order_of d field) ((quad_ops d).int (pos a.denominator)) ((quad_ops d).int (pos b.denominator)) a.rows.2 a.rows.3 b.rows.2 b.rows.3
          (vector_at to k).1 (vector_at to (next_of k)).1 (vector_at from h) (vector_at from (next_of h)) turns
          (ap (λ (v : Vector Quad). v.1) ca.0) (ap (λ (v : Vector Quad). v.1) ca.1) (ap (λ (v : Vector Quad). v.1) cb.0) (ap (λ (v : Vector Quad). v.1) cb.1)

      entry : (x y : Quad) → (quad_ops d).mul ((quad_ops d).int (pos b.denominator)) x ≡ (quad_ops d).mul ((quad_ops d).int (pos a.denominator)) y
          → scaled (pos b.denominator) x ≡ scaled (pos a.denominator) y
      entry x y e = scaled_is d (pos b.denominator) x ∙ e ∙ sym (scaled_is d (pos a.denominator) y)

      same : HaveOneValue a b
      same i = (entry a.rows.0 b.rows.0 top.0 i, entry a.rows.1 b.rows.1 top.1 i, entry a.rows.2 b.rows.2 low_row.0 i, entry a.rows.3 b.rows.3 low_row.1 i)

  -- what takes the canonical triangulation's first half-edges to a start and the next one takes the whole triangulation
  pub image_of_frame : (halves : List Half) (h : ℕ) (code : List ℤ) (n : Matrix Quad) (m : ℕ) → IsTriangulation d halves → h < length halves → IsSerial d halves h code → 0 < m
      → CarriesFrame d n m (canonical d code) 0 halves h → IsImageBy d n m (canonical d code) halves
  image_of_frame halves h code n m valid below own some frame =
      let some_there : 0 < length (canonical d code) = omega (arith, below, as_many d field halves h code valid below own) in
      let there = canonical_serial d field halves h code valid below own in
      let valid_there = canonical_valid d field halves h code valid below own in (
        forth d field (canonical d code) halves 0 h code valid_there valid some_there below there own,
        back d field (canonical d code) halves 0 h code valid_there valid some_there below there own,
        reconstructed d field (canonical d code) halves 0 h code valid_there valid some_there below there own n m some frame,
      )
