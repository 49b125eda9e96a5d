-- The frame in lowest terms takes the canonical triangulation to the one that the serial is of.
use Rattle.std.proofs.Common.{◌≡◌, ℕ, zero, suc, ◌*◌, ◌<◌, List, [], ◌∷◌, length, refl, sym, ap, ◌∙◌, subst, arith}
use mathlib.Core.Path.{ap₂}
use Rattle.std.specs.Prelude.{ℤ, pos, ◌*ℤ◌, unsigned_abs}
use Rattle.std.proofs.Math.Nat.{mul_comm, mul-zero}
use Rattle.rings.specs.Ring.{Ops, var, expr}
use Rattle.rings.proofs.Solver.{identity}
use Rattle.quad_field.specs.declared.quad.Quad.{Quad}
use Rattle.quad_field.specs.FieldNumber.{IsFieldNumber}
use Rattle.quad_field.specs.Quads.{quad_ops}
use Rattle.quad_field.proofs.CallerLemmas.{quad_ring, order_of, scaled_is, natural_positive}
use Rattle.plane.specs.Vectors.{Vector}
use Rattle.tri_core.specs.declared.half.Half.{Half}
use Rattle.tri_core.specs.HalfEdges.{vector_at, next_of}
use Rattle.tri_core.specs.Triangulation.{IsTriangulation}
use Rattle.rings.specs.Vectors.{multiple_vector}
use Rattle.rings.specs.Matrices.{Matrix, mapped}
use Rattle.plane.specs.Matrices.{FieldMatrix, IsReducedTo}
use Rattle.tri_core.specs.Images.{IsImageBy, CarriesFrame}
use Rattle.canon_code.specs.Serials.{IsSerial}
use Rattle.canon_code.specs.Canonical.{canonical, frame}
use Rattle.rings.proofs.Factors.{cancel_positive}
use Rattle.tri_core.proofs.CallerLemmas.{frame_carried}
use Rattle.canon_code.proofs.Canonical.{canonical_valid, canonical_serial, framed, as_many}
use Rattle.canon_code.proofs.Reconstructed.{reconstructed, forth, back}

module _ (d : ℕ) (field : IsFieldNumber d) (halves : List Half) (h : ℕ) (code : List ℤ) (valid : IsTriangulation d halves) (below : h < length halves) (own : IsSerial d halves h code)
    (m : FieldMatrix) (r : IsReducedTo (frame halves h) (pos own.scale) m) where
  abbrev O : Ops Quad
  O = quad_ops d

  -- what is cancelled
  abbrev g : ℤ
  g = pos r.0

  number_is : pos own.scale ≡ pos m.denominator *ℤ g
  number_is = r.3 ∙ ap pos (mul_comm r.0 m.denominator)

  some_denominator : 0 < m.denominator
  some_denominator = go m.denominator refl
    where
      go : (n : ℕ) → m.denominator ≡ n → 0 < m.denominator
      go zero e =
          let scale : own.scale ≡ r.0 * 0 = ap unsigned_abs (r.3 ∙ ap (λ (k : ℕ). pos (r.0 * k)) e) in
          absurd (omega (arith, scale, mul-zero r.0, own.least.0.0))
      go (suc n) e = omega (arith, e)

  -- what is cancelled in the matrix and its denominator changes no map
  cancelled_map : (v w : Vector Quad) → multiple_vector (quad_ops d) ((quad_ops d).int (pos own.scale)) v ≡ mapped (quad_ops d) (frame halves h) w
      → multiple_vector (quad_ops d) ((quad_ops d).int (pos m.denominator)) v ≡ mapped (quad_ops d) m.rows w
  cancelled_map v w e =
      ap₂ (λ (s t : Quad). let u : Vector Quad = (s, t) in u)
      (coordinate (vector_at halves h).0 (vector_at halves (next_of h)).0 m.rows.0 m.rows.1 v.0
      (ap (λ (n : Matrix Quad). n.0) r.2 ∙ scaled_is d g m.rows.0) (ap (λ (n : Matrix Quad). n.1) r.2 ∙ scaled_is d g m.rows.1) (ap (λ (u : Vector Quad). u.0) e))
      (coordinate (vector_at halves h).1 (vector_at halves (next_of h)).1 m.rows.2 m.rows.3 v.1
      (ap (λ (n : Matrix Quad). n.2) r.2 ∙ scaled_is d g m.rows.2) (ap (λ (n : Matrix Quad). n.3) r.2 ∙ scaled_is d g m.rows.3) (ap (λ (u : Vector Quad). u.1) e))
    where
      coordinate : (a b p q x : Quad) → a ≡ O.mul (O.int g) p → b ≡ O.mul (O.int g) q → O.mul (O.int (pos own.scale)) x ≡ O.add (O.mul a w.0) (O.mul b w.1)
          → O.mul (O.int (pos m.denominator)) x ≡ O.add (O.mul p w.0) (O.mul q w.1)
      coordinate a b p q x ea eb ex =
          cancel_positive O (quad_ring d) (order_of d field) (O.int g) (O.mul (O.int (pos m.denominator)) x) (O.add (O.mul p w.0) (O.mul q w.1)) (natural_positive d r.0 r.1)
          (identity O (quad_ring d) (O.int g ∷ O.int (pos m.denominator) ∷ x ∷ []) (expr.mul (var 0) (expr.mul (var 1) (var 2))) (expr.mul (expr.mul (var 1) (var 0)) (var 2)) tt
          ∙ ap (λ y. O.mul y x) (sym ((quad_ring d).int-mul (pos m.denominator) g) ∙ ap O.int (sym number_is))
          ∙ ex ∙ ap₂ (λ s t. O.add (O.mul s w.0) (O.mul t w.1)) ea eb
          ∙ identity O (quad_ring d) (O.int g ∷ p ∷ q ∷ w.0 ∷ w.1 ∷ [])
          (expr.add (expr.mul (expr.mul (var 0) (var 1)) (var 3)) (expr.mul (expr.mul (var 0) (var 2)) (var 4))) (expr.mul (var 0) (expr.add (expr.mul (var 1) (var 3)) (expr.mul (var 2) (var 4)))) tt)

  some_there : 0 < length (canonical d code)
  some_there = omega (arith, below, as_many d field halves h code valid below own)

  pub frame_is : CarriesFrame d m.rows m.denominator (canonical d code) 0 halves h
  frame_is =
      let c = frame_carried d (frame halves h) own.scale (canonical d code) halves own.place own.number (framed d field halves h code valid below own)
      (canonical_valid d field halves h code valid below own) 0 some_there in
      let at : CarriesFrame d (frame halves h) own.scale (canonical d code) 0 halves h = subst (λ k. CarriesFrame d (frame halves h) own.scale (canonical d code) 0 halves k) own.numbering.start c in (
        cancelled_map (vector_at halves h) (vector_at (canonical d code) 0) at.0,
        cancelled_map (vector_at halves (next_of h)) (vector_at (canonical d code) (next_of 0)) at.1,
      )

  pub image_is : IsImageBy d m.rows m.denominator (canonical d code) halves
  image_is =
      let there = canonical_serial d field halves h code valid below own in
      let valid_there = canonical_valid d field halves h code valid below own in (
        forth d field (canonical d code) halves 0 h code valid_there valid some_there below there own,
        back d field (canonical d code) halves 0 h code valid_there valid some_there below there own,
        reconstructed d field (canonical d code) halves 0 h code valid_there valid some_there below there own m.rows m.denominator some_denominator frame_is,
      )
