-- A positive factor is cancelled, in every ordered ring.
use Rattle.std.proofs.Common.{◌≡◌, sym, ap, ◌∙◌, [], ◌∷◌}
use Rattle.std.specs.Prelude.{pos}
use Rattle.rings.specs.Ring.{Ops, IsRing, var, expr}
use Rattle.rings.specs.Order.{IsOrdered}
use Rattle.rings.specs.Vectors.{Vector, multiple_vector, zero_vector}
use Rattle.rings.specs.Lines.{Triple, multiple, zero_triple}
use Rattle.rings.proofs.Solver.{identity}
use Rattle.rings.proofs.Ordered.{cancel_factor}
use Rattle.rings.proofs.Signs.{not_zero}

module _ {R : Type 0} (O : Ops R) (L : IsRing O) {P : R → Type 0} (Q : IsOrdered O P) where
  -- c·a = c·b with c > 0 gives a = b
  pub cancel_positive : (c a b : R) → P c → O.mul c a ≡ O.mul c b → a ≡ b
  cancel_positive c a b p e = cancel_factor O L Q c a b (not_zero O L Q c p) e

  -- c·0 = 0
  zero_product : (c : R) → O.mul c (O.int (pos 0)) ≡ O.int (pos 0)
  zero_product c = identity O L (c ∷ []) (expr.mul (var 0) (expr.int (pos 0))) (expr.int (pos 0)) tt

  -- c·a = 0 with c > 0 gives a = 0
  pub cancel_zero : (c a : R) → P c → O.mul c a ≡ O.int (pos 0) → a ≡ O.int (pos 0)
  cancel_zero c a p e = cancel_positive c a (O.int (pos 0)) p (e ∙ sym (zero_product c))

  -- the same of vectors
  pub cancel_vector : (c : R) (u v : Vector R) → P c → multiple_vector O c u ≡ multiple_vector O c v → u ≡ v
  cancel_vector c u v p e i = (
    cancel_positive c u.0 v.0 p (ap (λ (w : Vector R). w.0) e) i,
    cancel_positive c u.1 v.1 p (ap (λ (w : Vector R). w.1) e) i,
  )

  pub cancel_zero_vector : (c : R) (u : Vector R) → P c → multiple_vector O c u ≡ zero_vector O → u ≡ zero_vector O
  cancel_zero_vector c u p e i = (
    cancel_zero c u.0 p (ap (λ (w : Vector R). w.0) e) i,
    cancel_zero c u.1 p (ap (λ (w : Vector R). w.1) e) i,
  )

  -- and of triples
  pub cancel_triple : (c : R) (l k : Triple R) → P c → multiple O c l ≡ multiple O c k → l ≡ k
  cancel_triple c l k p e i = (
    cancel_positive c l.0 k.0 p (ap (λ (m : Triple R). m.0) e) i,
    cancel_positive c l.1 k.1 p (ap (λ (m : Triple R). m.1) e) i,
    cancel_positive c l.2 k.2 p (ap (λ (m : Triple R). m.2) e) i,
  )

  pub cancel_zero_triple : (c : R) (l : Triple R) → P c → multiple O c l ≡ zero_triple O → l ≡ zero_triple O
  cancel_zero_triple c l p e i = (
    cancel_zero c l.0 p (ap (λ (m : Triple R). m.0) e) i,
    cancel_zero c l.1 p (ap (λ (m : Triple R). m.1) e) i,
    cancel_zero c l.2 p (ap (λ (m : Triple R). m.2) e) i,
  )
