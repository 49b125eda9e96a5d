-- Frames in 64 bits, and whole numbers over a divisor.
use Rattle.std.proofs.Common.{◌≡◌, ℕ, [], ◌∷◌, sym, ap, ◌∙◌, inl, inr}
use mathlib.Core.Path.{ap₂}
use Rattle.std.specs.Prelude.{ℤ, ◌⊎◌}
use Rattle.rings.specs.Ring.{Ops, var, expr}
use Rattle.rings.proofs.Solver.{identity}
use Rattle.quad_field.specs.declared.quad.Quad.{Quad}
use Rattle.quad_field.specs.Quads.{quad_ops, scaled}
use Rattle.quad_field.proofs.CallerLemmas.{quad_ring}
use Rattle.plane.specs.Vectors.{Vector, vector, det}
use Rattle.canon_code.specs.declared.coordinates.Frame.{Frame}
use Rattle.canon_code.specs.declared.small.SmallFrame.{SmallFrame}
use Rattle.canon_code.specs.Small.{quad_of, vector_of, IsSmallFrame}
use Rattle.canon_code.specs.WholeFrames.{IsWhole, IsNotWhole, IsNoMultiple, IsNoWholeMultiple}

-- a number isn't a multiple where one of its parts isn't
pub first_no_multiple : (g : ℤ) (x : Quad) → IsNoWholeMultiple g x.a → IsNoMultiple g x
first_no_multiple g x none = λ y e. none y.a (ap (λ (z : Quad). z.a) e)

pub second_no_multiple : (g : ℤ) (x : Quad) → IsNoWholeMultiple g x.b → IsNoMultiple g x
second_no_multiple g x none = λ y e. none y.b (ap (λ (z : Quad). z.b) e)

module _ (d : ℕ) where
  abbrev O : Ops Quad
  O = quad_ops d

  -- det(v, κ·g) = det(v, g)·κ
  turned_by : (v g w : Vector Quad) (κ : Quad) → w.0 ≡ O.mul κ g.0 → w.1 ≡ O.mul κ g.1 → det O v w ≡ O.mul (det O v g) κ
  turned_by v g w κ p q =
      ap₂ (λ (a b : Quad). O.sub (O.mul v.0 b) (O.mul v.1 a)) p q
      ∙ identity O (quad_ring d) (v.0 ∷ v.1 ∷ g.0 ∷ g.1 ∷ κ ∷ []) (expr.sub (expr.mul (var 0) (expr.mul (var 4) (var 3))) (expr.mul (var 1) (expr.mul (var 4) (var 2))))
      (expr.mul (expr.sub (expr.mul (var 0) (var 3)) (expr.mul (var 1) (var 2))) (var 4)) tt

  -- det(κ·e, v) = det(e, v)·κ
  turned_from : (v e w : Vector Quad) (κ : Quad) → w.0 ≡ O.mul κ e.0 → w.1 ≡ O.mul κ e.1 → det O w v ≡ O.mul (det O e v) κ
  turned_from v e w κ p q =
      ap₂ (λ (a b : Quad). O.sub (O.mul a v.1) (O.mul b v.0)) p q
      ∙ identity O (quad_ring d) (v.0 ∷ v.1 ∷ e.0 ∷ e.1 ∷ κ ∷ []) (expr.sub (expr.mul (expr.mul (var 4) (var 2)) (var 1)) (expr.mul (expr.mul (var 4) (var 3)) (var 0)))
      (expr.mul (expr.sub (expr.mul (var 2) (var 1)) (expr.mul (var 3) (var 0))) (var 4)) tt

  pub small_is : (frame : Frame) (divisor : ℤ) (small : SmallFrame) (κ : Quad) (e g : Vector Quad) → κ ≡ frame.conjugate → e ≡ vector frame.e → g ≡ vector frame.g
      → quad_of small.e.s ≡ O.mul κ e.0 → quad_of small.e.t ≡ O.mul κ e.1 → quad_of small.g.s ≡ O.mul κ g.0 → quad_of small.g.t ≡ O.mul κ g.1 → small.divisor ≡ divisor
      → IsSmallFrame d frame divisor small
  small_is frame divisor small κ e g is_κ is_e is_g a b x y same = record {
    first = λ v. turned_by v g (vector_of small.g) κ x y ∙ ap₂ (λ (u : Vector Quad) (z : Quad). O.mul (det O v u) z) is_g is_κ;
    second = λ v. turned_from v e (vector_of small.e) κ a b ∙ ap₂ (λ (u : Vector Quad) (z : Quad). O.mul (det O u v) z) is_e is_κ;
    same = same;
  }

  module _ (frame : Frame) (g : ℤ) (small : SmallFrame) (is : IsSmallFrame d frame g small) (v : Vector Quad) (s t : Quad)
      (first : s ≡ det O v (vector_of small.g)) (second : t ≡ det O (vector_of small.e) v) where
    -- multiples of the divisor are whole numbers of the formula
    pub whole_from : (w : Vector Quad) → s ≡ scaled small.divisor w.0 → t ≡ scaled small.divisor w.1 → IsWhole d frame g v w
    whole_from w p q = (
      sym (first ∙ is.first v) ∙ p ∙ ap (λ (n : ℤ). scaled n w.0) is.same,
      sym (second ∙ is.second v) ∙ q ∙ ap (λ (n : ℤ). scaled n w.1) is.same,
    )

    -- and others aren't
    pub none_from : IsNoMultiple small.divisor s ⊎ IsNoMultiple small.divisor t → IsNotWhole d frame g v
    none_from (inl none) = inl (λ y e. none y (first ∙ is.first v ∙ e ∙ ap (λ (n : ℤ). scaled n y) (sym is.same)))
    none_from (inr none) = inr (λ y e. none y (second ∙ is.second v ∙ e ∙ ap (λ (n : ℤ). scaled n y) (sym is.same)))
