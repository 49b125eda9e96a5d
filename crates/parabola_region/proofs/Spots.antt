-- The corner at a forward place.
use Rattle.std.proofs.Common.{ℕ}
use mathlib.Core.Logic.{inl, inr}
use Rattle.std.specs.Prelude.{◌⊎◌}
use Rattle.rings.specs.Forms.{inner_value}
use Rattle.rings.specs.Lines.{IsClosed, IsForward}
use Rattle.rings.proofs.Signs.{not_negative_or, never_below, never_positive}
use Rattle.quad_field.specs.declared.quad.Quad.{Quad}
use Rattle.quad_field.specs.FieldNumber.{IsFieldNumber}
use Rattle.quad_field.specs.Quads.{quad_ops, IsPositive, IsZero}
use Rattle.quad_field.proofs.CallerLemmas.{quad_ring, order_of, zero_is}
use Rattle.hinge_form.specs.Triples.{Triple}
use Rattle.parabola_region.specs.Corners.{NotNegative}

module _ (d : ℕ) (field : IsFieldNumber d) where
  not_negative_from : (x : Quad) → ¬ (IsPositive d ((quad_ops d).neg x)) → NotNegative d x
  not_negative_from x h = go (not_negative_or (quad_ops d) (quad_ring d) (order_of d field) x)
    where
      go : NotNegative d x ⊎ IsPositive d ((quad_ops d).neg x) → NotNegative d x
      go (inl n) = n
      go (inr p) = absurd (h p)

  pub not_closed_third : (q : Triple) → IsPositive d ((quad_ops d).neg q.2) → ¬ (IsClosed (quad_ops d) (IsPositive d) q)
  not_closed_third q p c = never_below (quad_ops d) (quad_ring d) (order_of d field) q.2 c.third p

  pub not_closed_inner : (q : Triple) → IsPositive d ((quad_ops d).neg (inner_value (quad_ops d) q)) → ¬ (IsClosed (quad_ops d) (IsPositive d) q)
  not_closed_inner q p c = never_below (quad_ops d) (quad_ring d) (order_of d field) (inner_value (quad_ops d) q) c.inner p

  forward_first : (q : Triple) → IsForward (quad_ops d) (IsPositive d) q → NotNegative d q.0
  forward_first q (inl p) = inr p
  forward_first q (inr h) = inl h.0

  module _ (q : Triple) (forward : IsForward (quad_ops d) (IsPositive d) q) (third : ¬ (IsPositive d ((quad_ops d).neg q.2))) where
    pub closed_zero : IsZero (inner_value (quad_ops d) q) → IsClosed (quad_ops d) (IsPositive d) q
    closed_zero z = record { first = forward_first q forward; third = not_negative_from q.2 third; inner = inl (zero_is d (inner_value (quad_ops d) q) z) }

    pub closed_plus : IsPositive d (inner_value (quad_ops d) q) → IsClosed (quad_ops d) (IsPositive d) q
    closed_plus p = record { first = forward_first q forward; third = not_negative_from q.2 third; inner = inr p }

    pub plus_not_zero : IsPositive d (inner_value (quad_ops d) q) → ¬ (IsZero (inner_value (quad_ops d) q))
    plus_not_zero p z = never_positive (quad_ops d) (quad_ring d) (order_of d field) _ (zero_is d (inner_value (quad_ops d) q) z) p
