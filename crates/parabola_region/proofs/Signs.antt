-- Signs, turned or not.
use Rattle.std.proofs.Common.{◌≡◌, ℕ, [], ◌∷◌, Bool, true, false, subst, sym, refl, ap, ◌∙◌}
use Rattle.std.specs.Prelude.{pos}
use Rattle.std.proofs.lemmas.Bool.{false≢true}
use mathlib.Core.Bool.{beq, not}
use Rattle.rings.specs.Ring.{var, expr}
use Rattle.rings.proofs.Solver.{identity}
use Rattle.rings.proofs.Ordered.{product_of_negatives, product_negative}
use Rattle.quad_field.specs.declared.quad.Quad.{Quad}
use Rattle.quad_field.specs.declared.quad.Sign.{Sign}
use Rattle.quad_field.specs.FieldNumber.{IsFieldNumber}
use Rattle.quad_field.specs.Quads.{quad_ops, IsPositive, IsZero, IsSign}
use Rattle.quad_field.proofs.CallerLemmas.{quad_ring, order_of, zero_is, is_zero_from}
use Rattle.parabola_region.specs.Stretches.{turned_value}

module _ (d : ℕ) where
  twice : (x : Quad) → (quad_ops d).neg ((quad_ops d).neg x) ≡ x
  twice x = identity (quad_ops d) (quad_ring d) (x ∷ []) (expr.neg (expr.neg (var 0))) (var 0) tt

  pub zero_turned : (x : Quad) → IsZero x → IsZero ((quad_ops d).neg x)
  zero_turned x z =
      is_zero_from d ((quad_ops d).neg x) (ap (quad_ops d).neg (zero_is d x z) ∙ identity (quad_ops d) (quad_ring d) [] (expr.neg (expr.int (pos 0))) (expr.int (pos 0)) tt)

  pub plus_turned : (x : Quad) → IsPositive d x → IsPositive d ((quad_ops d).neg ((quad_ops d).neg x))
  plus_turned x p = subst (IsPositive d) (sym (twice x)) p

-- a product of two values of one direction, and of two
module _ (d : ℕ) (field : IsFieldNumber d) (a b : Quad) where
  pub same_direction : (f g : Bool) → f ≡ g → IsPositive d (turned_value d f a) → IsPositive d (turned_value d g b) → IsPositive d ((quad_ops d).mul a b)
  same_direction true true e p q = product_of_negatives (quad_ops d) (quad_ring d) (order_of d field) a b p q
  same_direction true false e p q = absurd (false≢true (sym e))
  same_direction false true e p q = absurd (false≢true e)
  same_direction false false e p q = (order_of d field).product a b p q

  pub other_direction : (f g : Bool) → ¬ (f ≡ g) → IsPositive d (turned_value d f a) → IsPositive d (turned_value d g b) → IsPositive d ((quad_ops d).neg ((quad_ops d).mul a b))
  other_direction true true n p q = absurd (n refl)
  other_direction true false n p q = product_negative (quad_ops d) (quad_ring d) (order_of d field) a b p q
  other_direction false true n p q =
      subst (λ x. IsPositive d ((quad_ops d).neg x)) ((quad_ring d).mul_comm b a) (product_negative (quad_ops d) (quad_ring d) (order_of d field) b a q p)
  other_direction false false n p q = absurd (n refl)

-- a test of two truth values
pub unequal : (f g : Bool) → not (beq f g) ≡ true → ¬ (f ≡ g)
unequal true true t e = false≢true t
unequal true false t e = false≢true (sym e)
unequal false true t e = false≢true e
unequal false false t e = false≢true t

pub equal : (f g : Bool) → not (beq f g) ≡ false → f ≡ g
equal true true t = refl
equal true false t = absurd (false≢true (sym t))
equal false true t = absurd (false≢true (sym t))
equal false false t = refl

-- the sign of a value, by another name of the value
pub sign_named : (d : ℕ) (x y : Quad) (s : Sign) → x ≡ y → IsSign d x s → IsSign d y s
sign_named d x y s e h = subst (λ z. IsSign d z s) e h
