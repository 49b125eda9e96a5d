-- K-integers are an ordered commutative ring, by the three cases of a positive one.
use Rattle.std.proofs.Common.{◌≡◌, ℕ, ◌≤◌, arith, ap}
use mathlib.Core.Path.{subst₂}
use mathlib.Core.Logic.{inl, inr}
use Rattle.std.specs.Prelude.{T, ℤ, pos, ◌*ℤ◌, ◌-ℤ◌, neg_ℤ, ◌<ℤ◌, ◌⊎◌}
use Rattle.std.proofs.lemmas.Int.{ints}
use Rattle.rings.specs.Ring.{IsRing, Expr, eval, whole_ops}
use Rattle.rings.specs.NormalForm.{same}
use Rattle.rings.proofs.Solver.{solve}
use Rattle.rings.specs.Order.{IsOrdered, Sign, is_zero, is_positive, is_negative, ExactlyOne}
use Rattle.rings.specs.Extension.{extended}
use Rattle.rings.proofs.Ordered.{no_divisors}
use Rattle.rings.proofs.WholeNumbers.{whole_ring, whole_order}
use Rattle.rings.proofs.Extension.{extended_ring}
use Rattle.rings.proofs.ExtensionOrder.{extended_order, Positive}
use Rattle.quad_field.specs.declared.quad.Quad.{Quad}
use Rattle.quad_field.specs.FieldNumber.{IsSquareFree}
use Rattle.quad_field.specs.Quads.{quad, quad_ops, IsPositive, IsZero}
use Rattle.quad_field.proofs.Signs.{irrational_whole, Split, split_both, split_zero, square_neg, not_both, not_zero_too, negative_of_zero}

-- ---- a K-integer and its pair of whole numbers
abbrev of_pair : ℤ × ℤ → Quad
of_pair p = quad p.0 p.1

-- the pair of a K-integer
abbrev pair : Quad → ℤ × ℤ
pair x = (x.a, x.b)

-- K-integers are a commutative ring
pub quad_ring : (d : ℕ) → IsRing (quad_ops d)
quad_ring d =
    let L = extended_ring whole_ops whole_ring (pos d) in
    record {
      add_assoc = λ x y z. ap of_pair (L.add_assoc (pair x) (pair y) (pair z));
      add_comm = λ x y. ap of_pair (L.add_comm (pair x) (pair y));
      zero-add = λ x. ap of_pair (L.zero-add (pair x));
      add-neg = λ x. ap of_pair (L.add-neg (pair x));
      sub_is = λ x y. ap of_pair (L.sub_is (pair x) (pair y));
      mul_assoc = λ x y z. ap of_pair (L.mul_assoc (pair x) (pair y) (pair z));
      mul_comm = λ x y. ap of_pair (L.mul_comm (pair x) (pair y));
      one-mul = λ x. ap of_pair (L.one-mul (pair x));
      add-mul = λ x y z. ap of_pair (L.add-mul (pair x) (pair y) (pair z));
      int-add = λ m n. ap of_pair (L.int-add m n);
      int-mul = λ m n. ap of_pair (L.int-mul m n);
    }

-- expressions of one normal form have one value
pub one_value : (d : ℕ) (v : ℕ → Quad) (l r : Expr) → T (same l r) → eval (quad_ops d) v l ≡ eval (quad_ops d) v r
one_value d v l r t = solve (quad_ops d) (quad_ring d) v l r t

-- a positive norm and a positive whole part
split_over : (a b s t : ℤ) → pos 0 <ℤ (s -ℤ t) → pos 0 <ℤ a → Split a b s t
split_over a b s t n p = grind (arith, ints)

-- a negative norm and a positive root part
split_under : (a b s t : ℤ) → pos 0 <ℤ neg_ℤ (s -ℤ t) → pos 0 <ℤ b → Split a b s t
split_under a b s t n p = grind (arith, ints)

module _ (d : ℕ) (free : IsSquareFree d) (two : 2 ≤ d) where
  -- d is positive
  large : pos 0 <ℤ pos d
  large = omega (arith, ints)

  -- positive by the sign of the norm
  abbrev NormPositive : ℤ × ℤ → Type 0
  NormPositive = Positive whole_ops whole_ring whole_order (pos d) large (irrational_whole d free two)

  -- the order by the norm
  norm_order : IsOrdered (extended whole_ops (pos d)) NormPositive
  norm_order = extended_order whole_ops whole_ring whole_order (pos d) large (irrational_whole d free two)

  -- and by the three cases
  by_cases : (x : Quad) → NormPositive (pair x) → IsPositive d x
  by_cases x (inl p) = split_over x.a x.b (x.a *ℤ x.a) (pos d *ℤ (x.b *ℤ x.b)) p.0 p.1
  by_cases x (inr p) = split_under x.a x.b (x.a *ℤ x.a) (pos d *ℤ (x.b *ℤ x.b)) p.0 p.1

  -- and back: a number that is positive by the three cases is so by its norm
  by_norm : (x : Quad) → IsPositive d x → NormPositive (pair x)
  by_norm x h = go (norm_order.sign (pair x))
    where
      go : Sign (extended whole_ops (pos d)) NormPositive (pair x) → NormPositive (pair x)
      go (is_zero e) = absurd (split_zero x.a x.b (x.a *ℤ x.a) (pos d *ℤ (x.b *ℤ x.b)) h (ap (λ z. z.0) e) (ap (λ z. z.1) e))
      go (is_positive p) = p
      go (is_negative p) =
          let k : Split (neg_ℤ x.a) (neg_ℤ x.b) (x.a *ℤ x.a) (pos d *ℤ (x.b *ℤ x.b)) =
          subst₂ (λ s t. Split (neg_ℤ x.a) (neg_ℤ x.b) s (pos d *ℤ t)) (square_neg x.a) (square_neg x.b) (by_cases (quad (neg_ℤ x.a) (neg_ℤ x.b)) p)
          in absurd (split_both x.a x.b (x.a *ℤ x.a) (pos d *ℤ (x.b *ℤ x.b)) h k)

  -- the sign of a K-integer
  quad_sign : (x : Quad) → Sign (quad_ops d) (IsPositive d) x
  quad_sign x = go (norm_order.sign (pair x))
    where
      go : Sign (extended whole_ops (pos d)) NormPositive (pair x) → Sign (quad_ops d) (IsPositive d) x
      go (is_zero e) = is_zero (ap of_pair e)
      go (is_positive p) = is_positive (by_cases x p)
      go (is_negative p) = is_negative (by_cases ((quad_ops d).neg x) p)

  -- K-integers are ordered
  pub quad_order : IsOrdered (quad_ops d) (IsPositive d)
  quad_order = record {
    sum = λ x y p q. by_cases ((quad_ops d).add x y) (norm_order.sum (pair x) (pair y) (by_norm x p) (by_norm y q));
    product = λ x y p q. by_cases ((quad_ops d).mul x y) (norm_order.product (pair x) (pair y) (by_norm x p) (by_norm y q));
    sign = quad_sign;
    zero_is_not = λ p. norm_order.zero_is_not (by_norm (quad (pos 0) (pos 0)) p);
  }

  -- a product is zero only where a factor is
  pub zero_factor : (x y : Quad) → IsZero ((quad_ops d).mul x y) → IsZero x ⊎ IsZero y
  zero_factor x y z = parts (no_divisors (quad_ops d) (quad_ring d) quad_order x y (λ i. quad (z.0 i) (z.1 i)))
    where
      parts : (x ≡ (quad_ops d).int (pos 0)) ⊎ (y ≡ (quad_ops d).int (pos 0)) → IsZero x ⊎ IsZero y
      parts (inl e) = inl (ap (λ z. z.a) e, ap (λ z. z.b) e)
      parts (inr e) = inr (ap (λ z. z.a) e, ap (λ z. z.b) e)

  -- positive, negative or zero
  pub one_of_three : (x : Quad) → IsPositive d x ⊎ (IsPositive d ((quad_ops d).neg x) ⊎ IsZero x)
  one_of_three x = go (quad_sign x)
    where
      go : Sign (quad_ops d) (IsPositive d) x → IsPositive d x ⊎ (IsPositive d ((quad_ops d).neg x) ⊎ IsZero x)
      go (is_zero e) = inr (inr (ap (λ z. z.a) e, ap (λ z. z.b) e))
      go (is_positive p) = inl p
      go (is_negative p) = inr (inl p)

  -- and exactly one of them
  pub exactly_one : (x : Quad) → ExactlyOne (IsPositive d x) (IsPositive d ((quad_ops d).neg x)) (IsZero x)
  exactly_one x = (one_of_three x, λ h. not_both d x h.0 h.1, λ h. not_zero_too d x h.1 h.0, λ h. negative_of_zero d x h.1 h.0)

  -- a sum of positive ones
  pub sum_positive : (x y : Quad) → IsPositive d x → IsPositive d y → IsPositive d ((quad_ops d).add x y)
  sum_positive x y p q = quad_order.sum x y p q

  -- a product of positive ones
  pub product_positive : (x y : Quad) → IsPositive d x → IsPositive d y → IsPositive d ((quad_ops d).mul x y)
  product_positive x y p q = quad_order.product x y p q
