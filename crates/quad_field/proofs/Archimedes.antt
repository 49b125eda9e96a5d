-- Large multiples of a positive K-integer exceed any other.
use Rattle.std.proofs.Common.{◌≡◌, ℕ, zero, suc, ◌+◌, ◌*◌, ◌-◌, ◌<◌, ◌≤◌, arith, refl, sym, ap, subst, ◌∙◌, [], ◌∷◌}
use Rattle.std.proofs.lemmas.Nat.{mul-le}
use native.Mathlib.Nat.{le_refl}
use mathlib.Core.Logic.{inl, inr}
use mathlib.Core.Path.{ap₂}
use Rattle.std.specs.Prelude.{ℤ, pos, negsuc, ◌+ℤ◌, ◌-ℤ◌, ◌*ℤ◌, neg_ℤ, ◌<ℤ◌, ◌≤ℤ◌, unsigned_abs}
use Rattle.std.proofs.lemmas.Int.{ints}
use borrow.Author.Differences.{up}
use Rattle.rings.specs.Ring.{Ops, IsRing, whole_ops, var, expr}
use Rattle.rings.specs.Order.{IsOrdered, Sign, is_zero, is_positive, is_negative, IsNotNegative, IsWholePositive}
use Rattle.rings.proofs.Solver.{identity}
use Rattle.rings.proofs.Ordered.{sum_more, sum_not_negative, product_not_negative, equal_from_difference}
use Rattle.rings.proofs.WholeNumbers.{whole_ring, whole_order}
use Rattle.quad_field.specs.declared.quad.Quad.{Quad}
use Rattle.quad_field.specs.FieldNumber.{IsSquareFree}
use Rattle.quad_field.specs.Quads.{quad, quad_ops, IsPositive}
use Rattle.quad_field.specs.Size.{size}
use Rattle.quad_field.proofs.KIntegers.{quad_ring, quad_order}
use Rattle.quad_field.proofs.Signs.{irrational_whole, not_zero_too}

-- ---- whole numbers
-- |-a| = |a|
same_size : (a : ℤ) → unsigned_abs (neg_ℤ a) ≡ unsigned_abs a
same_size (pos zero) = refl
same_size (pos (suc n)) = refl
same_size (negsuc n) = refl

-- d·k² < m² where m is at least k·d
square_above : (d k m : ℕ) → 2 ≤ d → 1 ≤ k → k * d ≤ m → d * (k * k) < m * m
square_above d k m two some h =
    let low : 1 ≤ d * (k * k) = mul-le 1 1 d (k * k) (omega (arith, two)) (mul-le 1 1 k k some some) in
    omega (arith, low, mul-le (k * d) (k * d) m m h h, mul-le 2 (d * (k * k)) d (d * (k * k)) two (le_refl (d * (k * k))))

-- |a| + t + a is at least t
reach : (a : ℤ) (t : ℕ) → pos t ≤ℤ (pos (unsigned_abs a + t) +ℤ a)
reach a t = omega (arith, ints)

-- no natural number is below zero
not_negative : (n : ℕ) → pos 0 ≤ℤ pos n
not_negative n = omega (arith, ints)

-- natural numbers are ordered as whole ones
above : (m n : ℕ) → m < n → pos m <ℤ pos n
above m n h = omega (arith, ints)

-- a negative number is below zero
below_zero : (n : ℕ) → negsuc n <ℤ pos 0
below_zero n = omega (arith, ints)

-- whole numbers that are natural are ordered as natural ones
natural_order : (m n : ℕ) → pos m ≤ℤ pos n → m ≤ n
natural_order m n h = omega (arith, ints)

-- no natural number is at most a negative one
never_below : (t m : ℕ) → pos t ≤ℤ negsuc m → ⊥
never_below t m h = omega (arith, ints)

-- b = 0 + b
zero_more : (b : ℤ) → b ≡ pos 0 +ℤ b
zero_more b = omega (arith, ints)

-- a positive whole number less one
one_less : (n : ℤ) (d : ℕ) → pos 0 <ℤ n → pos (0 * d) ≤ℤ (n -ℤ pos 1)
one_less n d h = omega (arith, ints)

module _ (d : ℕ) (two : 2 ≤ d) where
  -- zero or positive
  abbrev NotNegative : Quad → Type 0
  NotNegative x = IsNotNegative (quad_ops d) (IsPositive d) x

  -- a number with no negative part
  no_part_negative : (m n : ℕ) → NotNegative (quad (pos m) (pos n))
  no_part_negative zero zero = inl refl
  no_part_negative zero (suc n) = inr (inl (not_negative 0, not_negative (suc n), λ z. absurd (omega (arith, ap up z.1))))
  no_part_negative (suc m) n = inr (inl (not_negative (suc m), not_negative n, λ z. absurd (omega (arith, ap up z.0))))

  -- a + b·√d is not negative where a natural a is at least |b|·d
  natural_covers : (m : ℕ) (b : ℤ) → unsigned_abs b * d ≤ m → NotNegative (quad (pos m) b)
  natural_covers m (pos n) h = no_part_negative m n
  natural_covers m (negsuc n) h =
      inr (inr (inl (
        above 0 m (omega (arith, h, mul-le 1 1 (suc n) d (omega arith) (omega (arith, two)))),
        below_zero n,
        above (d * (suc n * suc n)) (m * m) (square_above d (suc n) m two (omega arith) h),
      )))

  -- a + b·√d is not negative where a is at least |b|·d
  covers : (a b : ℤ) → pos (unsigned_abs b * d) ≤ℤ a → NotNegative (quad a b)
  covers (pos m) b h = natural_covers m b (natural_order (unsigned_abs b * d) m h)
  covers (negsuc m) b h = absurd (never_below (unsigned_abs b * d) m h)

  -- |a| + |b|·d + (a + b·√d) is not negative
  size_covers : (r : Quad) → NotNegative ((quad_ops d).add ((quad_ops d).int (pos (size d r))) r)
  size_covers r =
      subst (λ b. NotNegative (quad (pos (size d r) +ℤ r.a) b)) (zero_more r.b)
      (covers (pos (size d r) +ℤ r.a) r.b (reach r.a (unsigned_abs r.b * d)))

module _ (d : ℕ) (free : IsSquareFree d) (two : 2 ≤ d) where
  -- the operations of K-integers
  abbrev O : Ops Quad
  O = quad_ops d

  -- their laws
  abbrev L : IsRing (quad_ops d)
  L = quad_ring d

  -- their order
  abbrev Q : IsOrdered (quad_ops d) (IsPositive d)
  Q = quad_order d free two

  module _ (p : Quad) where
    -- the norm of p
    abbrev norm : ℤ
    norm = (p.a *ℤ p.a) -ℤ (pos d *ℤ (p.b *ℤ p.b))

    -- the conjugate of p
    abbrev conjugate : Quad
    conjugate = quad p.a (neg_ℤ p.b)

    -- the size of p
    abbrev M : Quad
    M = O.int (pos (size d p))

    -- p times its conjugate is its norm
    conjugate_product : O.mul p conjugate ≡ O.int norm
    conjugate_product = λ i. quad (whole i) (root i)
      where
        whole : ((p.a *ℤ p.a) +ℤ (pos d *ℤ (p.b *ℤ neg_ℤ p.b))) ≡ norm
        whole =
            identity whole_ops whole_ring (p.a ∷ p.b ∷ pos d ∷ [])
            (expr.add (expr.mul (var 0) (var 0)) (expr.mul (var 2) (expr.mul (var 1) (expr.neg (var 1)))))
            (expr.sub (expr.mul (var 0) (var 0)) (expr.mul (var 2) (expr.mul (var 1) (var 1)))) tt

        root : ((p.a *ℤ neg_ℤ p.b) +ℤ (p.b *ℤ p.a)) ≡ pos 0
        root =
            identity whole_ops whole_ring (p.a ∷ p.b ∷ [])
            (expr.add (expr.mul (var 0) (expr.neg (var 1))) (expr.mul (var 1) (var 0))) (expr.int (pos 0)) tt

    -- M + conjugate is not negative
    conjugate_above : NotNegative d two (O.add M conjugate)
    conjugate_above =
        subst (λ m. NotNegative d two (O.add (O.int (pos m)) conjugate)) (ap (λ k. unsigned_abs p.a + k * d) (same_size p.b)) (size_covers d two conjugate)

    -- nor is M - conjugate
    conjugate_below : NotNegative d two (O.add M (O.neg conjugate))
    conjugate_below =
        subst (λ m. NotNegative d two (O.add (O.int (pos m)) (O.neg conjugate)))
        (ap₂ (λ j k. j + k * d) (same_size p.a) (same_size (neg_ℤ p.b) ∙ same_size p.b)) (size_covers d two (O.neg conjugate))

    -- the size of a positive p times p is at least one
    unit : IsPositive d p → NotNegative d two (O.sub (O.mul M p) (O.int (pos 1)))
    unit h = go (whole_order.sign norm)
      where
        above_one : (n : ℤ) → pos 0 <ℤ n → NotNegative d two (O.sub (O.int n) (O.int (pos 1)))
        above_one n h = covers d two (n -ℤ pos 1) (pos 0) (one_less n d h)

        go : Sign whole_ops IsWholePositive norm → NotNegative d two (O.sub (O.mul M p) (O.int (pos 1)))
        go (is_zero e) =
            absurd (not_zero_too d p (irrational_whole d free two p.a p.b (equal_from_difference whole_ops whole_ring whole_order (p.a *ℤ p.a) (pos d *ℤ (p.b *ℤ p.b)) e)) h)
        go (is_positive n) =
            subst (NotNegative d two)
            (ap (λ x. O.add (O.mul (O.add M (O.neg conjugate)) p) (O.sub x (O.int (pos 1)))) (sym conjugate_product)
            ∙ identity O L (M ∷ p ∷ conjugate ∷ [])
            (expr.add (expr.mul (expr.add (var 0) (expr.neg (var 2))) (var 1)) (expr.sub (expr.mul (var 1) (var 2)) (expr.int (pos 1))))
            (expr.sub (expr.mul (var 0) (var 1)) (expr.int (pos 1))) tt)
            (sum_not_negative O L Q _ _ (product_not_negative O L Q _ _ conjugate_below (inr h)) (above_one norm n))
        go (is_negative n) =
            subst (NotNegative d two)
            (ap (λ x. O.add (O.mul (O.add M conjugate) p) (O.sub (O.neg x) (O.int (pos 1)))) (sym conjugate_product)
            ∙ identity O L (M ∷ p ∷ conjugate ∷ [])
            (expr.add (expr.mul (expr.add (var 0) (var 2)) (var 1)) (expr.sub (expr.neg (expr.mul (var 1) (var 2))) (expr.int (pos 1))))
            (expr.sub (expr.mul (var 0) (var 1)) (expr.int (pos 1))) tt)
            (sum_not_negative O L Q _ _ (product_not_negative O L Q _ _ conjugate_above (inr h)) (above_one (neg_ℤ norm) n))

  -- a whole number above zero
  positive_whole : (k : ℕ) → 0 < k → IsPositive d (O.int (pos k))
  positive_whole k h = inl (not_negative k, not_negative 0, λ z. absurd (omega (arith, ap up z.0, h)))

  -- k + m·s = n, as K-integers
  whole_split : (k m s n : ℕ) → k + m * s ≡ n → O.add (O.int (pos k)) (O.mul (O.int (pos m)) (O.int (pos s))) ≡ O.int (pos n)
  whole_split k m s n e =
      ap (λ x. O.add (O.int (pos k)) x) (sym (L.int-mul (pos m) (pos s))) ∙ sym (L.int-add (pos k) (pos m *ℤ pos s)) ∙ ap (λ n. O.int (pos n)) e

  -- n·p + r is positive for every n above the product of the sizes
  pub archimedes : (p r : Quad) → IsPositive d p → (n : ℕ) → size d p * size d r < n → IsPositive d (O.add (O.mul (O.int (pos n)) p) r)
  archimedes p r h n more =
      let m = size d p in
      let s = size d r in
      let k = n - m * s in
      subst (IsPositive d)
      (identity O L (O.int (pos k) ∷ O.int (pos m) ∷ O.int (pos s) ∷ p ∷ r ∷ [])
      (expr.add (expr.add (expr.mul (var 0) (var 3)) (expr.mul (var 2) (expr.sub (expr.mul (var 1) (var 3)) (expr.int (pos 1))))) (expr.add (var 2) (var 4)))
      (expr.add (expr.mul (expr.add (var 0) (expr.mul (var 1) (var 2))) (var 3)) (var 4)) tt
      ∙ ap (λ x. O.add (O.mul x p) r) (whole_split k m s n (omega (arith, more))))
      (sum_more O L Q _ _
      (sum_more O L Q _ _ (Q.product _ _ (positive_whole k (omega (arith, more))) h) (product_not_negative O L Q _ _ (no_part_negative d two s 0) (unit p h)))
      (size_covers d two r))
