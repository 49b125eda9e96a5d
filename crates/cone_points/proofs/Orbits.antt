-- The orbits of a permutation of the numbers below n.
use Rattle.std.proofs.Common.{◌≡◌, ℕ, zero, suc, ◌+◌, ◌*◌, ◌-◌, ◌<◌, ◌≤◌, sym, ap, ◌∙◌, refl, arith}
use Rattle.std.specs.Prelude.{◌⊎◌}
use mathlib.Core.Logic.{inl, inr}
use Rattle.std.proofs.lemmas.Bool.{cases_eq, cases_lt}
use Rattle.rings.proofs.Pigeonhole.{First, first_below, Repeats, repeats}

-- f permutes the numbers below n
pub record IsPermutation (n : ℕ) (f : ℕ → ℕ) : Type 0 where
  pub below : (x : ℕ) → x < n → f x < n
  pub injective : (x y : ℕ) → x < n → y < n → f x ≡ f y → x ≡ y

-- f applied m times
abbrev pub often : (ℕ → ℕ) → ℕ → ℕ → ℕ
often f zero x = x
often f (suc m) x = f (often f m x)

-- y is reached from x
abbrev pub Reaches : (ℕ → ℕ) → ℕ → ℕ → Type 0
Reaches f x y = (m : ℕ) × (often f m x ≡ y)

-- v is the least number of its orbit
abbrev pub IsLeast : (ℕ → ℕ) → ℕ → Type 0
IsLeast f v = (k : ℕ) → Reaches f v k → v ≤ k

pub often_sum : (f : ℕ → ℕ) (a b x : ℕ) → often f (a + b) x ≡ often f a (often f b x)
often_sum f zero b x = ap (λ k. often f k x) (nothing b)
  where
    nothing : (b : ℕ) → 0 + b ≡ b
    nothing b = omega arith
often_sum f (suc a) b x = ap (λ k. often f k x) (one_more a b) ∙ ap f (often_sum f a b x)
  where
    one_more : (a b : ℕ) → suc a + b ≡ suc (a + b)
    one_more a b = omega arith

pub reaches_trans : (f : ℕ → ℕ) (x y z : ℕ) → Reaches f x y → Reaches f y z → Reaches f x z
reaches_trans f x y z h k = (k.0 + h.0, often_sum f k.0 h.0 x ∙ ap (often f k.0) h.1 ∙ k.1)

module _ (n : ℕ) (f : ℕ → ℕ) (perm : IsPermutation n f) where
  pub often_below : (m x : ℕ) → x < n → often f m x < n
  often_below zero x h = h
  often_below (suc m) x h = perm.below (often f m x) (often_below m x h)

  often_injective : (m x y : ℕ) → x < n → y < n → often f m x ≡ often f m y → x ≡ y
  often_injective zero x y hx hy e = e
  often_injective (suc m) x y hx hy e =
      often_injective m x y hx hy (perm.injective (often f m x) (often f m y) (often_below m x hx) (often_below m y hy) e)

  -- a positive number of steps that lead back to x, and no smaller one
  abbrev pub Period : ℕ → Type 0
  Period x = (p : ℕ) × (1 ≤ p) × (p ≤ n) × (often f p x ≡ x) × ((k : ℕ) → 1 ≤ k → k < p → ¬ (often f k x ≡ x))

  some_return : (x : ℕ) → x < n → (p : ℕ) × (1 ≤ p) × (p ≤ n) × (often f p x ≡ x)
  some_return x h =
      let w : Repeats n (λ i. often f i x) = repeats n (λ i. often f i x) (λ i _. often_below i x h) in
      let gap : w.0 + (w.1 - w.0) ≡ w.1 = omega (arith, w.2) in (
        w.1 - w.0,
        omega (arith, w.2),
        omega (arith, w.2, w.3),
        often_injective w.0 (often f (w.1 - w.0) x) x (often_below (w.1 - w.0) x h) h
            (sym (often_sum f w.0 (w.1 - w.0) x) ∙ ap (λ k. often f k x) gap ∙ sym w.4),
      )

  pub period : (x : ℕ) → x < n → Period x
  period x h = go (some_return x h) (first_below (λ k. often f (suc k) x ≡ x) (λ k. cases_eq (often f (suc k) x) x) n)
    where
      go : (p : ℕ) × (1 ≤ p) × (p ≤ n) × (often f p x ≡ x) → First (λ k. often f (suc k) x ≡ x) n ⊎ ((i : ℕ) → i < n → ¬ (often f (suc i) x ≡ x)) → Period x
      go w (inl v) = (suc v.0, omega arith, omega (arith, v.1), v.2, λ k one below e. before k one below e)
        where
          before : (k : ℕ) → 1 ≤ k → k < suc v.0 → ¬ (often f k x ≡ x)
          before zero one below e = absurd (omega (arith, one))
          before (suc k) one below e = v.3 k (omega (arith, below)) e
      go w (inr none) = absurd (positive w.0 w.1 w.2 w.3)
        where
          positive : (p : ℕ) → 1 ≤ p → p ≤ n → often f p x ≡ x → ⊥
          positive zero one top e = omega (arith, one)
          positive (suc p) one top e = none p (omega (arith, top)) e

  -- whatever is reached is reached in less steps than there are numbers
  pub reached_soon : (x y : ℕ) → x < n → Reaches f x y → (m : ℕ) × (m < n) × (often f m x ≡ y)
  reached_soon x y h r = let w = go r.0 in (w.0, omega (arith, w.1, (period x h).2), w.2 ∙ r.1)
    where
      back : (p : ℕ) → often f p x ≡ x → 1 ≤ p → (m : ℕ) → (k : ℕ) × (k < p) × (often f k x ≡ often f m x)
      back p e one zero = (0, omega (arith, one), refl)
      back p e one (suc m) = next (back p e one m)
        where
          next : (k : ℕ) × (k < p) × (often f k x ≡ often f m x) → (k : ℕ) × (k < p) × (often f k x ≡ f (often f m x))
          next w = elim (cases_eq (suc w.0) p) [
            | inl k ↦ (0, omega (arith, one), sym e ∙ ap (λ i. often f i x) (sym k) ∙ ap f w.2)
            | inr nk ↦ (suc w.0, omega (arith, w.1, nk), ap f w.2)
          ]

      go : (m : ℕ) → (k : ℕ) × (k < (period x h).0) × (often f k x ≡ often f m x)
      go m = back (period x h).0 (period x h).3 (period x h).1 m

  -- and reaches back
  pub reaches_sym : (x y : ℕ) → x < n → Reaches f x y → Reaches f y x
  reaches_sym x y h r =
      let p = period x h in
      let gap : (r.0 * p.0 - r.0) + r.0 ≡ r.0 * p.0 = enough r.0 p.0 p.1 in
      (r.0 * p.0 - r.0, ap (often f (r.0 * p.0 - r.0)) (sym r.1) ∙ sym (often_sum f (r.0 * p.0 - r.0) r.0 x) ∙ ap (λ k. often f k x) gap ∙ many r.0)
    where
      enough : (r p : ℕ) → 1 ≤ p → (r * p - r) + r ≡ r * p
      enough r zero one = absurd (omega (arith, one))
      enough r (suc p) one = below r (r * suc p) (more r p)
        where
          below : (a b : ℕ) → a ≤ b → (b - a) + a ≡ b
          below a b h = omega (arith, h)

          more : (r p : ℕ) → r ≤ r * suc p
          more r p = omega (arith, times r p)
            where
              times : (r p : ℕ) → r * suc p ≡ r + r * p
              times r p = grind (arith)

      many : (m : ℕ) → often f (m * (period x h).0) x ≡ x
      many zero = ap (λ k. often f k x) (none (period x h).0)
        where
          none : (p : ℕ) → 0 * p ≡ 0
          none p = omega arith
      many (suc m) =
          ap (λ k. often f k x) (one_more m (period x h).0) ∙ often_sum f (period x h).0 (m * (period x h).0) x ∙ ap (often f (period x h).0) (many m) ∙ (period x h).3
        where
          one_more : (m p : ℕ) → suc m * p ≡ p + m * p
          one_more m p = grind (arith)

  -- it is decided whether y is reached from x
  pub reaches_decided : (x y : ℕ) → x < n → Reaches f x y ⊎ ¬ (Reaches f x y)
  reaches_decided x y h = elim (first_below (λ m. often f m x ≡ y) (λ m. cases_eq (often f m x) y) n) [
    | inl w ↦ inl (w.0, w.2)
    | inr none ↦ inr (λ r. let w = reached_soon x y h r in none w.0 w.1 w.2)
  ]

  -- the least number of the orbit of x
  pub record Leader (x : ℕ) : Type 0 where
    pub v : ℕ
    pub below : v < n
    pub reached : Reaches f x v
    pub least : (k : ℕ) → Reaches f x k → v ≤ k

  pub leader : (x : ℕ) → x < n → Leader x
  leader x h = go (first_below' n)
    where
      decide : (k : ℕ) → Reaches f x k ⊎ ¬ (Reaches f x k)
      decide k = reaches_decided x k h

      first_below' : (m : ℕ) → First (Reaches f x) m ⊎ ((i : ℕ) → i < m → ¬ (Reaches f x i))
      first_below' m = first_below (Reaches f x) decide m

      go : First (Reaches f x) n ⊎ ((i : ℕ) → i < n → ¬ (Reaches f x i)) → Leader x
      go (inl w) = record { v = w.0; below = w.1; reached = w.2; least = λ k r. elim (cases_lt k w.0) [ inl less ↦ absurd (w.3 k less r) | inr not ↦ not ] }
      go (inr none) = absurd (none x h (0, refl))
