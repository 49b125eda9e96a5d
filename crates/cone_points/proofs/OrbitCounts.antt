-- How many orbits a permutation has, and how many it has after an exchange.
use Rattle.std.proofs.Common.{◌≡◌, ℕ, zero, suc, ◌<◌, ◌≤◌, Bool, true, false, eqb, subst, sym, ap, ◌∙◌, refl, arith}
use Rattle.std.specs.Prelude.{◌⊎◌, ◌↔◌}
use mathlib.Core.Logic.{inl, inr}
use Rattle.std.proofs.lemmas.Bool.{cases_lt, eq-eqb, eqb-true, false_from_ne_true}
use Rattle.cone_points.proofs.Orbits.{IsPermutation, often, often_below, Reaches, IsLeast, leader, reaches_sym, reaches_decided}
use Rattle.cone_points.proofs.Swaps.{AreSwapped, swapped_turned, swapped_back, A, B, one_less, lead_is_least, leads_differ, split}
use Rattle.cone_points.proofs.Counts.{count, count_same, count_one_more}

-- tests that say yes together
pub same_test : (a b : Bool) → (a ≡ true → b ≡ true) → (b ≡ true → a ≡ true) → a ≡ b
same_test true b f g = sym (f refl)
same_test false true f g = g refl
same_test false false f g = refl

module _ (n : ℕ) (f : ℕ → ℕ) (perm : IsPermutation n f) where
  abbrev pub test_of : (x : ℕ) → (x < n) ⊎ (n ≤ x) → Bool
  test_of x (inl h) = eqb (leader n f perm x h).v x
  test_of x (inr h) = false

  -- x is the least number of its orbit
  abbrev pub least_test : ℕ → Bool
  least_test x = test_of x (cases_lt x n)

  -- how many orbits there are
  abbrev pub orbits : ℕ
  orbits = count least_test n

  pub least_yes : (x : ℕ) → x < n → IsLeast f x → least_test x ≡ true
  least_yes x inside h = go (cases_lt x n)
    where
      go : (c : (x < n) ⊎ (n ≤ x)) → test_of x c ≡ true
      go (inl below) = let w = leader n f perm x below in eq-eqb w.v x (omega (arith, h w.v w.reached, w.least x (0, refl)))
      go (inr above) = absurd (omega (arith, inside, above))

  pub least_no : (x : ℕ) → x < n → least_test x ≡ true → IsLeast f x
  least_no x inside h = go (cases_lt x n) h
    where
      go : (c : (x < n) ⊎ (n ≤ x)) → test_of x c ≡ true → IsLeast f x
      go (inl below) e = let w = leader n f perm x below in λ k r. subst (λ v. v ≤ k) (eqb-true w.v x e) (w.least k r)
      go (inr above) e = absurd (omega (arith, inside, above))

-- permutations that agree below n have as many orbits
pub orbits_same : (n : ℕ) (f g : ℕ → ℕ) (perm : IsPermutation n f) (other : IsPermutation n g) → ((x : ℕ) → x < n → f x ≡ g x) → orbits n f perm ≡ orbits n g other
orbits_same n f g perm other agree =
    count_same (least_test n f perm) (least_test n g other) n (λ k h. same_test (least_test n f perm k) (least_test n g other k)
    (λ e. least_yes n g other k h (λ y r. least_no n f perm k h e y (r.0, steps k h r.0 ∙ r.1)))
    (λ e. least_yes n f perm k h (λ y r. least_no n g other k h e y (r.0, sym (steps k h r.0) ∙ r.1))))
  where
    steps : (x : ℕ) → x < n → (m : ℕ) → often f m x ≡ often g m x
    steps x inside zero = refl
    steps x inside (suc m) = agree (often f m x) (often_below n f perm m x inside) ∙ ap g (steps x inside m)

-- a and b in different orbits of f: one orbit less after the exchange, where a's has the lesser least number
fewer_from : (n : ℕ) (f g : ℕ → ℕ) (perm : IsPermutation n f) (other : IsPermutation n g) (a b : ℕ) (ha : a < n) (hb : b < n) (swapped : AreSwapped n f g a b) (apart : ¬ (Reaches f a b))
    → (A n f g perm other a b ha hb swapped apart).v < (B n f g perm other a b ha hb swapped apart).v → orbits n f perm ≡ suc (orbits n g other)
fewer_from n f g perm other a b ha hb swapped apart lesser =
    count_one_more (least_test n f perm) (least_test n g other) n v v_below
    (least_yes n f perm v v_below (lead_is_least n f g perm other a b ha hb swapped apart))
    (false_from_ne_true (least_test n g other v) (λ e. ((one v v_below).0 (least_no n g other v v_below e)).1 refl))
    (λ k h ne. same_test (least_test n f perm k) (least_test n g other k)
    (λ e. least_yes n g other k h ((one k h).1 (least_no n f perm k h e, ne)))
    (λ e. least_yes n f perm k h ((one k h).0 (least_no n g other k h e)).0))
  where
    v : ℕ
    v = (B n f g perm other a b ha hb swapped apart).v

    v_below : (B n f g perm other a b ha hb swapped apart).v < n
    v_below = (B n f g perm other a b ha hb swapped apart).below

    one : (x : ℕ) → x < n → IsLeast g x ↔ (IsLeast f x × ¬ (x ≡ (B n f g perm other a b ha hb swapped apart).v))
    one = one_less n f g perm other a b ha hb swapped apart lesser

fewer : (n : ℕ) (f g : ℕ → ℕ) (perm : IsPermutation n f) (other : IsPermutation n g) (a b : ℕ) → a < n → b < n → AreSwapped n f g a b → ¬ (Reaches f a b) → orbits n f perm ≡ suc (orbits n g other)
fewer n f g perm other a b ha hb swapped apart =
    let back : ¬ (Reaches f b a) = λ r. apart (reaches_sym n f perm b a hb r) in
    let x = leader n f perm a ha in
    let y = leader n f perm b hb in
    elim (cases_lt x.v y.v) [
      | inl less ↦ fewer_from n f g perm other a b ha hb swapped apart less
      | inr more ↦ fewer_from n f g perm other b a hb ha (swapped_turned n f g a b swapped) back
          (omega (arith, more, leads_differ n f g perm other a b ha hb swapped apart))
    ]

-- one orbit more or one less after an exchange
pub one_apart : (n : ℕ) (f g : ℕ → ℕ) (perm : IsPermutation n f) (other : IsPermutation n g) (a b : ℕ) → a < n → b < n → ¬ (a ≡ b) → AreSwapped n f g a b
    → (orbits n f perm ≡ suc (orbits n g other)) ⊎ (orbits n g other ≡ suc (orbits n f perm))
one_apart n f g perm other a b ha hb ne swapped = elim (reaches_decided n f perm a b ha) [
  | inl reach ↦ inr (fewer n g f other perm a b ha hb (swapped_back n f g a b ne swapped) (split n f g perm a b ha ne swapped reach))
  | inr not ↦ inl (fewer n f g perm other a b ha hb swapped not)
]
