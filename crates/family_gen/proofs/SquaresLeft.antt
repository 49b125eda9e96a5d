-- Tilings in which each square has one to its left and one below it, and is reached from square 0.
use Rattle.std.proofs.Common.{◌≡◌, ℕ, ◌+◌, ◌-◌, ◌*◌, ◌%◌, ◌<◌, ◌≤◌, ◌⊎◌, inl, inr, refl, arith}
use Rattle.std.specs.Prelude.{◌==◌, nat_lt, if◌then◌else◌}
use Rattle.std.proofs.lemmas.Bool.{cases_lt, cases_eq}
use Rattle.std.proofs.lemmas.Bool.Decides.{nat_tests}
use Rattle.family_gen.specs.Tilings.{Tiling, after_round, after_within, row, ell, staircase}

-- g undoes f among the first n numbers, and f undoes g
pub record Undoes (n : ℕ) (f g : ℕ → ℕ) : Type 0 where
  pub there : (i : ℕ) → i < n → f i < n
  pub back : (i : ℕ) → i < n → g i < n
  pub undone : (i : ℕ) → i < n → g (f i) ≡ i
  pub redone : (i : ℕ) → i < n → f (g i) ≡ i

-- at most 128 squares, each with one square to its left and one below it; each but square 0 is beside or above one with a lesser number
pub record IsRegular (t : Tiling) (left down : ℕ → ℕ) : Type 0 where
  pub some : 1 ≤ t.squares
  pub few : t.squares ≤ 128
  pub beside : Undoes t.squares t.right left
  pub above : Undoes t.squares t.up down
  pub reached : (i : ℕ) → i + 1 < t.squares → (m : ℕ) × (m ≤ i) × ((t.right m ≡ i + 1) ⊎ (t.up m ≡ i + 1))

-- ---- rows
-- the square before square i of the first n, where square 0 is preceded by the last
abbrev pub before_round : ℕ → ℕ → ℕ
before_round n i = if i == 0 then n - 1 else i - 1

round_undone : (n : ℕ) → Undoes n (after_round n) (before_round n)
round_undone n = record {
  there = there;
  back = back;
  undone = undone;
  redone = redone;
}
  where
    there : (i : ℕ) → i < n → after_round n i < n
    there i h = grind (arith, nat_tests)

    back : (i : ℕ) → i < n → before_round n i < n
    back i h = grind (arith, nat_tests)

    undone : (i : ℕ) → i < n → before_round n (after_round n i) ≡ i
    undone i h = grind (arith, nat_tests)

    redone : (i : ℕ) → i < n → after_round n (before_round n i) ≡ i
    redone i h = grind (arith, nat_tests)

-- after a square that isn't the last
round_next : (n i : ℕ) → i + 1 < n → after_round n i ≡ i + 1
round_next n i h = grind (arith, nat_tests)

itself : (n : ℕ) → Undoes n (λ i. i) (λ i. i)
itself n = record { there = λ i h. h; back = λ i h. h; undone = λ i h. refl; redone = λ i h. refl }

pub row_regular : (j : ℕ) → j < 50 → IsRegular (row j) (before_round (j + 1)) (λ i. i)
row_regular j small = record {
  some = omega arith;
  few = omega arith;
  beside = round_undone (j + 1);
  above = itself (j + 1);
  reached = λ i h. (i, omega arith, inl (round_next (j + 1) i h));
}

-- ---- Ls
-- the square to the left
abbrev pub ell_left : ℕ → ℕ → ℕ
ell_left j i = if nat_lt i (j + 2) then before_round (j + 2) i else i

-- the square below
abbrev pub ell_down : ℕ → ℕ → ℕ
ell_down j i = if i == 0 then 2 * j + 2 else if nat_lt i (j + 2) then i else if i == j + 2 then 0 else i - 1

ell_beside : (j : ℕ) → Undoes (2 * j + 3) (ell j).right (ell_left j)
ell_beside j = record {
  there = there;
  back = back;
  undone = undone;
  redone = redone;
}
  where
    there : (i : ℕ) → i < 2 * j + 3 → (ell j).right i < 2 * j + 3
    there i h = grind (arith, nat_tests)

    back : (i : ℕ) → i < 2 * j + 3 → ell_left j i < 2 * j + 3
    back i h = grind (arith, nat_tests)

    undone : (i : ℕ) → i < 2 * j + 3 → ell_left j ((ell j).right i) ≡ i
    undone i h = grind (arith, nat_tests)

    redone : (i : ℕ) → i < 2 * j + 3 → (ell j).right (ell_left j i) ≡ i
    redone i h = grind (arith, nat_tests)

ell_above : (j : ℕ) → Undoes (2 * j + 3) (ell j).up (ell_down j)
ell_above j = record {
  there = there;
  back = back;
  undone = undone;
  redone = redone;
}
  where
    there : (i : ℕ) → i < 2 * j + 3 → (ell j).up i < 2 * j + 3
    there i h = grind (arith, nat_tests)

    back : (i : ℕ) → i < 2 * j + 3 → ell_down j i < 2 * j + 3
    back i h = grind (arith, nat_tests)

    undone : (i : ℕ) → i < 2 * j + 3 → ell_down j ((ell j).up i) ≡ i
    undone i h = grind (arith, nat_tests)

    redone : (i : ℕ) → i < 2 * j + 3 → (ell j).up (ell_down j i) ≡ i
    redone i h = grind (arith, nat_tests)

ell_row : (j i : ℕ) → i + 1 < j + 2 → (ell j).right i ≡ i + 1
ell_row j i h = grind (arith, nat_tests)

ell_foot : (j i : ℕ) → i + 1 ≡ j + 2 → (ell j).up 0 ≡ i + 1
ell_foot j i h = grind (arith, nat_tests)

ell_column : (j i : ℕ) → j + 2 ≤ i → i + 1 < 2 * j + 3 → (ell j).up i ≡ i + 1
ell_column j i h k = grind (arith, nat_tests)

pub ell_regular : (j : ℕ) → j < 50 → IsRegular (ell j) (ell_left j) (ell_down j)
ell_regular j small = record {
  some = omega arith;
  few = omega arith;
  beside = ell_beside j;
  above = ell_above j;
  reached = reached;
}
  where
    reached : (i : ℕ) → i + 1 < 2 * j + 3 → (m : ℕ) × (m ≤ i) × (((ell j).right m ≡ i + 1) ⊎ ((ell j).up m ≡ i + 1))
    reached i h =
        elim (cases_lt (i + 1) (j + 2)) [
          | inl in_row ↦ (i, omega arith, inl (ell_row j i in_row))
          | inr past ↦
              elim (cases_eq (i + 1) (j + 2)) [
                | inl foot ↦ (0, omega arith, inr (ell_foot j i foot))
                | inr other ↦ (i, omega arith, inr (ell_column j i (omega arith) h))
              ]
        ]

-- ---- staircases
-- what exchanges each even square with the one after it
abbrev pub even_exchange : ℕ → ℕ → ℕ
even_exchange n i = if i % 2 == 0 then after_within n i else i - 1

-- and each odd one
abbrev pub odd_exchange : ℕ → ℕ → ℕ
odd_exchange n i = if i % 2 == 0 then i - 1 else after_within n i

even_undone : (n : ℕ) → Undoes n (even_exchange n) (even_exchange n)
even_undone n = record { there = there; back = there; undone = twice; redone = twice }
  where
    there : (i : ℕ) → i < n → even_exchange n i < n
    there i h = grind (arith, nat_tests)

    twice : (i : ℕ) → i < n → even_exchange n (even_exchange n i) ≡ i
    twice i h = grind (arith, nat_tests)

odd_undone : (n : ℕ) → Undoes n (odd_exchange n) (odd_exchange n)
odd_undone n = record { there = there; back = there; undone = twice; redone = twice }
  where
    there : (i : ℕ) → i < n → odd_exchange n i < n
    there i h = grind (arith, nat_tests)

    twice : (i : ℕ) → i < n → odd_exchange n (odd_exchange n i) ≡ i
    twice i h = grind (arith, nat_tests)

even_next : (n i : ℕ) → i + 1 < n → i % 2 ≡ 0 → even_exchange n i ≡ i + 1
even_next n i h even = grind (arith, nat_tests)

odd_next : (n i : ℕ) → i + 1 < n → (i % 2 ≡ 0 → ⊥) → odd_exchange n i ≡ i + 1
odd_next n i h odd = grind (arith, nat_tests)

pub staircase_regular : (j : ℕ) → j < 50 → IsRegular (staircase j) (even_exchange (j + 3)) (odd_exchange (j + 3))
staircase_regular j small = record {
  some = omega arith;
  few = omega arith;
  beside = even_undone (j + 3);
  above = odd_undone (j + 3);
  reached = reached;
}
  where
    reached : (i : ℕ) → i + 1 < j + 3 → (m : ℕ) × (m ≤ i) × (((staircase j).right m ≡ i + 1) ⊎ ((staircase j).up m ≡ i + 1))
    reached i h =
        elim (cases_eq (i % 2) 0) [
          | inl even ↦ (i, omega arith, inl (even_next (j + 3) i h even))
          | inr odd ↦ (i, omega arith, inr (odd_next (j + 3) i h odd))
        ]
