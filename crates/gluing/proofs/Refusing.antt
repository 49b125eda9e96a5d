-- Of checks in order, one refuses at most, for one cause in one line.
use Rattle.std.proofs.Common.{◌≡◌, ℕ, zero, suc, ◌<◌, ◌⊎◌, inl, inr, List, [], ◌∷◌, refl, sym, ap, subst, ◌∙◌, arith}
use Rattle.std.proofs.lemmas.Bool.{cases_order}
use Rattle.gluing.specs.Refusals.{Condition, Check, AllHold, FailsFor, HoldBefore, IsFirstFailure, Passes, IsRefusedBy, IsRefusedByFirst}
use Rattle.gluing.proofs.Decisions.{Decided}

-- conditions that hold don't fail
pub holds_fails : (conditions : List Condition) (cause : ℕ) → AllHold conditions → ¬ (FailsFor cause conditions)
holds_fails [] cause all fails = fails
holds_fails (c ∷ conditions) cause all (inl fails) = fails.0 all.0
holds_fails (c ∷ conditions) cause all (inr fails) = holds_fails conditions cause all.1 fails.1

-- conditions fail for one cause
one_cause : (conditions : List Condition) (a b : ℕ) → FailsFor a conditions → FailsFor b conditions → a ≡ b
one_cause [] a b h k = absurd h
one_cause (c ∷ conditions) a b (inl h) (inl k) = h.1 ∙ sym k.1
one_cause (c ∷ conditions) a b (inl h) (inr k) = absurd (h.0 k.0)
one_cause (c ∷ conditions) a b (inr h) (inl k) = absurd (k.0 h.0)
one_cause (c ∷ conditions) a b (inr h) (inr k) = one_cause conditions a b h.1 k.1

-- the first failure is at one place
one_place : (conditions : ℕ → List Condition) (n a b p q : ℕ) → IsFirstFailure conditions n a p → IsFirstFailure conditions n b q → p ≡ q
one_place conditions n a b p q h k = elim (cases_order p q) [
  | inl e ↦ e
  | inr other ↦ elim other [
    | inl less ↦ absurd (holds_fails (conditions p) a (k.before p less) h.fails)
    | inr more ↦ absurd (holds_fails (conditions q) b (h.before q more) k.fails)
  ]
]

-- a check refuses for one cause in one line
one_by : (check : Check) (a b l m : ℕ) → IsRefusedBy check a l → IsRefusedBy check b m → (a ≡ b) × (l ≡ m)
one_by check a b l m h k =
    let same : h.place ≡ k.place = one_place check.conditions check.places a b h.place k.place h.first k.first in
    (one_cause (check.conditions k.place) a b (subst (λ (p : ℕ). FailsFor a (check.conditions p)) same h.first.fails) k.first.fails, h.line_is ∙ ap check.line same ∙ sym k.line_is)

-- a check that passes doesn't refuse
passes_by : (check : Check) (cause line : ℕ) → Passes check → ¬ (IsRefusedBy check cause line)
passes_by check cause line passes h = holds_fails (check.conditions h.place) cause (passes h.place h.first.inside) h.first.fails

-- so checks in order refuse for one cause in one line
pub one_first : (checks : List Check) (a b l m : ℕ) → IsRefusedByFirst checks a l → IsRefusedByFirst checks b m → (a ≡ b) × (l ≡ m)
one_first [] a b l m h k = absurd h
one_first (check ∷ checks) a b l m (inl h) (inl k) = one_by check a b l m h k
one_first (check ∷ checks) a b l m (inl h) (inr k) = absurd (passes_by check a l k.0 h)
one_first (check ∷ checks) a b l m (inr h) (inl k) = absurd (passes_by check b m h.0 k)
one_first (check ∷ checks) a b l m (inr h) (inr k) = one_first checks a b l m h.1 k.1

-- all of the checks pass
abbrev pub AllPass : List Check → Type 0
AllPass [] = Unit {0}
AllPass (check ∷ checks) = Passes check × AllPass checks

-- and then none refuses
pub passes_first : (checks : List Check) (cause line : ℕ) → AllPass checks → ¬ (IsRefusedByFirst checks cause line)
passes_first [] cause line all h = h
passes_first (check ∷ checks) cause line all (inl h) = passes_by check cause line all.0 h
passes_first (check ∷ checks) cause line all (inr h) = passes_first checks cause line all.1 h.1

-- each condition is decided
abbrev pub AreDecided : List Condition → Type 0
AreDecided [] = Unit {0}
AreDecided (condition ∷ conditions) = Decided (condition.1) × AreDecided conditions

-- then all hold, or they fail for a cause
some_cause : (conditions : List Condition) → AreDecided conditions → AllHold conditions ⊎ ((cause : ℕ) × FailsFor cause conditions)
some_cause [] decided = inl tt
some_cause (c ∷ conditions) (inr fails, decided) = inr (c.0, inl (fails, refl))
some_cause (c ∷ conditions) (inl holds, decided) = elim (some_cause conditions decided) [
  | inl all ↦ inl (holds, all)
  | inr fails ↦ inr (fails.0, inr (holds, fails.1))
]

-- so they hold at the first n places, or there is a first failure
some_failure : (conditions : ℕ → List Condition) (n : ℕ) → ((k : ℕ) → k < n → AreDecided (conditions k))
    → HoldBefore conditions n ⊎ ((cause : ℕ) × (place : ℕ) × IsFirstFailure conditions n cause place)
some_failure conditions zero decided = inl (λ k below. absurd (omega arith))
some_failure conditions (suc n) decided = elim (some_failure conditions n (λ k below. decided k (omega arith))) [
  | inr first ↦ inr (first.0, first.1, record { inside = omega (arith, first.2.inside); before = first.2.before; fails = first.2.fails })
  | inl before ↦ elim (some_cause (conditions n) (decided n (omega arith))) [
    | inl all ↦ inl (λ k below. elim (cases_order k n) [
      | inl e ↦ subst (λ (j : ℕ). AllHold (conditions j)) (sym e) all
      | inr other ↦ elim other [ inl less ↦ before k less | inr more ↦ absurd (omega arith) ]
    ])
    | inr fails ↦ inr (fails.0, n, record { inside = omega arith; before = before; fails = fails.1 })
  ]
]

-- each condition of the check is decided at each of its places
abbrev pub IsDecided : Check → Type 0
IsDecided check = (k : ℕ) → k < check.places → AreDecided (check.conditions k)

-- and each condition of all of the checks
abbrev pub AllDecided : List Check → Type 0
AllDecided [] = Unit {0}
AllDecided (check ∷ checks) = IsDecided check × AllDecided checks

-- then all pass, or the first that doesn't refuses
pub some_first : (checks : List Check) → AllDecided checks → AllPass checks ⊎ ((cause : ℕ) × (line : ℕ) × IsRefusedByFirst checks cause line)
some_first [] decided = inl tt
some_first (check ∷ checks) decided = elim (some_failure check.conditions check.places decided.0) [
  | inr first ↦ inr (first.0, check.line first.1, inl (record { place = first.1; first = first.2; line_is = refl }))
  | inl passes ↦ elim (some_first checks decided.1) [
    | inl all ↦ inl (passes, all)
    | inr refused ↦ inr (refused.0, refused.1, inr (passes, refused.2))
  ]
]
