-- Facts that are decided, and what is decided with them.
use Rattle.std.proofs.Common.{◌≡◌, ◌↔◌, ℕ, zero, suc, ◌<◌, ◌⊎◌, inl, inr, List, length, get_or, sym, subst, arith}
use Rattle.std.specs.List.{Contains}
use Rattle.std.proofs.lemmas.Bool.{cases_eq}

-- whether P holds
abbrev pub Decided : Type 0 → Type 0
Decided P = P ⊎ ¬ P

pub decide_not : (P : Type 0) → Decided P → Decided (¬ P)
decide_not P (inl p) = inr (λ n. n p)
decide_not P (inr n) = inl n

pub decide_both : (P Q : Type 0) → Decided P → Decided Q → Decided (P × Q)
decide_both P Q (inl p) (inl q) = inl (p, q)
decide_both P Q (inl p) (inr n) = inr (λ h. n h.1)
decide_both P Q (inr n) e = inr (λ h. n h.0)

pub decide_either : (P Q : Type 0) → Decided P → Decided Q → Decided (P ⊎ Q)
decide_either P Q (inl p) e = inl (inl p)
decide_either P Q (inr n) (inl q) = inl (inr q)
decide_either P Q (inr n) (inr m) = inr (λ h. elim h [ inl p ↦ n p | inr q ↦ m q ])

pub decide_implied : (P Q : Type 0) → Decided P → Decided Q → Decided (P → Q)
decide_implied P Q (inr n) e = inl (λ p. absurd (n p))
decide_implied P Q (inl p) (inl q) = inl (λ h. q)
decide_implied P Q (inl p) (inr n) = inr (λ h. n (h p))

-- of two facts that say the same one is decided with the other
pub decide_same : (P Q : Type 0) → (P ↔ Q) → Decided P → Decided Q
decide_same P Q same (inl p) = inl (same.0 p)
decide_same P Q same (inr n) = inr (λ q. n (same.1 q))

-- whether P holds of each number below n
pub decide_all : (P : ℕ → Type 0) (n : ℕ) → ((k : ℕ) → k < n → Decided (P k)) → Decided ((k : ℕ) → k < n → P k)
decide_all P zero decided = inl (λ k below. absurd (omega arith))
decide_all P (suc n) decided = elim (decide_all P n (λ k below. decided k (omega arith))) [
  | inr fails ↦ inr (λ all. fails (λ k below. all k (omega arith)))
  | inl before ↦ elim (decided n (omega arith)) [
    | inr fails ↦ inr (λ all. fails (all n (omega arith)))
    | inl last ↦ inl (λ k below. elim (cases_eq k n) [ inl e ↦ subst P (sym e) last | inr ne ↦ before k (omega arith) ])
  ]
]

-- whether P holds of some number below n
pub decide_some : (P : ℕ → Type 0) (n : ℕ) → ((k : ℕ) → k < n → Decided (P k)) → Decided ((k : ℕ) × (k < n) × P k)
decide_some P zero decided = inr (λ some. omega (arith, some.1))
decide_some P (suc n) decided = elim (decided n (omega arith)) [
  | inl last ↦ inl (n, omega arith, last)
  | inr fails ↦ elim (decide_some P n (λ k below. decided k (omega arith))) [
    | inl some ↦ inl (some.0, omega (arith, some.1), some.2)
    | inr none ↦ inr (λ some. elim (cases_eq some.0 n) [
      | inl e ↦ fails (subst P e some.2)
      | inr ne ↦ none (some.0, omega (arith, some.1, ne), some.2)
    ])
  ]
]

-- whether a list has an element
pub decide_contains : {X : Type 0} (same : (x y : X) → Decided (x ≡ y)) (xs : List X) (x : X) → Decided (Contains xs x)
decide_contains same xs x = decide_some (λ k. get_or xs k x ≡ x) (length xs) (λ k below. same (get_or xs k x) x)
