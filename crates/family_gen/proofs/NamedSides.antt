-- The sides that glue lines name.
use Rattle.std.proofs.Common.{◌≡◌, ℕ, zero, suc, ◌<◌, ◌⊎◌, inl, inr, List, [], ◌∷◌, ◌++◌, length, take, get_or, sym, ap, ◌∙◌, arith, slice_index_or}
use Rattle.std.specs.List.{AllByRecursion, Contains}
use Rattle.std.proofs.lemmas.List.{length-take, get_or-take}
use Rattle.surface_text.specs.declared.file.Glue.{Glue}
use Rattle.gluing.specs.Gluings.{Name, first_of, second_of, names, no_glue, glue_at, NamesTwice}

-- what holds of all elements holds of each
pub all_at : {X : Type 0} (P : X → Type 0) (xs : List X) (d : X) (i : ℕ) → AllByRecursion P xs → i < length xs → P (get_or xs i d)
all_at P [] d i all h = absurd (omega arith)
all_at P (x ∷ xs) d zero all h = all.0
all_at P (x ∷ xs) d (suc i) all h = all_at P xs d i all.1 (omega arith)

-- and what holds of each holds of all
pub all_from : {X : Type 0} (P : X → Type 0) (xs : List X) (d : X) → ((i : ℕ) → i < length xs → P (get_or xs i d)) → AllByRecursion P xs
all_from P [] d each = tt
all_from P (x ∷ xs) d each = (each 0 (omega arith), all_from P xs d (λ i h. each (suc i) (omega arith)))

-- glue line m names this side
abbrev pub IsNamedBy : List Glue → ℕ → Name → Type 0
IsNamedBy glues m n = (first_of (glue_at glues m) ≡ n) ⊎ (second_of (glue_at glues m) ≡ n)

-- a side that is named is named by a line
naming_at : (glues : List Glue) (n : Name) (k : ℕ) → k < length (names glues) → slice_index_or (names glues) k n ≡ n
    → (m : ℕ) × (m < length glues) × IsNamedBy glues m n
naming_at [] n k h e = absurd (omega arith)
naming_at (g ∷ glues) n zero h e = (0, omega arith, inl e)
naming_at (g ∷ glues) n (suc zero) h e = (0, omega arith, inr e)
naming_at (g ∷ glues) n (suc (suc k)) h e = let rest = naming_at glues n k (omega arith) e in (suc rest.0, omega (arith, rest.1), rest.2)

-- and the other way round
pub first_named : (glues : List Glue) (m : ℕ) (n : Name) → m < length glues → first_of (glue_at glues m) ≡ n → Contains (names glues) n
first_named [] m n h e = absurd (omega arith)
first_named (g ∷ glues) zero n h e = (0, omega arith, e)
first_named (g ∷ glues) (suc m) n h e = let rest = first_named glues m n (omega arith) e in (suc (suc rest.0), omega (arith, rest.1), rest.2)

pub second_named : (glues : List Glue) (m : ℕ) (n : Name) → m < length glues → second_of (glue_at glues m) ≡ n → Contains (names glues) n
second_named [] m n h e = absurd (omega arith)
second_named (g ∷ glues) zero n h e = (1, omega arith, e)
second_named (g ∷ glues) (suc m) n h e = let rest = second_named glues m n (omega arith) e in (suc (suc rest.0), omega (arith, rest.1), rest.2)

-- what a list with one more element holds
contains_more : {X : Type 0} (xs : List X) (y n : X) (k : ℕ) → k < length (xs ++ y ∷ []) → slice_index_or (xs ++ y ∷ []) k n ≡ n → Contains xs n ⊎ (y ≡ n)
contains_more [] y n zero h e = inr e
contains_more [] y n (suc k) h e = absurd (omega arith)
contains_more (x ∷ xs) y n zero h e = inl (0, omega arith, e)
contains_more (x ∷ xs) y n (suc k) h e =
    elim (contains_more xs y n k (omega arith) e) [ inl c ↦ inl (suc c.0, omega (arith, c.1), c.2) | inr same ↦ inr same ]

-- lines that can be told by either side that they name name no side twice
module _ (glues : List Glue) (line : Name → ℕ)
    (first : (m : ℕ) → m < length glues → line (first_of (glue_at glues m)) ≡ m)
    (second : (m : ℕ) → m < length glues → line (second_of (glue_at glues m)) ≡ m)
    (apart : (m : ℕ) → m < length glues → ¬ (first_of (glue_at glues m) ≡ second_of (glue_at glues m)))
  where
    not_before : (k : ℕ) (n : Name) → k < length glues → line n ≡ k → ¬ (Contains (names (take k glues)) n)
    not_before k n h is c =
        let found = naming_at (take k glues) n c.0 c.1 c.2 in
        let early : found.0 < k = omega (arith, found.1, length-take k glues) in
        let inside : found.0 < length glues = omega arith in
        let same : glue_at (take k glues) found.0 ≡ glue_at glues found.0 = get_or-take k glues found.0 no_glue early in
        elim found.2 [
          | inl e ↦
              let told : line n ≡ found.0 = ap line (sym e) ∙ ap (λ (g : Glue). line (first_of g)) same ∙ first found.0 inside in
              omega arith
          | inr e ↦
              let told : line n ≡ found.0 = ap line (sym e) ∙ ap (λ (g : Glue). line (second_of g)) same ∙ second found.0 inside in
              omega arith
        ]

    pub never_twice : (k : ℕ) → k < length glues → ¬ (NamesTwice glues k)
    never_twice k h (inl c) = not_before k (first_of (glue_at glues k)) h (first k h) c
    never_twice k h (inr c) =
        elim (contains_more (names (take k glues)) (first_of (glue_at glues k)) (second_of (glue_at glues k)) c.0 c.1 c.2) [
          | inl before ↦ not_before k (second_of (glue_at glues k)) h (second k h) before
          | inr same ↦ apart k h same
        ]
