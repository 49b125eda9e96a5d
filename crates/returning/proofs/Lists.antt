-- The values of a list of quotients, and which quotients there are.
use Rattle.std.proofs.Common.{◌≡◌, ◌⊎◌, ℕ, zero, suc, ◌<◌, ◌≤◌, arith, refl, ap, subst, List, [], ◌∷◌, ◌++◌, map, inl, inr}
use Rattle.std.specs.Prelude.{Some}
use Rattle.std.specs.List.{Contains}
use Rattle.std.proofs.lemmas.List.Elements.{Contains-append_left, Contains-append_right, Contains-append_cases}
use Rattle.std.proofs.lemmas.Bool.{cases_lt}
use Rattle.plane.specs.Matrices.{FieldMatrix, identity}
use Rattle.terrain.specs.declared.graph.Lead.{Lead}
use Rattle.terrain.specs.Places.{IsAt}
use Rattle.quotient.specs.Trees.{row_at, matrix_at, HasLead}
use Rattle.quotient.specs.Quotients.{Quotient, lead_quotient, lead_quotients, turn_quotient, turn_quotients, IsValueOf, AreValues, none, kept, left_out}

-- ---- lists
there : {X : Type 0} (x y : X) (xs : List X) → Contains xs x → Contains (y ∷ xs) x
there x y xs (k, p, e) = (suc k, omega (arith, p), e)

alone : {X : Type 0} (x y : X) → Contains (x ∷ []) y → x ≡ y
alone x y (zero, p, e) = e
alone x y (suc k, p, e) = absurd (omega (arith, p))

-- the image of an element stands in the image of the list
mapped_contains : {X Y : Type 0} (f : X → Y) (xs : List X) (w : ℕ) (x : X) → IsAt xs w x → Contains (map f xs) (f x)
mapped_contains f [] w x e = cc
mapped_contains f (y ∷ ys) zero x e = (0, omega arith, ap f (some_is e))
  where
    some_is : {X : Type 0} {a b : X} → Some a ≡ Some b → a ≡ b
    some_is e = cc
mapped_contains f (y ∷ ys) (suc w) x e = there (f x) (f y) (map f ys) (mapped_contains f ys w x e)

-- and each element of the image is one
contains_mapped : {X Y : Type 0} (f : X → Y) (xs : List X) (y : Y) → Contains (map f xs) y → (w : ℕ) × (x : X) × IsAt xs w x × (f x ≡ y)
contains_mapped f [] y (k, p, e) = absurd (omega (arith, p))
contains_mapped f (x ∷ xs) y (zero, p, e) = (0, x, refl, e)
contains_mapped f (x ∷ xs) y (suc k, p, e) = let r = contains_mapped f xs y (k, omega (arith, p), e) in (suc r.0, r.1, r.2, r.3)

less_or_last : (c n : ℕ) → c < suc n → (c < n) ⊎ (c ≡ n)
less_or_last c n p = go (cases_lt c n)
  where
    go : (c < n) ⊎ (n ≤ c) → (c < n) ⊎ (c ≡ n)
    go (inl q) = inl q
    go (inr q) = inr (omega (arith, p, q))

pub either : {A B C : Type 0} → (A → C) → (B → C) → A ⊎ B → C
either f g (inl a) = f a
either f g (inr b) = g b

-- ---- which quotients there are
pub lead_asked : (tree : List FieldMatrix) (rows : List (List (Lead FieldMatrix))) (n c w : ℕ) (lead : Lead FieldMatrix) → c < n → HasLead rows c w lead
    → Contains (lead_quotients tree rows n) (lead_quotient tree (matrix_at tree c) lead)
lead_asked tree rows zero c w lead p e = absurd (omega (arith, p))
lead_asked tree rows (suc n) c w lead p e =
    either
    (λ (q : c < n).
    Contains-append_left (lead_quotients tree rows n) (map (lead_quotient tree (matrix_at tree n)) (row_at rows n)) (lead_quotient tree (matrix_at tree c) lead) (lead_asked tree rows n c w lead q e))
    (λ (q : c ≡ n).
    Contains-append_right (lead_quotients tree rows n) (map (lead_quotient tree (matrix_at tree n)) (row_at rows n)) (lead_quotient tree (matrix_at tree c) lead)
    (subst (λ m. Contains (map (lead_quotient tree (matrix_at tree m)) (row_at rows m)) (lead_quotient tree (matrix_at tree c) lead)) q
    (mapped_contains (lead_quotient tree (matrix_at tree c)) (row_at rows c) w lead e)))
    (less_or_last c n p)

pub lead_meant : (tree : List FieldMatrix) (rows : List (List (Lead FieldMatrix))) (n : ℕ) (q : Quotient) → Contains (lead_quotients tree rows n) q
    → (c : ℕ) × (w : ℕ) × (lead : Lead FieldMatrix) × (c < n) × HasLead rows c w lead × (lead_quotient tree (matrix_at tree c) lead ≡ q)
lead_meant tree rows zero q (k, p, e) = absurd (omega (arith, p))
lead_meant tree rows (suc n) q m =
    either
    (λ (m : Contains (lead_quotients tree rows n) q). let r = lead_meant tree rows n q m in (r.0, r.1, r.2, below r.3, r.4, r.5))
    (λ (m : Contains (map (lead_quotient tree (matrix_at tree n)) (row_at rows n)) q).
    let r = contains_mapped (lead_quotient tree (matrix_at tree n)) (row_at rows n) q m in (n, r.0, r.1, omega arith, r.2, r.3))
    (Contains-append_cases (lead_quotients tree rows n) (map (lead_quotient tree (matrix_at tree n)) (row_at rows n)) q m)
  where
    below : {c : ℕ} → c < n → c < suc n
    below p = omega (arith, p)

pub turn_asked : (tree : List FieldMatrix) (turns : List (List FieldMatrix)) (n c w : ℕ) (turn : FieldMatrix) → c < n → IsAt (row_at turns c) w turn
    → Contains (turn_quotients tree turns n) (turn_quotient (matrix_at tree c) turn)
turn_asked tree turns zero c w turn p e = absurd (omega (arith, p))
turn_asked tree turns (suc n) c w turn p e =
    either
    (λ (q : c < n).
    Contains-append_left (turn_quotients tree turns n) (map (turn_quotient (matrix_at tree n)) (row_at turns n)) (turn_quotient (matrix_at tree c) turn) (turn_asked tree turns n c w turn q e))
    (λ (q : c ≡ n).
    Contains-append_right (turn_quotients tree turns n) (map (turn_quotient (matrix_at tree n)) (row_at turns n)) (turn_quotient (matrix_at tree c) turn)
    (subst (λ m. Contains (map (turn_quotient (matrix_at tree m)) (row_at turns m)) (turn_quotient (matrix_at tree c) turn)) q
    (mapped_contains (turn_quotient (matrix_at tree c)) (row_at turns c) w turn e)))
    (less_or_last c n p)

pub turn_meant : (tree : List FieldMatrix) (turns : List (List FieldMatrix)) (n : ℕ) (q : Quotient) → Contains (turn_quotients tree turns n) q
    → (c : ℕ) × (w : ℕ) × (turn : FieldMatrix) × (c < n) × IsAt (row_at turns c) w turn × (turn_quotient (matrix_at tree c) turn ≡ q)
turn_meant tree turns zero q (k, p, e) = absurd (omega (arith, p))
turn_meant tree turns (suc n) q m =
    either
    (λ (m : Contains (turn_quotients tree turns n) q). let r = turn_meant tree turns n q m in (r.0, r.1, r.2, below r.3, r.4, r.5))
    (λ (m : Contains (map (turn_quotient (matrix_at tree n)) (row_at turns n)) q).
    let r = contains_mapped (turn_quotient (matrix_at tree n)) (row_at turns n) q m in (n, r.0, r.1, omega arith, r.2, r.3))
    (Contains-append_cases (turn_quotients tree turns n) (map (turn_quotient (matrix_at tree n)) (row_at turns n)) q m)
  where
    below : {c : ℕ} → c < n → c < suc n
    below p = omega (arith, p)

-- ---- values
-- each quotient has a value that is listed or the identity
pub valued : (d : ℕ) (qs : List Quotient) (xs : List FieldMatrix) → AreValues d qs xs → (q : Quotient) → Contains qs q
    → (x : FieldMatrix) × (Contains xs x ⊎ (x ≡ identity)) × IsValueOf d q x
valued d _ _ none q (k, p, e) = absurd (omega (arith, p))
valued d _ _ (kept qs xs u y a v i n) q m =
    either
    (λ (m : Contains qs q). let r = valued d qs xs a q m in (r.0, wider r.0 r.1, r.2))
    (λ (m : Contains (u ∷ []) q). (y, inl (Contains-append_right xs (y ∷ []) y (0, omega arith, refl)), subst (λ q. IsValueOf d q y) (alone u q m) v))
    (Contains-append_cases qs (u ∷ []) q m)
  where
    wider : (x : FieldMatrix) → Contains xs x ⊎ (x ≡ identity) → Contains (xs ++ y ∷ []) x ⊎ (x ≡ identity)
    wider x (inl m) = inl (Contains-append_left xs (y ∷ []) x m)
    wider x (inr e) = inr e
valued d _ _ (left_out qs xs u y a v i) q m =
    either
    (λ (m : Contains qs q). valued d qs xs a q m)
    (λ (m : Contains (u ∷ []) q). (y, turned i, subst (λ q. IsValueOf d q y) (alone u q m) v))
    (Contains-append_cases qs (u ∷ []) q m)
  where
    turned : (y ≡ identity) ⊎ Contains xs y → Contains xs y ⊎ (y ≡ identity)
    turned (inl e) = inr e
    turned (inr m) = inl m

-- and each listed matrix is the value of a quotient
pub values_only : (d : ℕ) (qs : List Quotient) (xs : List FieldMatrix) → AreValues d qs xs → (x : FieldMatrix) → Contains xs x → (q : Quotient) × Contains qs q × IsValueOf d q x
values_only d _ _ none x (k, p, e) = absurd (omega (arith, p))
values_only d _ _ (kept qs xs u y a v i n) x m =
    either
    (λ (m : Contains xs x). let r = values_only d qs xs a x m in (r.0, Contains-append_left qs (u ∷ []) r.0 r.1, r.2))
    (λ (m : Contains (y ∷ []) x). (u, Contains-append_right qs (u ∷ []) u (0, omega arith, refl), subst (λ x. IsValueOf d u x) (alone y x m) v))
    (Contains-append_cases xs (y ∷ []) x m)
values_only d _ _ (left_out qs xs u y a v i) x m =
    let r = values_only d qs xs a x m in (r.0, Contains-append_left qs (u ∷ []) r.0 r.1, r.2)
