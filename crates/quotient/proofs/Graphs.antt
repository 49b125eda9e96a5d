-- Graphs whose rows are written out.
use Rattle.std.proofs.Common.{◌≡◌, ℕ, zero, suc, ◌<◌, List, [], ◌∷◌, refl, subst, arith}
use Rattle.std.specs.Prelude.{Some}
use Rattle.std.specs.List.{AllByRecursion}
use Rattle.plane.specs.Matrices.{FieldMatrix}
use Rattle.terrain.specs.declared.graph.Lead.{Lead}
use Rattle.terrain.specs.Places.{IsAt}
use Rattle.terrain.specs.Reach.Path.{start, on}
use Rattle.quotient.specs.Trees.{row_at, HasLead, IsReachedFrom}

-- what holds of each element of each row holds of each that stands in one
element_of : {A : Type 0} (P : A → Type 0) (row : List A) → AllByRecursion P row → (w : ℕ) (x : A) → IsAt row w x → P x
element_of P [] all w x at = cc
element_of P (y ∷ row) all zero x at = subst P (same y x at) all.0
  where
    same : {A : Type 0} (y x : A) → Some y ≡ Some x → y ≡ x
    same y x e = cc
element_of P (y ∷ row) all (suc w) x at = element_of P row all.1 w x at

pub each_of : {A : Type 0} (P : A → Type 0) (rows : List (List A)) → AllByRecursion (AllByRecursion P) rows → (c w : ℕ) (x : A) → IsAt (row_at rows c) w x → P x
each_of P [] all zero w x at = cc
each_of P [] all (suc c) w x at = cc
each_of P (row ∷ rows) all zero w x at = element_of P row all.0 w x at
each_of P (row ∷ rows) all (suc c) w x at = each_of P rows all.1 c w x at

-- the one place of a graph is reached
pub one_reached : (row : List (Lead FieldMatrix)) (c : ℕ) → c < 1 → IsReachedFrom (row ∷ []) 0 c
one_reached row zero p = ∣ start ∣₁
one_reached row (suc c) p = absurd (omega (arith, p))

-- a place to which the first lead of the first place leads is reached
pub two_reached : (lead : Lead FieldMatrix) (row second : List (Lead FieldMatrix)) → lead.to ≡ 1 → (c : ℕ) → c < 2 → IsReachedFrom ((lead ∷ row) ∷ second ∷ []) 0 c
two_reached lead row second to zero p = ∣ start ∣₁
two_reached lead row second to (suc zero) p = ∣ on start (omega arith, (0, lead, refl, to)) ∣₁
two_reached lead row second to (suc (suc c)) p = absurd (omega (arith, p))
