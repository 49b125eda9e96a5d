-- The rule of the log.
use Rattle.std.specs.Prelude.{◌≡◌, ℕ, ℤ, ◌<◌, true, false, List, [], ◌∷◌, length, Some, None}
use mathlib.Core.Option.{some}
use mathlib.Core.List.{IsPrefix}
use lib.ListN.{get_elem?}
use Rattle.receipt_log.specs.declared.view.View.{View}

-- a view stands at a place of the list
abbrev pub IsViewAt : List View → ℕ → View → Type 0
IsViewAt views by v = get_elem? views by ≡ some v

-- each is a prefix of the list
abbrev pub ArePrefixes : List (List (List ℤ)) → List (List ℤ) → Type 0
ArePrefixes olds all = (i : ℕ) (old : List (List ℤ)) → get_elem? olds i ≡ some old → IsPrefix old all

-- what one view has by itself, where the keeper's list is `all`
pub record Fits (all : List (List ℤ)) (v : View) : Type 0 where
  pub seen : IsPrefix v.list all
  pub olds : ArePrefixes v.olds all
  pub within : (p : ℕ) → v.place ≡ Some p → p < length v.list
  pub spent : v.keeps ≡ false → v.place ≡ None → (v.list ≡ []) × (v.olds ≡ [])

-- the rule: what holds of the word and of all views after every step
pub record IsLog (word : ℕ) (views : List View) : Type 0 where
  -- there is one keeper's view
  pub keeper : View
  pub seat : ℕ
  pub at : IsViewAt views seat keeper
  pub keeps : keeper.keeps ≡ true
  pub one : (by : ℕ) (v : View) → IsViewAt views by v → v.keeps ≡ true → by ≡ seat
  -- the word is the length of its list
  pub number : word ≡ length keeper.list
  -- each seen list and each old one is a prefix of it, a receipt's place is below the length of what it has seen, and a view that is neither a keeper's nor a receipt's holds nothing
  pub fits : (by : ℕ) (v : View) → IsViewAt views by v → Fits keeper.list v

-- there is one word, and the rule holds of it and of the views
abbrev pub Rule : List ℕ → List View → Type 0
Rule words views = (word : ℕ) × (words ≡ word ∷ []) × IsLog word views
