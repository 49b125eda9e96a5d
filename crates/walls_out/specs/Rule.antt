-- The rule of the counting word, part by part.
use Rattle.std.specs.Prelude.{◌≡◌, ℕ, ◌<◌, ◌≤◌, ◌^◌, ◌⊎◌, true, List, [], length, Some, None}
use mathlib.Core.Option.{some}
use lib.ListN.{get_elem?}
use Rattle.walls_out.specs.declared.entry.Entry.{Entry}
use Rattle.walls_out.specs.declared.entry.Entry.TheVariants.{Root, Wall}
use Rattle.walls_out.specs.declared.view.View.{View}
use Rattle.walls_out.specs.Counting.{total, one_root, owes, has_done}

-- how often the entry is owed over all views
abbrev pub times_owed : Entry → List View → ℕ
times_owed Root views = total (λ v. total one_root v.owed) views
times_owed (Wall k i) views = total (owes k i) views

-- a view stands at a place of the list
abbrev pub IsAt : List View → ℕ → View → Type 0
IsAt views by v = get_elem? views by ≡ some v

-- the rule: what holds of the word and of all views after every step
pub record IsCounting (word : ℕ) (views : List View) : Type 0 where
  -- no entry is owed twice over all views, and the word is the number of owed entries
  pub once : (e : Entry) → times_owed e views ≤ 1
  pub number : word ≡ total (λ v. length v.owed) views
  -- an owed entry other than the root's is below its keeper's made and is not done
  pub owed : (k i : ℕ) → 0 < times_owed (Wall k i) views → (by : ℕ) × (v : View) × IsAt views by v × (v.keeper ≡ Some k) × (i < v.made) × (has_done k i v ≡ 0)
  -- a keeper's done entries are distinct, its own and below its made
  pub done : (by : ℕ) (v : View) (k i : ℕ) → IsAt views by v → 0 < has_done k i v → (v.keeper ≡ Some k) × (i < v.made) × (has_done k i v ≡ 1)
  pub done_walls : (by : ℕ) (v : View) → IsAt views by v → total one_root v.done ≡ 0
  -- each entry of a keeper below its made is done by it or owed in some view
  pub made : (by : ℕ) (v : View) (k i : ℕ) → IsAt views by v → v.keeper ≡ Some k → i < v.made → (0 < has_done k i v) ⊎ (0 < times_owed (Wall k i) views)
  -- where some view has seen 0 the word is 0
  pub seen : (by : ℕ) (v : View) → IsAt views by v → v.seen ≡ true → word ≡ 0
  -- a seat that is no keeper has made and done nothing
  pub plain : (by : ℕ) (v : View) → IsAt views by v → v.keeper ≡ None → (v.made ≡ 0) × (v.done ≡ [])
  -- keeper numbers differ, at most one view names, and each keeper's number is below what it named
  pub apart : (by at : ℕ) (v w : View) (k : ℕ) → IsAt views by v → IsAt views at w → v.keeper ≡ Some k → w.keeper ≡ Some k → by ≡ at
  pub names : (by at : ℕ) (v w : View) (m n : ℕ) → IsAt views by v → IsAt views at w → v.naming ≡ Some m → w.naming ≡ Some n → by ≡ at
  pub below : (by at : ℕ) (v w : View) (k n : ℕ) → IsAt views by v → IsAt views at w → v.keeper ≡ Some k → w.naming ≡ Some n → k < n
  -- the bounds
  pub most : (by : ℕ) (v : View) (n : ℕ) → IsAt views by v → v.naming ≡ Some n → n ≤ 64
  pub numbers : (by : ℕ) (v : View) (k : ℕ) → IsAt views by v → v.keeper ≡ Some k → k < 64
  pub few : (by : ℕ) (v : View) → IsAt views by v → v.made ≤ 2 ^ 55
