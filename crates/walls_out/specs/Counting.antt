-- The rule by sums over all views.
use Rattle.std.specs.Prelude.{◌≡◌, ℕ, ◌+◌, ◌<◌, ◌≤◌, ◌^◌, ◌==◌, ◌&&◌, nat_lt, Bool, true, false, List, [], ◌∷◌, length, Option, Some, None}
use mathlib.Core.Option.{some}
use lib.ListN.{get_elem?}
use Rattle.walls_out.specs.declared.entry.Entry.{Entry}
use Rattle.walls_out.specs.declared.entry.Entry.TheVariants.{Root, Wall}
use Rattle.walls_out.specs.declared.view.View.{View}

-- f of each, added up
abbrev pub total : {A : Type 0} → (A → ℕ) → List A → ℕ
total f [] = 0
total f (x ∷ xs) = f x + total f xs

-- 1 where the test holds
abbrev pub one_if : Bool → ℕ
one_if true = 1
one_if false = 0

-- 1 for the root's entry
abbrev pub one_root : Entry → ℕ
one_root Root = 1
one_root (Wall k i) = 0

-- 1 for the entry i of the keeper k
abbrev pub one_wall : ℕ → ℕ → Entry → ℕ
one_wall k i Root = 0
one_wall k i (Wall b j) = one_if ((b == k) && (j == i))

-- how often the view owes the entry i of the keeper k
abbrev pub owes : ℕ → ℕ → View → ℕ
owes k i v = total (one_wall k i) v.owed

-- how often the view owes the root's entry
abbrev pub owes_root : View → ℕ
owes_root v = total one_root v.owed

-- how often the view has done it
abbrev pub has_done : ℕ → ℕ → View → ℕ
has_done k i v = total (one_wall k i) v.done

-- 1 where the number is k
abbrev pub numbered : Option ℕ → ℕ → ℕ
numbered None k = 0
numbered (Some b) k = one_if (b == k)

-- 1 where there is a number
abbrev pub one_some : Option ℕ → ℕ
one_some None = 0
one_some (Some b) = 1

-- 1 where the view is the keeper k
abbrev pub is_keeper : ℕ → View → ℕ
is_keeper k v = numbered v.keeper k

-- 1 where the view is a keeper
abbrev pub keeps : View → ℕ
keeps v = one_some v.keeper

-- 1 where the view names keepers
abbrev pub names : View → ℕ
names v = one_some v.naming

-- 1 where the number is k and i is below m
abbrev pub below : Option ℕ → ℕ → ℕ → ℕ → ℕ
below None m k i = 0
below (Some b) m k i = one_if ((b == k) && nat_lt i m)

-- 1 where the view is the keeper k and has made the entry i
abbrev pub has_made : ℕ → ℕ → View → ℕ
has_made k i v = below v.keeper v.made k i

-- what one view has by itself
pub record Fits (word next : ℕ) (v : View) : Type 0 where
  pub own : (k i : ℕ) → 0 < has_done k i v → v.keeper ≡ Some k
  pub no_root : total one_root v.done ≡ 0
  pub seen : v.seen ≡ true → word ≡ 0
  pub plain : v.keeper ≡ None → (v.made ≡ 0) × (v.done ≡ [])
  pub number : (k : ℕ) → v.keeper ≡ Some k → k < next
  pub naming : (n : ℕ) → v.naming ≡ Some n → n ≡ next
  pub few : v.made ≤ 2 ^ 55

-- the rule by sums over all views, as steps keep it, where the word holds this number and so many keepers were named
pub record Counts (word next : ℕ) (views : List View) : Type 0 where
  pub word_is : word ≡ total (λ v. length v.owed) views
  pub root : total owes_root views ≤ 1
  pub walls : (k i : ℕ) → total (owes k i) views + total (has_done k i) views ≡ total (has_made k i) views
  pub apart : (k : ℕ) → total (is_keeper k) views ≤ 1
  pub short : word + total (λ v. length v.done) views ≤ 1 + total (λ v. v.made) views
  pub keepers : total keeps views ≤ next
  pub most : next ≤ 64
  pub one_names : total names views ≤ 1
  pub each : (by : ℕ) (v : View) → get_elem? views by ≡ some v → Fits word next v

-- the same, where some number of keepers was named
abbrev pub Rule : List ℕ → List View → Type 0
Rule words views = (word : ℕ) × (next : ℕ) × (words ≡ word ∷ []) × Counts word next views
