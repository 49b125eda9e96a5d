-- What a step tells its seat.
use Rattle.std.specs.Prelude.{◌≡◌, ℕ, ℤ, List, [], ◌∷◌, ◌++◌, length}
use Rattle.atomic_table.specs.Table.{Me}
use Rattle.receipt_log.specs.declared.view.View.{View}
use Rattle.receipt_log.specs.Rule.{ArePrefixes}
use Rattle.receipt_log.specs.Views.{view}

-- append: the word was the length of the list, which grows by the entry
abbrev pub Appended : List ℤ → Me ℕ View → ℕ → Me ℕ View → Type 0
Appended entry v found w = (found ≡ length v.0.list) × (w.0 ≡ view v.0.keeps (v.0.list ++ entry ∷ []) v.0.olds v.0.place) × (w.1 ≡ v.1)

-- look: the word is the length of the list, and each old prefix is one of it and is dropped
abbrev pub Looked : Me ℕ View → ℕ → Me ℕ View → Type 0
Looked v found w = (found ≡ length v.0.list) × ArePrefixes v.0.olds v.0.list × (w.0 ≡ view v.0.keeps v.0.list [] v.0.place) × (w.1 ≡ v.1)
