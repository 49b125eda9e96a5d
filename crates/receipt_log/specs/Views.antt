-- What a seat knows, and how a join changes it.
use Rattle.std.specs.Prelude.{ℕ, ℤ, Bool, true, false, List, [], ◌∷◌, Option, Some, None}
use Rattle.receipt_log.specs.declared.view.View.{View}

-- the view with these parts: whether it is the keeper's, its list, the old prefixes that it took in, and its place if it is a receipt's
abbrev pub view : Bool → List (List ℤ) → List (List (List ℤ)) → Option ℕ → View
view keeps list olds place = record { keeps = keeps; list = list; olds = olds; place = place }

-- the keeper of a list, who has no old prefix
abbrev pub keeper : List (List ℤ) → View
keeper list = view true list [] None

-- a receipt of the entry at the place, which has seen a prefix of the keeper's list
abbrev pub receipt : ℕ → List (List ℤ) → View
receipt place list = view false list [] (Some place)

-- a view that holds nothing at all
abbrev pub spent : View
spent = view false [] [] None

-- join: the list of the other is kept as an old prefix
abbrev pub took : View → View → View
took v w = view v.keeps v.list (w.list ∷ v.olds) v.place
