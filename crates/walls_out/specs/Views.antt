-- What a seat knows, and how each kind of step changes it.
use Rattle.std.specs.Prelude.{ℕ, zero, suc, ◌+◌, ◌||◌, Bool, true, false, List, [], ◌∷◌, ◌++◌, Option, Some, None}
use Rattle.walls_out.specs.declared.entry.Entry.{Entry}
use Rattle.walls_out.specs.declared.entry.Entry.TheVariants.{Root, Wall}
use Rattle.walls_out.specs.declared.view.View.{View}

-- the view with these parts: its number if it is a keeper, how many entries it made, those that it has done, those that it owes, whether it has seen 0, and how many keepers it has named if it names any
abbrev pub view : Option ℕ → ℕ → List Entry → List Entry → Bool → Option ℕ → View
view keeper made done owed seen naming = record { keeper = keeper; made = made; done = done; owed = owed; seen = seen; naming = naming }

-- the first seat once n keepers were named: it owes the root's entry
abbrev pub first_seat : ℕ → View
first_seat n = view None 0 [] (Root ∷ []) false (Some n)

-- a seat with that number, if any, that made and owes nothing
abbrev pub keeper_of : Option ℕ → View
keeper_of number = view number 0 [] [] false None

-- a view that holds nothing at all
abbrev pub spent : View
spent = view None 0 [] [] false None

-- the entries m to m + n - 1 of the keeper
abbrev pub fresh : Option ℕ → ℕ → ℕ → List Entry
fresh None m n = []
fresh (Some b) m zero = []
fresh (Some b) m (suc n) = Wall b m ∷ fresh (Some b) (suc m) n

-- all but the last
abbrev pub front_of : List Entry → List Entry
front_of [] = []
front_of (x ∷ []) = []
front_of (x ∷ y ∷ ys) = x ∷ front_of (y ∷ ys)

-- the last alone, where there is one
abbrev pub last_of : List Entry → List Entry
last_of [] = []
last_of (x ∷ []) = x ∷ []
last_of (x ∷ y ∷ ys) = last_of (y ∷ ys)

-- raise: k new entries are made, and owed last
abbrev pub raised : ℕ → View → View
raised k v = view v.keeper (v.made + k) v.done (v.owed ++ fresh v.keeper v.made k) v.seen v.naming

-- split: the last owed entry is given away, and the new seat owes it
abbrev pub keeps_front : View → View
keeps_front v = view v.keeper v.made v.done (front_of v.owed) v.seen v.naming

abbrev pub holds_last : View → View
holds_last v = view None 0 [] (last_of v.owed) false None

-- or nothing is given away, and the new seat has seen 0 where this one has
abbrev pub copy_seen : View → View
copy_seen v = view None 0 [] [] v.seen None

-- name: one keeper more was named, and that keeper
abbrev pub one_up : Option ℕ → Option ℕ
one_up None = None
one_up (Some n) = Some (n + 1)

abbrev pub named : View → View
named v = view v.keeper v.made v.done v.owed v.seen (one_up v.naming)

abbrev pub new_keeper : View → View
new_keeper v = keeper_of v.naming

-- join: both lists are owed, the seat's own first, and 0 is seen where either has seen it
abbrev pub joined : View → View → View
joined v w = view v.keeper v.made v.done (v.owed ++ w.owed) (v.seen || w.seen) v.naming

-- lower: the last owed entry is done
abbrev pub lowered : View → View
lowered v = view v.keeper v.made (v.done ++ last_of v.owed) (front_of v.owed) v.seen v.naming

-- a look that read 0
abbrev pub saw : View → View
saw v = view v.keeper v.made v.done v.owed true v.naming
