-- Books: finite maps from keys to lists of slots, as the list of their rows in the order in which the keys were added.
use Rattle.std.specs.Prelude.{◌≡◌, ℕ, suc, ◌+◌, ℤ, List, [], ◌∷◌, Option, Some, None, map, replicate, length}
use Rattle.terrain.specs.Places.{IsAt}
use Rattle.terrain.specs.Reach.{IsReached}

-- a filled slot: the key to which the wall leads, and the link
pub record Slot (L : Type 0) : Type 0 where
  pub target : List ℤ
  pub link : L

-- a key, and for each of its walls a slot that is empty or filled
pub record Row (L : Type 0) : Type 0 where
  pub key : List ℤ
  pub slots : List (Option (Slot L))

-- the keys in the order in which they were added
abbrev pub keys_of : {L : Type 0} → List (Row L) → List (List ℤ)
keys_of rows = map (λ r. r.key) rows

-- a key with n empty slots
abbrev pub empty_row : {L : Type 0} → List ℤ → ℕ → Row L
empty_row k n = record { key = k; slots = replicate n None }

-- how many slots of a list are empty
abbrev pub empties : {A : Type 0} → List (Option A) → ℕ
empties [] = 0
empties (None ∷ slots) = suc (empties slots)
empties (Some s ∷ slots) = empties slots

-- how many slots of a book are empty
abbrev pub out : {L : Type 0} → List (Row L) → ℕ
out [] = 0
out (r ∷ rows) = empties r.slots + out rows

-- the key is in the book, with its row
pub record HasKey {L : Type 0} (rows : List (Row L)) (k : List ℤ) : Type 0 where
  pub place : ℕ
  pub row : Row L
  pub at : IsAt rows place row
  pub is : row.key ≡ k

-- the key is in the book, and its slot w is there and empty
abbrev pub IsOpen : {L : Type 0} → List (Row L) → List ℤ → ℕ → Type 0
IsOpen rows k w = (from : HasKey rows k) × IsAt from.row.slots w None

-- slot w of the key at place i is filled
abbrev pub IsFilled : {L : Type 0} → List (Row L) → ℕ → ℕ → Type 0
IsFilled {L} rows i w = (r : Row L) × (s : Slot L) × IsAt rows i r × IsAt r.slots w (Some s)

-- the root is the first key; keys are reached, each is there once and has a slot for each of its walls; a filled slot holds its wall's lead, and its target is in the book
pub record IsSound {L : Type 0} (Walls : List ℤ → ℕ → Type 0) (Leads : List ℤ → ℕ → List ℤ → L → Type 0) (root : List ℤ) (rows : List (Row L)) : Type 0 where
  pub root_first : IsAt (keys_of rows) 0 root
  pub reached : (i : ℕ) (r : Row L) → IsAt rows i r → IsReached Walls Leads root r.key
  pub once : (i j : ℕ) (r s : Row L) → IsAt rows i r → IsAt rows j s → r.key ≡ s.key → i ≡ j
  pub walls : (i : ℕ) (r : Row L) → IsAt rows i r → Walls r.key (length r.slots)
  pub leads : (i w : ℕ) (r : Row L) (s : Slot L) → IsAt rows i r → IsAt r.slots w (Some s) → Leads r.key w s.target s.link
  pub targets : (i w : ℕ) (r : Row L) (s : Slot L) → IsAt rows i r → IsAt r.slots w (Some s) → HasKey rows s.target
