-- The graph of a book.
use Rattle.std.specs.Prelude.{◌≡◌, ◌↔◌, ℕ, ℤ, List, Some, length, Contains}
use Rattle.std.specs.declared.cmp.Ordering.{Ordering}
use Rattle.terrain.specs.declared.graph.Lead.{Lead}
use Rattle.terrain.specs.Places.{IsAt}
use Rattle.terrain.specs.Graphs.{IsAscending}
use Rattle.explore_core.specs.Books.{Slot, Row, HasKey, keys_of}

-- the leads are the slots, each with the place of its target among the keys
abbrev pub AreLeads : {L : Type 0} → List (List ℤ) → Row L → List (Lead L) → Type 0
AreLeads {L} keys r leads = (length leads ≡ length r.slots) × ((w : ℕ) (l : Lead L) → IsAt leads w l → (s : Slot L) × IsAt r.slots w (Some s) × IsAt keys l.to s.target × (l.link ≡ s.link))

-- exactly the keys of the book, ascending; for each its slots as leads; and the place of the book's first key
pub record IsGraphOf {L : Type 0} (order : List ℤ → List ℤ → Ordering) (book : List (Row L)) (keys : List (List ℤ)) (rows : List (List (Lead L))) (place : ℕ) : Type 0 where
  pub same_keys : (k : List ℤ) → (Contains keys k) ↔ (Contains (keys_of book) k)
  pub ascending : IsAscending order keys
  pub row_each : length rows ≡ length keys
  pub slots : (i : ℕ) (k : List ℤ) (row : List (Lead L)) → IsAt keys i k → IsAt rows i row → (from : HasKey book k) × AreLeads keys from.row row
  pub root_at : (root : List ℤ) → IsAt (keys_of book) 0 root → IsAt keys place root
