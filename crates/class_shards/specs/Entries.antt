-- The entry of a slot: the slots of the keys before it, and its wall.
use Rattle.std.specs.Prelude.{◌≡◌, ℕ, zero, suc, ◌+◌, ◌<◌, ℤ, List, [], ◌∷◌}
use Rattle.walls_out.specs.declared.entry.Entry.{Entry}
use Rattle.walls_out.specs.declared.entry.Entry.TheVariants.{Root, Wall}

-- the first so many of the keys have so many walls together
abbrev pub SlotsBefore : (List ℤ → ℕ → Type 0) → List (List ℤ) → ℕ → ℕ → Type 0
SlotsBefore Walls keys zero m = m ≡ 0
SlotsBefore Walls [] (suc i) m = ⊥
SlotsBefore Walls (k ∷ keys) (suc i) m = (n : ℕ) × (r : ℕ) × Walls k n × SlotsBefore Walls keys i r × (m ≡ n + r)

-- the index of the one entry that is owed
abbrev pub index_in : List Entry → ℕ
index_in [] = 0
index_in (Root ∷ es) = 0
index_in (Wall k i ∷ es) = i

-- the index is that of the key's wall, where the key stands at that place of the shard's keys
pub record IsSlot (Walls : List ℤ → ℕ → Type 0) (key : List ℤ) (keys : List (List ℤ)) (place wall index : ℕ) : Type 0 where
  pub walls : ℕ
  pub has : Walls key walls
  pub within : wall < walls
  pub before : ℕ
  pub sum : SlotsBefore Walls keys place before
  pub is : index ≡ before + wall
