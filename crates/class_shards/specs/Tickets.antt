-- The tickets that a meet hands out.
use Rattle.std.specs.Prelude.{◌≡◌, ◌+◌, ◌⊎◌, ℕ, ℤ, List, vec_len}
use Rattle.std.specs.Arc.{arc_value}
use Rattle.std.specs.declared.alloc.Global.{Global}
use Rattle.std.specs.declared.vec.Vec.{Vec}
use Rattle.terrain.specs.declared.terrains.Terrain as terrains
use Rattle.terrain.specs.declared.numbers.Numbers as numbers
use Rattle.terrain.specs.Places.{IsAt}
use Rattle.class_shards.specs.declared.naming.Naming as namings
use Rattle.class_shards.specs.declared.ticket.Ticket.{Ticket}

module _ {T N K L F W : Type 0} {G : terrains.Ghosts T K L F W} {A : numbers.Ghosts T} {B : numbers.Ghosts K} {M : namings.Ghosts N} where
  -- tickets of the key's walls, which are so many, from the last wall down
  abbrev pub AreTicketsOf : List ℤ → ℕ → List (Ticket T N K L F W G A B M) → Type 0
  AreTicketsOf k walls tickets = (i : ℕ) (t : Ticket T N K L F W G A B M) → IsAt tickets i t → (B.numbers (arc_value t.key) ≡ k) × (t.wall + i + 1 ≡ walls)

-- no ticket, or one for each of the key's walls, which are so many, from the last wall down
pub record AreNoneOrAll {T N K L F W : Type 0} {G : terrains.Ghosts T K L F W} {A : numbers.Ghosts T} {B : numbers.Ghosts K} {M : namings.Ghosts N} (k : List ℤ) (walls : ℕ) (tickets : Vec (Ticket T N K L F W G A B M) Global) : Type 0 where
  pub count : (vec_len tickets ≡ 0) ⊎ (vec_len tickets ≡ walls)
  pub each : AreTicketsOf k walls tickets.items
