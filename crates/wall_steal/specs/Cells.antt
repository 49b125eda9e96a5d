-- What contracts see of a cell for a cause, and of a note of it.
use Rattle.std.specs.Prelude.{ℕ, Option, option_map}
use Rattle.once_cell.specs.Once.{cell_name}
use Rattle.terrain.specs.declared.terrains.Terrain as terrains
use Rattle.terrain.specs.declared.numbers.Numbers as numbers
use Rattle.class_shards.specs.declared.naming.Naming as namings
use Rattle.wall_steal.specs.declared.cause.HaltCause.{HaltCause}
use Rattle.wall_steal.specs.declared.cause.Known.{Known}
use Rattle.wall_steal.specs.declared.halt.Halt.{Halt}
use Rattle.wall_steal.specs.declared.halt.HaltNote.{HaltNote}

module _ {T N K L F W : Type 0} {G : terrains.Ghosts T K L F W} {A : numbers.Ghosts T} {B : numbers.Ghosts K} {M : namings.Ghosts N} where
  -- the name of a cell
  abbrev pub cell_of : Halt T N K L F W G A B M → ℕ
  cell_of halt = cell_name halt.cell

  -- the name of the cell that a note is of
  abbrev pub noted_cell : HaltNote T N K L F W G A B M → ℕ
  noted_cell note = note.note.cell

  -- the cause that a note knows
  abbrev pub noted_cause : HaltNote T N K L F W G A B M → Option (HaltCause T K L F W B)
  noted_cause note = option_map (λ (k : Known T N K L F W G A B M). k.cause) note.note.known
