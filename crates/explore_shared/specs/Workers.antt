-- How workers begin and end.
use Rattle.std.specs.Prelude.{◌≡◌, ℕ, Some, true}
use Rattle.atomic_table.specs.Seated.{TableId}
use Rattle.terrain.specs.declared.terrains.Terrain as terrains
use Rattle.terrain.specs.declared.numbers.Numbers as numbers
use Rattle.class_shards.specs.declared.naming.Naming as namings
use Rattle.walls_out.specs.Seats.{count_of, view_of}
use Rattle.walls_out.specs.Views.{keeper_of}
use Rattle.wall_steal.specs.declared.ended.Ended.{Ended}
use Rattle.wall_steal.specs.declared.ended.Ended.TheVariants.{Drained, Halted}
use Rattle.wall_steal.specs.Cells.{noted_cell}
use Rattle.wall_steal.specs.Deques.{HasRoom}
use Rattle.explore_shared.specs.declared.run.Worker.{Worker}

module _ {T N K L F W : Type 0} {G : terrains.Ghosts T K L F W} {A : numbers.Ghosts T} {B : numbers.Ghosts K} {M : namings.Ghosts N} where
  -- the worker's seat is a keeper of that count that made and owes nothing, and its hands have room for a cause
  pub record IsReady (count : TableId) (worker : Worker T N K L F W G A B M) : Type 0 where
    pub counted : count_of worker.seat ≡ count
    pub keeper : ℕ
    pub fresh : view_of worker.seat ≡ keeper_of (Some keeper)
    pub room : HasRoom worker.hands

  -- with a seat of that count that has seen 0, or with a note of that cell
  abbrev pub EndsWell : TableId → ℕ → Ended T N K L F W G A B M → Type 0
  EndsWell count cell (Drained seat) = (count_of seat ≡ count) × ((view_of seat).seen ≡ true)
  EndsWell count cell (Halted note) = noted_cell note ≡ cell
