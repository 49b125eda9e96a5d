-- What contracts see of a worker's hands.
use Rattle.std.specs.Prelude.{◌≡◌, ℕ, zero, suc, List, [], ◌∷◌, map, is_some, true}
use Rattle.std.specs.declared.alloc.Global.{Global}
use Rattle.atomic_blocks.specs.Lent.{RowsId}
use Rattle.crossbeam_deque.specs.Handles.{worker_deque, worker_index, stealer_deque}
use Rattle.terrain.specs.declared.terrains.Terrain as terrains
use Rattle.terrain.specs.declared.numbers.Numbers as numbers
use Rattle.class_shards.specs.declared.naming.Naming as namings
use Rattle.wall_steal.specs.declared.other.Other.{Other}
use Rattle.wall_steal.specs.declared.hands.Hands.{Hands}

-- all but the element at a place
abbrev pub without : {A : Type 0} → ℕ → List A → List A
without i [] = []
without zero (x ∷ xs) = xs
without (suc i) (x ∷ xs) = x ∷ without i xs

module _ {T N K L F W : Type 0} {G : terrains.Ghosts T K L F W} {A : numbers.Ghosts T} {B : numbers.Ghosts K} {M : namings.Ghosts N} where
  -- the worker's own deque
  abbrev pub own_deque : Hands T N K L F W G A B M → RowsId × Global
  own_deque h = worker_deque h.own

  -- the deque behind a stealer
  abbrev pub deque_behind : Other T N K L F W G A B M → RowsId × Global
  deque_behind o = stealer_deque o.stealer

  -- the deques of the others, in the order in which they are tried
  abbrev pub other_deques : Hands T N K L F W G A B M → List (RowsId × Global)
  other_deques h = map deque_behind h.others.items

  -- how many tickets were put into its own deque
  abbrev pub puts_of : Hands T N K L F W G A B M → ℕ
  puts_of h = worker_index h.own

  -- there is room for a cause
  abbrev pub HasRoom : Hands T N K L F W G A B M → Type 0
  HasRoom h = is_some h.room ≡ true
