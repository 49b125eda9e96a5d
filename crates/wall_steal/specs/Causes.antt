-- When a cause to halt is true of a walk.
use Rattle.std.specs.Prelude.{ℕ, ◌<◌, ℤ, List, length, ⊤}
use Rattle.std.specs.Arc.{arc_value}
use Rattle.std.specs.Coded.{le_prop, Unit-prop}
use mathlib.Core.Logic.{∥∥₁_prop}
use native.Mathlib.Nat.{ℕ_set}
use Rattle.terrain.specs.declared.numbers.Numbers as numbers
use Rattle.terrain.specs.Causes.{IsStuckWithin}
use Rattle.terrain.specs.Reach.{AreReachedOnce}
use Rattle.receipt_log.specs.Logs.{seen_by}
use Rattle.wall_steal.specs.declared.cause.HaltCause.{HaltCause}
use Rattle.wall_steal.specs.declared.cause.HaltCause.TheVariants.{Wide, Limit, Memory}

module _ {T K L F W : Type 0} {B : numbers.Ghosts K} where
  -- the key is reached, and it or one of its walls is stuck by the fault; or the receipt has seen more reached keys than the limit, each once. That memory ran out is claimed of nothing
  abbrev pub IsCause : (Walls : List ℤ → ℕ → Type 0) (Leads : List ℤ → ℕ → List ℤ → L → Type 0) (Stuck : List ℤ → F → Type 0) (StuckAt : List ℤ → ℕ → F → Type 0) (root : List ℤ) (limit : ℕ) → HaltCause T K L F W B → Type 0
  IsCause Walls Leads Stuck StuckAt root limit (Wide key fault) = IsStuckWithin Walls Leads Stuck StuckAt root (B.numbers (arc_value key)) fault
  IsCause Walls Leads Stuck StuckAt root limit (Limit receipt) = (limit < length (seen_by receipt.value)) × AreReachedOnce Walls Leads root (seen_by receipt.value)
  IsCause Walls Leads Stuck StuckAt root limit Memory = ⊤

  -- a cause is true in one way
  pub cause_has_one_proof : (Walls : List ℤ → ℕ → Type 0) (Leads : List ℤ → ℕ → List ℤ → L → Type 0) (Stuck : List ℤ → F → Type 0) (StuckAt : List ℤ → ℕ → F → Type 0) (root : List ℤ) (limit : ℕ) (cause : HaltCause T K L F W B) → IsProp (IsCause Walls Leads Stuck StuckAt root limit cause)
  cause_has_one_proof Walls Leads Stuck StuckAt root limit (Wide key fault) = hlevel (∥∥₁_prop)
  cause_has_one_proof Walls Leads Stuck StuckAt root limit (Limit receipt) = hlevel (le_prop, ℕ_set)
  cause_has_one_proof Walls Leads Stuck StuckAt root limit Memory = Unit-prop
