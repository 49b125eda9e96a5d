use Rattle.std.proofs.Common.{◌≡◌, ◌<◌, ◌≤◌, ℕ, Some, Option, vec_len}
use Rattle.terrain.specs.Places.{IsAt}
use Rattle.explore_core.specs.declared.record.Filled.{Filled}
use Rattle.explore_core.specs.Ranks.{ranked}
use Rattle.explore_core.proofs.ranks.leads_of.Given as goal

abbrev pub invariant-loop-wall : goal.invariant-loop-wall
invariant-loop-wall g l = record {
  len : vec_len l.slots ≡ vec_len l.fn.slots;
  out : vec_len l.leads ≡ l.wall;
  kept : (w : ℕ) (o : Option (Filled _ _)) → l.wall ≤ w → IsAt l.fn.slots.items w o → IsAt l.slots.items w o;
  each : (w : ℕ) (x : Filled _ _) → w < l.wall → IsAt l.fn.slots.items w (Some x) → IsAt l.leads.items w (ranked l.ranks x);
}
