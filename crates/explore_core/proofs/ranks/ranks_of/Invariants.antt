use Rattle.std.proofs.Common.{◌≡◌, ◌<◌, ℕ, length, vec_len}
use Rattle.terrain.specs.Places.{IsAt}
use Rattle.explore_core.proofs.ranks.ranks_of.Given as goal

abbrev pub invariant-loop-rank : goal.invariant-loop-rank
invariant-loop-rank l = record {
  len : vec_len l.ranks ≡ length l.places;
  each : (i a : ℕ) → i < l.rank → IsAt l.places i a → IsAt l.ranks.items a i;
}
