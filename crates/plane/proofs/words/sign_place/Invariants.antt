use Rattle.std.proofs.Common.{ℕ, ◌<◌, slice_index}
use Rattle.plane.specs.Reading.{IsSign}
use Rattle.plane.proofs.words.sign_place.Given as goal

abbrev pub invariant-loop-i : goal.invariant-loop-i
invariant-loop-i l = (k : ℕ) → 0 < k → k < l.i → ¬ (IsSign (slice_index l.word k))
