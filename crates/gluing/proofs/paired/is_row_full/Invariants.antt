use Rattle.std.proofs.Common.{◌≡◌, ℕ, ◌<◌, get_or, None}
use Rattle.gluing.proofs.paired.is_row_full.Given as goal

abbrev pub invariant-loop-e : goal.invariant-loop-e
invariant-loop-e l = (k : ℕ) → k < l.e → ¬ (get_or l.row k None ≡ None)
