use Rattle.std.proofs.Common.{ℕ, ◌*◌, ◌<◌, ◌≤◌, ◌-◌, ◌^◌}
use Prim.Native.Nat.{◌∣◌}
use Rattle.quad_field.proofs.radicand.is_square_free.Given as goal

abbrev pub invariant-loop-k : goal.invariant-loop-k
invariant-loop-k l = (2 ≤ l.k) × (l.k ≤ 2 ^ 6) × ((j : ℕ) → 2 ≤ j → j < l.k → ¬ ((j * j) ∣ l.d))

abbrev pub decreases-loop-k : goal.decreases-loop-k
decreases-loop-k l = 2 ^ 7 - l.k
