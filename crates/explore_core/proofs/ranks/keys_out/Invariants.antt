use Rattle.std.proofs.Common.{◌≡◌, map}
use Rattle.explore_core.proofs.ranks.keys_out.Given as goal

abbrev pub invariant-loop-record : goal.invariant-loop-record
invariant-loop-record g l = l.keys.items ≡ map (λ r. r.key) l.yielded
