use Rattle.std.proofs.Common.{◌≡◌, ◌*◌, length}
use Rattle.canon_code.specs.Distinct.{ArePairs}
use Rattle.canon_code.proofs.whole.pairs_of.Given as goal

abbrev pub invariant-loop-i : goal.invariant-loop-i
invariant-loop-i l = (length l.list.items ≡ 2 * l.i) × ArePairs l.f l.tri.halves l.start l.firsts l.list.items
