use Rattle.std.proofs.Common.{ℕ, List, ◌≤◌}
use Rattle.tri_core.specs.declared.half.Half.{Half}
use Rattle.canon_code.specs.Orbits.{HaveSameSerials, KeepSerials}
use Rattle.canon_code.proofs.orbits.first_of.Given as goal

abbrev pub invariant-loop-first : goal.invariant-loop-first
invariant-loop-first l = (l.first ≤ l.h) × ((d : ℕ) (halves : List Half) → KeepSerials d halves l.links → HaveSameSerials d halves l.h l.first)

abbrev pub decreases-loop-first : goal.decreases-loop-first
decreases-loop-first l = l.first
