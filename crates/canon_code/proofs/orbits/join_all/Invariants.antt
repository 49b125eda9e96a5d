use Rattle.std.proofs.Common.{ℕ, List, length, ◌≡◌}
use Rattle.tri_core.specs.declared.half.Half.{Half}
use Rattle.canon_code.specs.Orbits.{AreAlike, LeadBack, KeepSerials}
use Rattle.canon_code.proofs.orbits.join_all.Given as goal

abbrev pub invariant-loop-k : goal.invariant-loop-k
invariant-loop-k l =
    (length l.links ≡ length l.fn.links) × LeadBack l.links
    × ((d : ℕ) (halves : List Half) → AreAlike d halves l.from l.to → KeepSerials d halves l.fn.links → KeepSerials d halves l.links)
