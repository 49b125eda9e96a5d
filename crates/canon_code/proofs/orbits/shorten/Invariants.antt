use Rattle.std.proofs.Common.{ℕ, List, length, ◌≡◌}
use Rattle.tri_core.specs.declared.half.Half.{Half}
use Rattle.canon_code.specs.Orbits.{LeadBack, KeepSerials}
use Rattle.canon_code.proofs.orbits.shorten.Given as goal

abbrev pub invariant-loop-k : goal.invariant-loop-k
invariant-loop-k l =
    (length l.links ≡ length l.fn.links) × LeadBack l.links × ((d : ℕ) (halves : List Half) → KeepSerials d halves l.fn.links → KeepSerials d halves l.links)
