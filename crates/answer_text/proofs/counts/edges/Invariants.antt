use Rattle.std.proofs.Common.{◌≡◌, ◌≤◌, take, length, nat_lt}
use Rattle.std.specs.Prelude.{count_by}
use Rattle.std.specs.List.{range_with_len}
use Rattle.tri_core.specs.HalfEdges.{twin_at}
use Rattle.answer_text.proofs.counts.edges.Given as goal

-- the edges among the half-edges so far
abbrev pub invariant-loop-h : goal.invariant-loop-h
invariant-loop-h l =
    (l.edges ≡ count_by (λ h. nat_lt h (twin_at l.tri.halves h)) (take l.h (range_with_len 0 (length l.tri.halves)))) × (l.edges ≤ l.h)
