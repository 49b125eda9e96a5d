use Rattle.std.proofs.Common.{◌≡◌, ◌++◌, take, length}
use Rattle.std.specs.List.{flat_map, range_with_len}
use Rattle.tri_core.specs.HalfEdges.{half_at}
use Rattle.answer_text.specs.BaseTexts.{half_text}
use Rattle.answer_text.proofs.half_edges.put_halves.Given as goal

-- the half-edges so far
abbrev pub invariant-loop-h : goal.invariant-loop-h
invariant-loop-h l =
    l.out.items ≡ l.initial.out.items ++ flat_map (λ h. half_text h (half_at l.tri.halves h)) (take l.h (range_with_len 0 (length l.tri.halves)))
