use Rattle.cone_points.specs.Walks.{IsRound}
use Rattle.cone_points.proofs.walks.all_turns.Given as goal

abbrev pub invariant-loop-h : goal.invariant-loop-h
invariant-loop-h l = IsRound l.tri.field l.tri.halves l.uppers l.h l.marks.items l.turns.items
