use Rattle.std.proofs.Common.{◌≡◌}
use Rattle.path_walk.specs.Walks.{StandsAfter}
use Rattle.path_walk.proofs.steps.walk.Given as goal

-- the walk stands where its first choices lead
abbrev pub invariant-loop-place : goal.invariant-loop-place
invariant-loop-place l = (l.at.field ≡ l.fn.tri.field) × StandsAfter l.fn.tri.field l.fn.tri.halves l.fn.choices l.place l.at.halves
