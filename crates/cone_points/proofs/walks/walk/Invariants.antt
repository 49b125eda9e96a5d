use Rattle.cone_points.proofs.Walking.{IsWalk, unmarked}
use Rattle.cone_points.proofs.walks.walk.Given as goal

abbrev pub invariant-loop-marks : goal.invariant-loop-marks
invariant-loop-marks l = IsWalk l.tri.halves l.uppers l.h l.fn.marks l.marks l.place l.rises

abbrev pub decreases-loop-marks : goal.decreases-loop-marks
decreases-loop-marks l = unmarked l.marks
