use Rattle.cone_points.proofs.Directed.{turns_by}
use Rattle.cone_points.proofs.laws.every_direction.Goals as goal

pub returns : goal.returns
returns c d halves field valid v inside w some n = turns_by d halves field valid v inside w some n
