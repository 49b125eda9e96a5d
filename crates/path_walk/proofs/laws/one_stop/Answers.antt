use Rattle.path_walk.proofs.Walks.{one_stop, wall_or_wide}
use Rattle.path_walk.proofs.laws.one_stop.Goals as goal

pub returns-clause-place : goal.returns-clause-place
returns-clause-place c = λ d from choices place other field valid. one_stop d field from valid choices place other

pub returns-clause-cause : goal.returns-clause-cause
returns-clause-cause c = λ d from choices place field valid. wall_or_wide d field from valid choices place
