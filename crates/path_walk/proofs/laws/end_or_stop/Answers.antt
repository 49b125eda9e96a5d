use Rattle.path_walk.proofs.Walks.{no_end_without_wall, no_end_wide}
use Rattle.path_walk.proofs.laws.end_or_stop.Goals as goal

pub returns-clause-wall : goal.returns-clause-wall
returns-clause-wall c = λ d from end choices place field valid ends none. no_end_without_wall d field from valid choices place end none ends

pub returns-clause-fits : goal.returns-clause-fits
returns-clause-fits c = λ d from end choices place field valid ends wide. no_end_wide d field from valid choices place end wide ends
