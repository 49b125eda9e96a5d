use Rattle.std.proofs.Common.{length}
use Rattle.path_walk.proofs.Walks.{stands_once}
use Rattle.path_walk.proofs.laws.one_end.Goals as goal

pub returns : goal.returns
returns c = λ d from one other choices field valid. stands_once d field from valid choices (length choices) one other
