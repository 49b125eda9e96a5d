use Rattle.std.proofs.Common.{length}
use Rattle.path_walk.proofs.Walks.{end_reached}
use Rattle.path_walk.proofs.laws.ends_are_reached.Goals as goal

pub returns : goal.returns
returns c = λ d from end choices. end_reached d from choices (length choices) end
