use Rattle.gluing.specs.Tables.{rows_of}
use Rattle.gluing.proofs.Neighbours.{neighbours_there}
use Rattle.gluing.proofs.Rooms.{length-rows}
use Rattle.gluing.proofs.joined.first_apart.Goals as goal

pub first_apart-requires-clause-graph : goal.first_apart-requires-clause-graph
first_apart-requires-clause-graph c = neighbours_there (rows_of c.args.twins.now) _ (length-rows c.args.twins.now) c.requires.full c.requires.twins
