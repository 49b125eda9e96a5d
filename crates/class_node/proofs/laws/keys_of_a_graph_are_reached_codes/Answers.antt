use Rattle.class_node.proofs.ReachedCodes.{keys_are_codes}
use Rattle.class_node.proofs.laws.keys_of_a_graph_are_reached_codes.Goals as goal

pub returns : goal.returns
returns c = λ t root base keys rows place is graph k. keys_are_codes t root keys rows place graph base is k
