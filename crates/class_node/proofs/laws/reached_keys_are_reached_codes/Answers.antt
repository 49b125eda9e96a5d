use Rattle.class_node.proofs.ReachedCodes.{sound, complete}
use Rattle.class_node.proofs.laws.reached_keys_are_reached_codes.Goals as goal

pub returns-clause-sound : goal.returns-clause-sound
returns-clause-sound c = λ t root base k is reached. sound t root base k is reached

pub returns-clause-complete : goal.returns-clause-complete
returns-clause-complete c = λ t root base k is all known. complete t root base is all k known
