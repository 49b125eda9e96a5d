use Rattle.canon_code.specs.Canonical.{canonical}
use Rattle.class_node.specs.Once.{class_valid}
use Rattle.class_node.proofs.Equivariance.{one_to_one}
use Rattle.class_node.proofs.laws.walls_are_those_of_the_class.Goals as goal

pub returns : goal.returns
returns c = λ d code a p to forth back walls others own are valid image list.
    one_to_one d a p (canonical d code) to forth back walls others own.0 (class_valid d code own) valid image are list
