use Rattle.quotient.proofs.OneTree.{same_tree}
use Rattle.quotient.proofs.laws.one_tree.Goals as goal

pub returns : goal.returns
returns c = λ d rows root first one other some links own its. same_tree d rows root first some links one other own its
