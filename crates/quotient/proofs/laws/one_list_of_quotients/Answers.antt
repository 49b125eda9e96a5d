use Rattle.quotient.proofs.OneList.{same_quotients}
use Rattle.quotient.proofs.laws.one_list_of_quotients.Goals as goal

pub returns : goal.returns
returns c = λ d tree rows turns one other field matrices links turns_some own its. same_quotients d field tree rows turns matrices links turns_some one other own its
