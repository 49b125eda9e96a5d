use Rattle.canon_code.proofs.Codes.{same_code}
use Rattle.canon_code.proofs.laws.one_class.Goals as goal

pub returns : goal.returns
returns c = λ d from to code other field valid valid' a b. same_code d field from to code other valid valid' a b
