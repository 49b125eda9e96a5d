use Rattle.canon_code.proofs.Codes.{symmetries}
use Rattle.canon_code.proofs.laws.starts_are_symmetries.Goals as goal

pub returns : goal.returns
returns c = λ d halves code first n m field valid start some. symmetries d field halves code first n m valid start some
