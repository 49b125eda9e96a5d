use Rattle.canon_code.proofs.Codes.{canonical_code}
use Rattle.canon_code.proofs.laws.canonical_keeps_the_code.Goals as goal

pub returns : goal.returns
returns c = λ d halves code field valid own. canonical_code d field halves code valid own
