use Rattle.canon_code.proofs.Serials.{serial_once}
use Rattle.canon_code.proofs.Codes.{code_once}
use Rattle.canon_code.proofs.laws.only_one.Goals as goal

pub returns-clause-serial : goal.returns-clause-serial
returns-clause-serial c = λ d halves h one other field valid below a b. serial_once d field halves h one other valid below a b

pub returns-clause-code : goal.returns-clause-code
returns-clause-code c = code_once
