use Rattle.canon_code.proofs.ScaleExists.{some_serial}
use Rattle.canon_code.proofs.CodeExists.{some_code}
use Rattle.canon_code.proofs.laws.there_is_one.Goals as goal

pub returns-clause-serial : goal.returns-clause-serial
returns-clause-serial c = λ d halves h field valid below. some_serial d field halves h valid below

pub returns-clause-code : goal.returns-clause-code
returns-clause-code c = λ d halves field valid. some_code d field halves valid
