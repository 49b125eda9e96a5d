use Rattle.std.proofs.Common.{◌∙◌, sym}
use Rattle.canon_code.proofs.KeptVectors.{equal_from}
use Rattle.canon_code.proofs.distinct.equal.Goals as goal

pub returns : goal.returns
returns c = λ own. equal_from c.args.u.now c.args.v.now (sym c.eq.ensures ∙ own)
