use Rattle.canon_code.proofs.KeptVectors.{same_from}
use Rattle.canon_code.proofs.distinct.same_vector.Goals as goal

pub returns : goal.returns
returns c = λ own. same_from c.args.tri.now.halves c.args.h c.args.g c.half.result.now c.half-2.result.now c.half.ensures c.half-2.ensures (c.equal.ensures own)
