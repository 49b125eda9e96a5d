use Rattle.quad_field.proofs.Conjugates.{has_whole}
use Rattle.quad_field.proofs.laws.whole_multiple.Goals as goal

pub returns : goal.returns
returns c = has_whole
