use Rattle.plane.proofs.LowestTerms.{one_value}
use Rattle.plane.proofs.laws.equal_matrices_have_equal_fields.Goals as goal

pub returns : goal.returns
returns c = one_value
