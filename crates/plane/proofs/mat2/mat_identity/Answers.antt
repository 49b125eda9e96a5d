use Rattle.std.proofs.Common.{refl}
use Rattle.plane.proofs.LowestTerms.{identity_lowest}
use Rattle.plane.proofs.mat2.mat_identity.Goals as goal

pub invariant_of-result : goal.invariant_of-result
invariant_of-result c = (refl, refl, identity_lowest)
