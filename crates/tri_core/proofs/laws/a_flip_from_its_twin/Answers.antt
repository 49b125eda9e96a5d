use Rattle.tri_core.proofs.Leaves.{flip_from_twin}
use Rattle.tri_core.proofs.laws.a_flip_from_its_twin.Goals as goal

pub returns : goal.returns
returns c = λ d halves later h valid below flip. flip_from_twin d halves valid h below later flip
