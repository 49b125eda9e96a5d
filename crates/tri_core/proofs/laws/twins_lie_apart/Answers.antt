use Rattle.tri_core.proofs.Triangles.{half_apart}
use Rattle.tri_core.proofs.laws.twins_lie_apart.Goals as goal

pub returns : goal.returns
returns c = λ d halves h valid below. half_apart d halves h valid below
