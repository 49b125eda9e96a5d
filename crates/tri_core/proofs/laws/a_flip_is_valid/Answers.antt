use Rattle.tri_core.proofs.Flipped.{triangulation-flip}
use Rattle.tri_core.proofs.laws.a_flip_is_valid.Goals as goal

pub returns : goal.returns
returns c = λ d halves later h valid below convex flip. triangulation-flip d halves h later valid below convex flip
