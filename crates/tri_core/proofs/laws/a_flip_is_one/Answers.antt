use Rattle.tri_core.proofs.Unique.{one_flip}
use Rattle.tri_core.proofs.laws.a_flip_is_one.Goals as goal

pub returns : goal.returns
returns c = λ d halves one two h valid below a b. one_flip d halves h valid below one two a b
