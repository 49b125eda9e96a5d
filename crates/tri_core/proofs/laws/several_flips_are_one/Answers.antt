use Rattle.tri_core.proofs.SeveralFlips.{flipped_once}
use Rattle.tri_core.proofs.laws.several_flips_are_one.Goals as goal

pub returns : goal.returns
returns c = λ d halves one two set valid spread a b. flipped_once d halves valid set spread one two a b
