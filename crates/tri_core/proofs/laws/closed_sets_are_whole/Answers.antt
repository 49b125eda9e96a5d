use Rattle.tri_core.proofs.Connected.{joined_from}
use Rattle.tri_core.proofs.laws.closed_sets_are_whole.Goals as goal

pub returns : goal.returns
returns c = λ d halves set valid closed. joined_from d halves valid set closed
