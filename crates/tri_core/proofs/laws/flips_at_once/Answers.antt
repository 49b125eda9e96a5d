use Rattle.std.proofs.Common.{length, arith}
use Rattle.tri_core.proofs.Folds.{all_first}
use Rattle.tri_core.proofs.laws.flips_at_once.Goals as goal

pub returns : goal.returns
returns c = λ d halves later edges valid inside fresh spread after. all_first d halves valid edges inside fresh spread (length edges) later (omega arith) after
