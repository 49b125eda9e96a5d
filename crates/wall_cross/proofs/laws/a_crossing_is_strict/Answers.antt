use Rattle.wall_cross.proofs.Behind.{crossing_valid, strict_behind}
use Rattle.wall_cross.proofs.laws.a_crossing_is_strict.Goals as goal

pub returns-clause-valid : goal.returns-clause-valid
returns-clause-valid c = λ d halves later form edges field valid wall flips. crossing_valid d field halves valid form edges wall later flips

pub returns-clause-strict : goal.returns-clause-strict
returns-clause-strict c = λ d halves later form edges field valid wall flips. strict_behind d field halves valid form edges wall later flips
