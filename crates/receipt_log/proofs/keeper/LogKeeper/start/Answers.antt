use Rattle.receipt_log.proofs.Steps.{starts}
use Rattle.receipt_log.proofs.keeper.LogKeeper.start.Goals as goal

pub of_words-requires : goal.of_words-requires
of_words-requires g c = starts
