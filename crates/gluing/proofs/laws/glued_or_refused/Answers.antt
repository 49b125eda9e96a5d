use Rattle.gluing.proofs.CallerLemmas.{glued_or_refused}
use Rattle.gluing.proofs.laws.glued_or_refused.Goals as goal

pub returns : goal.returns
returns c file limits = glued_or_refused file limits
