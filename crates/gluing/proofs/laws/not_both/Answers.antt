use Rattle.gluing.proofs.CallerLemmas.{not_both}
use Rattle.gluing.proofs.laws.not_both.Goals as goal

pub returns : goal.returns
returns c file cause line valid refused = not_both file cause line valid refused
