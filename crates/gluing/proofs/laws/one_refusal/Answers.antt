use Rattle.gluing.proofs.CallerLemmas.{one_refusal}
use Rattle.gluing.proofs.laws.one_refusal.Goals as goal

pub returns : goal.returns
returns c file cause other line place one two = one_refusal file cause other line place one two
