use Rattle.surface_text.proofs.CallerLemmas.{one_refusal}
use Rattle.surface_text.proofs.laws.one_refusal.Goals as goal

pub returns : goal.returns
returns c bytes cause other line place one two = one_refusal bytes cause other line place one two
