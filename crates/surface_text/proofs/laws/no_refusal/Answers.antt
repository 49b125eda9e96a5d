use Rattle.surface_text.proofs.CallerLemmas.{not_both}
use Rattle.surface_text.proofs.laws.no_refusal.Goals as goal

pub returns : goal.returns
returns c bytes file cause line is refused = not_both bytes file cause line is refused
