use Rattle.surface_text.proofs.CallerLemmas.{neither}
use Rattle.surface_text.proofs.laws.file_or_refusal.Goals as goal

pub returns : goal.returns
returns c bytes short no_file not_refused = neither bytes short no_file not_refused
