use Rattle.surface_text.proofs.CallerLemmas.{one_file}
use Rattle.surface_text.proofs.laws.one_file.Goals as goal

pub returns : goal.returns
returns c x y same = one_file x y same
