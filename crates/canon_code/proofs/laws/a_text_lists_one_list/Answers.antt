use Rattle.canon_code.proofs.TextReadings.{text_injective}
use Rattle.canon_code.proofs.laws.a_text_lists_one_list.Goals as goal

pub returns : goal.returns
returns c = text_injective
