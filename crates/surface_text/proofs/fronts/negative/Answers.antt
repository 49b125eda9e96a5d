use Rattle.surface_text.proofs.Numbers.{negative_large}
use Rattle.surface_text.proofs.fronts.negative.Goals as goal

pub returns-in-Large : goal.returns-in-Large
returns-in-Large c = negative_large _ c.in-Large.ensures
