use Rattle.std.proofs.Common.{◌∙◌}
use Rattle.family_gen.proofs.MadeFiles.{four_sides}
use Rattle.family_gen.proofs.squares.square.Goals as goal

pub returns : goal.returns
returns c = c.in_ok-sides.ensures.items ∙ four_sides _ _ _ _ c.whole.ensures c.whole-2.ensures c.whole-3.ensures c.whole-4.ensures
