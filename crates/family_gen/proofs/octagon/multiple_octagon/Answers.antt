use Rattle.std.proofs.Common.{◌∙◌}
use Rattle.family_gen.proofs.MadeFiles.{eight_sides}
use Rattle.family_gen.proofs.octagon.multiple_octagon.Goals as goal

pub returns : goal.returns
returns c =
    c.in_ok-sides.ensures.items
    ∙ eight_sides c.args.m _ _ _ _ _ c.none-zero.ensures c.long-right.ensures c.less_long-left.ensures c.slope-rise.ensures c.less_slope-fall.ensures
