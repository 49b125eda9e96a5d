use Rattle.std.proofs.Common.{sym, ap}
use Rattle.std.proofs.lemmas.List.{get_or-map}
use Rattle.parabola_region.specs.WallLists.{PlainWall, plain_wall, no_wall}
use Rattle.parabola_region.proofs.corner_list.wall_form.Goals as goal

pub returns : goal.returns
returns c = sym (ap (λ (p : PlainWall). p.0) (get_or-map plain_wall c.args.walls.now c.args.i c.index-walls-i.result no_wall c.requires))
