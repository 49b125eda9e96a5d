use Rattle.family_gen.proofs.MadeFiles.{squares_more}
use Rattle.family_gen.proofs.squares.unit_squares.Goals as goal

pub loop-i-preserved : goal.loop-i-preserved
loop-i-preserved c =
    squares_more c.loop-i.polygons.items c.push.new.self.items c.loop-i._i _ c.loop-i.invariant c.in_ok-polygon.ensures c.in_ok-push.ensures.items
