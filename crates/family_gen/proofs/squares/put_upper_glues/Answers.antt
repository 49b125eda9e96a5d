use Rattle.family_gen.specs.Tiles.{tiling_of}
use Rattle.family_gen.proofs.MadeFiles.{upper_more}
use Rattle.family_gen.proofs.squares.put_upper_glues.Goals as goal

pub loop-i-preserved : goal.loop-i-preserved
loop-i-preserved c =
    upper_more (tiling_of c.args.tiles) c.args.glues.now.items c.loop-i.glues.items c.push.new.self.items c.loop-i.i c.up.result c.loop-i.invariant c.up.ensures c.in_ok-push.ensures.items
