use Rattle.std.proofs.Common.{arith}
use Rattle.delaunay_flip.proofs.Sets.{least_held}
use Rattle.delaunay_flip.proofs.edge_set.EdgeSet.least.Goals as goal

pub returns-then-word-ne0 : goal.returns-then-word-ne0
returns-then-word-ne0 c = least_held c.args.self.now.words c.loop-i.i c.if-word-ne0.true (omega arith) c.loop-i.invariant
