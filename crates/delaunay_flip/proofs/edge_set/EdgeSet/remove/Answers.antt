use Rattle.std.proofs.Common.{arith}
use Rattle.delaunay_flip.proofs.Sets.{removed, removed_other}
use Rattle.delaunay_flip.proofs.edge_set.EdgeSet.remove.Goals as goal

pub returns-clause-this : goal.returns-clause-this
returns-clause-this c = removed c.args.self.now.words c.args.h (omega arith)

pub returns-clause-others : goal.returns-clause-others
returns-clause-others c = removed_other c.args.self.now.words c.args.h (omega arith)
