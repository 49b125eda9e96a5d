use Rattle.delaunay_flip.proofs.Twins.{named_first, named_second}
use Rattle.delaunay_flip.proofs.edge_values.names.Goals as goal

pub returns-then-h-twin : goal.returns-then-h-twin
returns-then-h-twin c = named_first c.args.tri.now.field c.args.tri.now.halves c.requires.valid c.args.h c.requires.half c.half.result.now c.half.ensures c.if-h-twin.true

pub returns-else-h-twin : goal.returns-else-h-twin
returns-else-h-twin c = named_second c.args.tri.now.field c.args.tri.now.halves c.requires.valid c.args.h c.requires.half c.half.result.now c.half.ensures c.if-h-twin.false
