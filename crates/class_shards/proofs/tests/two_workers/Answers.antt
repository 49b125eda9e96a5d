use Rattle.std.proofs.Common.{arith}
use Rattle.class_shards.proofs.Ringed.{ring_reached}
use Rattle.class_shards.proofs.tests.two_workers.Goals as goal

pub meet-requires-clause-reached : goal.meet-requires-clause-reached
meet-requires-clause-reached g c κs within = ring_reached g.N.Naming.terrain g.N.Naming.root 100 0 _ c.requires.names.0 c.requires.names.1 c.in_ok-root.ensures.ok (omega arith)
