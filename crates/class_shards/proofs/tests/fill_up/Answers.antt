use Rattle.std.proofs.Common.{◌*◌, ◌+◌, arith}
use Rattle.class_shards.proofs.Ringed.{ring_reached}
use Rattle.class_shards.proofs.tests.fill_up.Goals as goal

pub meet_at_last-met-requires-clause-reached : goal.meet_at_last-met-requires-clause-reached
meet_at_last-met-requires-clause-reached g c = ring_reached g.N.Naming.terrain g.N.Naming.root 100 (16 * c.loop-i.i) _ c.requires.names.0 c.requires.names.1 c.held-key.ensures (let few = c.requires.few in omega arith)

pub meet-requires-clause-reached : goal.meet-requires-clause-reached
meet-requires-clause-reached g c κs within = ring_reached g.N.Naming.terrain g.N.Naming.root 100 (16 * (c.args.limit + 1)) _ c.requires.names.0 c.requires.names.1 c.held-other.ensures (let few = c.requires.few in omega arith)

pub meet_at_last-known-requires-clause-reached : goal.meet_at_last-known-requires-clause-reached
meet_at_last-known-requires-clause-reached g c = ring_reached g.N.Naming.terrain g.N.Naming.root 100 0 _ c.requires.names.0 c.requires.names.1 c.held-root.ensures (omega arith)
