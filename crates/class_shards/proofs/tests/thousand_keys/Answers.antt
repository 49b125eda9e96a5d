use Rattle.std.proofs.Common.{◌*◌, ◌%◌, arith}
use Rattle.std.proofs.lemmas.Nat.{mod_below}
use Rattle.class_shards.proofs.Ringed.{ring_reached}
use Rattle.class_shards.proofs.tests.thousand_keys.Goals as goal

pub meet_at_last-met-requires-clause-reached : goal.meet_at_last-met-requires-clause-reached
meet_at_last-met-requires-clause-reached g c = ring_reached g.N.Naming.terrain g.N.Naming.root 16000 (16 * (377 * c.loop-i.i % 1000)) _ c.requires.names.0 c.requires.names.1 c.held-key.ensures (let m = mod_below (377 * c.loop-i.i) 1000 (omega arith) in omega arith)
