use Rattle.std.proofs.Common.{arith}
use Rattle.std.specs.Arc.{arc_value}
use Rattle.class_shards.specs.Stored.{slots_of}
use Rattle.class_shards.proofs.Stored.{rows_length}
use Rattle.class_shards.proofs.shard.Shard.size.Goals as goal

pub returns : goal.returns
returns g c =
    let s = c.args.self.now in
    let l = rows_length (λ a. g.T.Key.Numbers.numbers (arc_value a)) slots_of s.keys.items s.rows.items s.long in
    let ok = s.rows.ok.0 in
    let len = c.len.ensures in
    omega arith
