use Rattle.std.proofs.Common.{arith}
use Rattle.std.specs.Arc.{arc_value}
use Rattle.std.proofs.lemmas.Bool.{ltb-true, ltb-false}
use Rattle.class_shards.specs.Stored.{slots_of}
use Rattle.class_shards.proofs.Stored.{rows_length}
use Rattle.class_shards.proofs.shard.Shard.is_full.Goals as goal

pub returns-clause-full : goal.returns-clause-full
returns-clause-full g c = λ e.
    let s = c.args.self.now in
    let l = rows_length (λ a. g.T.Key.Numbers.numbers (arc_value a)) slots_of s.keys.items s.rows.items s.long in
    let ok = s.rows.ok.0 in
    let len = c.len.ensures in
    let few = s.few in
    let limit = s.limited.0 in
    let below = ltb-true s.limit c.len.result e in
    (omega arith, omega arith)

pub returns-clause-room : goal.returns-clause-room
returns-clause-room g c = λ e.
    let s = c.args.self.now in
    let l = rows_length (λ a. g.T.Key.Numbers.numbers (arc_value a)) slots_of s.keys.items s.rows.items s.long in
    let ok = s.rows.ok.0 in
    let len = c.len.ensures in
    let few = s.few in
    let limit = s.limited.0 in
    let above = ltb-false s.limit c.len.result e in
    (omega arith, omega arith)
