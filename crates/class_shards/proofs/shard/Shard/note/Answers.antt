use Rattle.std.proofs.Common.{length, ap, arith}
use Rattle.std.specs.Arc.{arc_value}
use Rattle.std.proofs.lemmas.List.{length-map}
use Rattle.explore_core.specs.Books.{Row}
use Rattle.class_shards.specs.Stored.{slots_of}
use Rattle.class_shards.specs.Views.{rows_of}
use Rattle.class_shards.proofs.Stored.{rows_length}
use Rattle.class_shards.proofs.shard.Shard.note.Goals as goal

pub note-requires : goal.note-requires
note-requires g c =
    let s = c.args.self.now in
    let list = ap length s.list in
    let keys = length-map (rows_of s) (λ (r : Row _). r.key) in
    let long = rows_length (λ a. g.T.Key.Numbers.numbers (arc_value a)) slots_of s.keys.items s.rows.items s.long in
    let len = s.rows.ok.0 in
    let place = c.requires in
    omega arith
