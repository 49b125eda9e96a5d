use Rattle.std.proofs.Common.{arith}
use Rattle.std.specs.Arc.{arc_value}
use Rattle.walls_out.specs.Seats.{view_of}
use Rattle.class_shards.specs.Keepers.{keeper_number}
use Rattle.class_shards.specs.Stored.{slots_of}
use Rattle.class_shards.specs.Views.{rows_of}
use Rattle.class_shards.proofs.NewKey.{all_filled}
use Rattle.class_shards.proofs.Stored.{rows_length}
use Rattle.class_shards.proofs.shard.Shard.finish.Goals as goal

pub returns-clause-filled : goal.returns-clause-filled
returns-clause-filled g c = let s = c.args.self in all_filled (keeper_number s.keeper) (view_of s.keeper) (rows_of s) s.keeps s.made s.agree c.certify.ensures.done.1

pub returns-clause-few : goal.returns-clause-few
returns-clause-few g c =
    let s = c.args.self in
    let l = rows_length (λ a. g.T.Key.Numbers.numbers (arc_value a)) slots_of s.keys.items s.rows.items s.long in
    let few = s.few in
    let limit = s.limited.0 in
    let len = s.rows.ok.0 in
    omega arith
