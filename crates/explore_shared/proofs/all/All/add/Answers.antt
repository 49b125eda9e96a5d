use Rattle.std.proofs.Common.{◌+◌, ◌<◌, length, map, vec_len, arith}
use Rattle.std.specs.Arc.{arc_value}
use Rattle.std.specs.declared.sync.Arc.{Arc}
use Rattle.std.specs.declared.alloc.Global.{Global}
use Rattle.std.proofs.lemmas.List.{length-map}
use Rattle.receipt_log.specs.Logs.{list_of}
use Rattle.class_shards.specs.Stored.{rows_in, slots_of}
use Rattle.explore_shared.specs.Records.{rows_of, row_in}
use Rattle.explore_shared.proofs.Stored.{rows_long}
use Rattle.explore_shared.proofs.ShardMore.{more_reached}
use Rattle.explore_shared.proofs.all.All.add.Goals as goal

pub returns-then-len-limit-clause-limit : goal.returns-then-len-limit-clause-limit
returns-then-len-limit-clause-limit g c e =
    let numbers = g.T.Key.Numbers.numbers in
    let self = c.args.self.now in
    let rest = c.args.rest in
    let rows = rows_of numbers self.records.items in
    let new = rows_in numbers rest.keys.items rest.rows.items in
    let many : c.args.limit < length rows + length new = (let a = length-map self.records.items (row_in numbers) in let b = rows_long (λ (k : Arc _ Global). numbers (arc_value k)) slots_of rest.keys.items rest.rows.items rest.long in let v = self.records.ok.0 in let u = rest.keys.ok.0 in omega arith) in
    more_reached (g.T.Terrain.has_walls g.N.Naming.terrain) (g.T.Terrain.leads g.N.Naming.terrain) g.T.Terrain.shard g.N.Naming.root (vec_len self.logs) c.args.limit rows new (map list_of self.logs.items) self.starts.items c.requires.gathered c.requires.shard many
