use Rattle.std.proofs.Common.{◌<◌, length, refl, subst, arith, rules}
use Rattle.std.proofs.lemmas.Option.{get_or_from_slice_get, slice_get_read}
use Rattle.terrain.proofs.CallerLemmas.{at_within}
use Rattle.wall_steal.specs.Cells.{cell_of}
use mathlib.Core.List.{[]}
use mir.Syntax.{named}
use denote.Param.{param}
use denote.Struct.Field.{u32-field}
use Rattle.std.proofs.alloc.Global.TheSendSync as heap
use Rattle.std.specs.contracts.alloc.Global as Global
use Rattle.class_shards.specs.contracts.shards.Shards as Shards
use Rattle.walls_out.specs.contracts.count.Count as Count
use Rattle.wall_steal.specs.contracts.halt.Halt as Halt
use denote.Exit.{yes}
use denote.Param.Send.{arg_send, param_send, sendable}
use Rattle.walls_out.proofs.count.Count.TheSendSync as count
use Rattle.wall_steal.proofs.CallerLemmas.{halt_sync}
use Rattle.explore_shared.proofs.Crossed.{worker_send, shards_sync, lending_sync}
use Rattle.explore_shared.specs.Workers.{EndsWell}
use Rattle.explore_shared.proofs.Ends.{ok_by_two}
use Rattle.explore_shared.proofs.run.run_all.Goals as goal

pub map_vec-requires-send-J : goal.map_vec-requires-send-J
map_vec-requires-send-J g c κs within = param_send 1 _ (arg_send _ yes _ (worker_send (param 1 g.row.T) (param 2 g.row.N) (param 4 g.row.T-Key) (param 5 g.row.T-Link) (param 6 g.row.T-Fault) (param 7 g.row.T-Walls) g.T.Terrain g.T.Numbers g.T.Key.Numbers g.N.Naming c.type_bounds.send-N c.type_bounds.send-T-Key c.type_bounds.sync-T-Key c.type_bounds.send-T-Fault))

pub map_vec-requires-sync-F : goal.map_vec-requires-sync-F
map_vec-requires-sync-F g c κs within =
    let y = lending_sync [] (named 0) _ [] _ _ _ _ _ [] (param 0 g.row.R) Global.the_row (Shards.the_row (param 1 g.row.T) (param 2 g.row.N) (param 4 g.row.T-Key) (param 5 g.row.T-Link) (param 6 g.row.T-Fault) (param 7 g.row.T-Walls) g.T.Terrain g.T.Numbers g.T.Key.Numbers g.N.Naming) Count.the_row (param 1 g.row.T) (param 3 g.row.G) (Halt.the_row (param 1 g.row.T) (param 2 g.row.N) (param 4 g.row.T-Key) (param 5 g.row.T-Link) (param 6 g.row.T-Fault) (param 7 g.row.T-Walls) g.T.Terrain g.T.Numbers g.T.Key.Numbers g.N.Naming) u32-field.row
    c.type_bounds.sync-R
    heap.the_sync
    (shards_sync (param 1 g.row.T) (param 2 g.row.N) (param 4 g.row.T-Key) (param 5 g.row.T-Link) (param 6 g.row.T-Fault) (param 7 g.row.T-Walls) g.T.Terrain g.T.Numbers g.T.Key.Numbers g.N.Naming c.type_bounds.send-T-Key c.type_bounds.sync-T-Key c.type_bounds.send-T-Link)
    count.the_sync
    c.type_bounds.sync-T
    c.type_bounds.sync-G
    (halt_sync (param 1 g.row.T) (param 2 g.row.N) (param 4 g.row.T-Key) (param 5 g.row.T-Link) (param 6 g.row.T-Fault) (param 7 g.row.T-Walls) g.T.Terrain g.T.Numbers g.T.Key.Numbers g.N.Naming c.type_bounds.send-N c.type_bounds.sync-N c.type_bounds.send-T-Key c.type_bounds.sync-T-Key c.type_bounds.send-T-Fault c.type_bounds.sync-T-Fault)
    (search sendable) in
    record { shared = y.shared }

pub map_vec-requires-after_bounds : goal.map_vec-requires-after_bounds
map_vec-requires-after_bounds g c κs within i x less is = ((c.requires.terrain, c.requires.count, c.requires.ready i x (slice_get_read c.args.workers.items (length c.args.workers.items) i x refl less is), c.requires.limit), search rules depth 24)

pub returns-clause-each : goal.returns-clause-each
returns-clause-each g c = ok_by_two _ _ _ c.map_vec.result c.map_vec.ensures.len c.map_vec.ensures.each (λ v len gives i e at.
    let h : i < length c.args.workers.items = (let w = at_within v.items i e at in let l = len in let k = v.ok.0 in let m = c.args.workers.ok.0 in omega arith) in
    subst (λ y. EndsWell g.N.Naming.count (cell_of c.args.halt.now) y) (get_or_from_slice_get v.items i e e at) (gives i e h).1.call.met)
