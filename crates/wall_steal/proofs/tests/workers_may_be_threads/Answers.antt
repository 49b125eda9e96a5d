use denote.Exit.{yes}
use denote.Param.Send.{arg_send, arg_sync, param_send, param_sync, sendable}
use denote.Struct.Field.{u32-field}
use Rattle.std.specs.contracts.marker.Brand as Brand
use Rattle.terrain.specs.contracts.ring.Ring as Ring
use Rattle.terrain.specs.contracts.ring.Stuck as Stuck
use Rattle.terrain.specs.contracts.ring.TwoWalls as TwoWalls
use Rattle.terrain.specs.contracts.ring.RingTerrain.TheImpl as terrain
use Rattle.terrain.specs.contracts.ring.RingNumbers.TheImpl as ring
use Rattle.terrain.specs.contracts.numbers.U32Numbers.TheImpl as key
use Rattle.class_shards.specs.contracts.naming.BrandNaming.TheImpl as naming
use Rattle.wall_steal.proofs.CallerLemmas.{hands_send, halt_sync}
use Rattle.wall_steal.proofs.tests.workers_may_be_threads.Goals as goal

pub may_move-requires-send-A : goal.may_move-requires-send-A
may_move-requires-send-A c κs = param_send 0 _ (arg_send _ yes _ (hands_send Ring.the_row Brand.the_row u32-field.row u32-field.row Stuck.the_row TwoWalls.the_row terrain.ghosts ring.ghosts key.ghosts naming.ghosts (search sendable) (search sendable) (search sendable) (search sendable)))

pub may_be_lent-requires-sync-A : goal.may_be_lent-requires-sync-A
may_be_lent-requires-sync-A c κs = param_sync 0 _ (arg_sync _ yes _ (halt_sync Ring.the_row Brand.the_row u32-field.row u32-field.row Stuck.the_row TwoWalls.the_row terrain.ghosts ring.ghosts key.ghosts naming.ghosts (search sendable) (search sendable) (search sendable) (search sendable) (search sendable) (search sendable)))
