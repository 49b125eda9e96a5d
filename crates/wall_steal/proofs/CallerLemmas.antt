-- What callers need: which values of this crate may cross threads.
use denote.RattleType.{RattleType}
use denote.Builtin as builtin
use denote.Param.Send.{IsSend, IsSync, struct_send, struct_sync, recorded_send, recorded_sync, sendable}
use denote.Struct.Declared.{shape}
use Rattle.std.proofs.Crossing.{crosses, Vec-send}
use Rattle.std.proofs.alloc.Global.TheSendSync as heap
use Rattle.std.below.std_heap.proofs.GlobalAllocator.TheSendSync as frees
use Rattle.std.specs.contracts.alloc.Global as Global
use Rattle.std.specs.contracts.impls.GlobalAllocator.TheImpl as global
use Rattle.once_cell.proofs.race.once_box.OnceBox.TheSendSync as once
use Rattle.crossbeam_deque.specs.contracts.protocol.Free as Free
use Rattle.crossbeam_deque.specs.contracts.protocol.FreeProtocolUnit.TheImpl as free
use Rattle.crossbeam_deque.proofs.handles.Worker.TheSendSync as worker
use Rattle.terrain.specs.declared.terrains.Terrain as terrains
use Rattle.terrain.specs.declared.numbers.Numbers as numbers
use Rattle.class_shards.specs.declared.naming.Naming as namings
use Rattle.class_shards.specs.contracts.ticket.Ticket as Ticket
use Rattle.class_shards.proofs.ticket.Ticket.TheSendSync as ticket
use Rattle.wall_steal.specs.contracts.cause.Known as Known
use Rattle.wall_steal.specs.contracts.halt.Halt as Halt
use Rattle.wall_steal.specs.contracts.hands.Hands as Hands
use Rattle.wall_steal.specs.contracts.other.Other as Other
use Rattle.wall_steal.proofs.other.Other.TheSendSync as other

module _ (T N K L F W : RattleType) (G : terrains.Ghosts T.Denot K.Denot L.Denot F.Denot W.Denot) (A : numbers.Ghosts T.Denot) (B : numbers.Ghosts K.Denot) (M : namings.Ghosts N.Denot) where
  pub known_send : IsSend N → IsSend K → IsSync K → IsSend F → IsSend (Known.the_row T N K L F W G A B M)
  known_send sn sk yk sf = search (crosses, sendable) depth 60 fits 20000

  pub known_sync : IsSync N → IsSend K → IsSync K → IsSync F → IsSync (Known.the_row T N K L F W G A B M)
  known_sync yn sk yk yf = search (crosses, sendable) depth 60 fits 20000

  pub halt_field_sync : IsSend N → IsSync N → IsSend K → IsSync K → IsSend F → IsSync F → IsSync (Halt.the_field T N K L F W G A B M).row
  halt_field_sync sn yn sk yk sf yf = struct_sync (shape (Halt.the_type T N K L F W G A B M)) (once.the_sync (Known.the_row T N K L F W G A B M) (known_send sn sk yk sf) (known_sync yn sk yk yf), (search sendable, tt))

  pub halt_sync : IsSend N → IsSync N → IsSend K → IsSync K → IsSend F → IsSync F → IsSync (Halt.the_row T N K L F W G A B M)
  halt_sync sn yn sk yk sf yf = recorded_sync (Halt.the_field T N K L F W G A B M).row _ _ (Halt.the_type T N K L F W G A B M).to_one (halt_field_sync sn yn sk yk sf yf)

  pub hands_field_send : IsSend N → IsSend K → IsSync K → IsSend F → IsSend (Hands.the_field T N K L F W G A B M).row
  hands_field_send sn sk yk sf =
      let t = ticket.the_send T N K L F W G A B M sk yk in
      struct_send (shape (Hands.the_type T N K L F W G A B M)) (
        worker.the_field_send (Ticket.the_row T N K L F W G A B M) Global.the_row builtin.unit Free.the_row global.ghosts (free.ghosts (Ticket.the_row T N K L F W G A B M)) t heap.the_send heap.the_sync frees.the_frees,
        (Vec-send (Other.the_row T N K L F W G A B M) (other.the_send T N K L F W G A B M sk yk), (search (known_send sn sk yk sf, crosses, sendable) depth 60 fits 20000, tt)),
      )

  pub hands_send : IsSend N → IsSend K → IsSync K → IsSend F → IsSend (Hands.the_row T N K L F W G A B M)
  hands_send sn sk yk sf = recorded_send (Hands.the_field T N K L F W G A B M).row _ _ (Hands.the_type T N K L F W G A B M).to_one (hands_field_send sn sk yk sf)
