-- Which values of this crate may cross threads.
use denote.RattleType.{RattleType}
use denote.Param.Send.{IsSend, IsSync, struct_send, struct_sync, recorded_send, recorded_sync, shr_sync, sendable}
use denote.Ref.{ShrRef}
use denote.Struct.Declared.{shape}
use denote.Struct.Tuple.{TupleAt, type_at}
use mathlib.Core.List.{List, [], ◌∷◌}
use mir.Syntax.{Lifetime, Sym}
use base.Fml.{Lft}
use Rattle.terrain.specs.declared.terrains.Terrain as terrains
use Rattle.terrain.specs.declared.numbers.Numbers as numbers
use Rattle.class_shards.specs.declared.naming.Naming as namings
use Rattle.class_shards.specs.contracts.shards.Shards as Shards
use Rattle.class_shards.proofs.shards.Shards.TheSendSync as shards
use Rattle.walls_out.proofs.count.CountSeat.TheSendSync as seat
use Rattle.wall_steal.proofs.CallerLemmas.{hands_field_send}
use Rattle.explore_shared.specs.contracts.run.Worker as Worker

module _ (T N K L F W : RattleType) (G : terrains.Ghosts T.Denot K.Denot L.Denot F.Denot W.Denot) (A : numbers.Ghosts T.Denot) (B : numbers.Ghosts K.Denot) (M : namings.Ghosts N.Denot) where
  pub worker_send : IsSend N → IsSend K → IsSync K → IsSend F → IsSend (Worker.the_row T N K L F W G A B M)
  worker_send sn sk yk sf = recorded_send _ _ _ (Worker.the_type T N K L F W G A B M).to_one (struct_send (shape (Worker.the_type T N K L F W G A B M)) (search sendable, (hands_field_send T N K L F W G A B M sn sk yk sf, (seat.the_field_send, tt))))

  pub shards_sync : IsSend K → IsSync K → IsSend L → IsSync (Shards.the_row T N K L F W G A B M)
  shards_sync sk yk sl = search (shards.the_sync T N K L F W G A B M, sk, yk, sl) depth 20

-- a closure that lends eight values
module _ (ν : Sym) (ℓ : Lifetime) (p q r s t u v w : Lft) (A B C D E F G H : RattleType) where
  abbrev pub lent : List RattleType
  lent = ShrRef ℓ p A ∷ ShrRef ℓ q B ∷ ShrRef ℓ r C ∷ ShrRef ℓ s D ∷ ShrRef ℓ t E ∷ ShrRef ℓ u F ∷ ShrRef ℓ v G ∷ ShrRef ℓ w H ∷ []

  pub lending_sync : IsSync A → IsSync B → IsSync C → IsSync D → IsSync E → IsSync F → IsSync G → IsSync H → IsSync (TupleAt ν lent)
  lending_sync ya yb yc yd ye yf yg yh =
      recorded_sync _ _ _ (type_at ν lent).to_one
      (struct_sync (shape (type_at ν lent)) (shr_sync ℓ p A ya, (shr_sync ℓ q B yb, (shr_sync ℓ r C yc, (shr_sync ℓ s D yd, (shr_sync ℓ t E ye, (shr_sync ℓ u F yf, (shr_sync ℓ v G yg, (shr_sync ℓ w H yh, tt)))))))))
