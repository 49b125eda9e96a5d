use Rattle.canon_code.proofs.Serials.{serial_carried, serial_carried_back}
use Rattle.canon_code.proofs.laws.image_keeps_serials.Goals as goal

pub returns : goal.returns
returns c = λ d n m from to forth back h serial field valid valid' image below. (
  serial_carried d field n m from to forth back valid valid' image h serial below,
  serial_carried_back d field n m from to forth back valid valid' image h serial below,
)
