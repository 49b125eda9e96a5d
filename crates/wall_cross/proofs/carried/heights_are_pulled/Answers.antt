use Rattle.quad_field.specs.Quads.{quad_ops}
use Rattle.quad_field.proofs.CallerLemmas.{quad_ring}
use Rattle.wall_cross.proofs.Pulled.{pulled_length}
use Rattle.wall_cross.proofs.carried.heights_are_pulled.Goals as goal

pub returns : goal.returns
returns c = λ d n q v. pulled_length (quad_ops d) (quad_ring d) n q v
