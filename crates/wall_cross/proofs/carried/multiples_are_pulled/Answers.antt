use Rattle.quad_field.specs.Quads.{quad_ops}
use Rattle.quad_field.proofs.CallerLemmas.{quad_ring, order_of}
use Rattle.wall_cross.proofs.Pulled.{multiple_pulled, multiple_unpulled}
use Rattle.wall_cross.proofs.carried.multiples_are_pulled.Goals as goal

pub returns : goal.returns
returns c = λ d n q r field turns. (
  multiple_pulled (quad_ops d) (quad_ring d) (order_of d field) n turns q r,
  multiple_unpulled (quad_ops d) (quad_ring d) (order_of d field) n turns q r,
)
