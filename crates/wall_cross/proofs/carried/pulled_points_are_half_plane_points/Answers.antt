use Rattle.quad_field.specs.Quads.{quad_ops}
use Rattle.quad_field.proofs.CallerLemmas.{quad_ring, order_of}
use Rattle.wall_cross.proofs.Pulled.{pulled_inside}
use Rattle.wall_cross.proofs.carried.pulled_points_are_half_plane_points.Goals as goal

pub returns : goal.returns
returns c = λ d n q field turns inside. pulled_inside (quad_ops d) (quad_ring d) (order_of d field) n turns q inside
