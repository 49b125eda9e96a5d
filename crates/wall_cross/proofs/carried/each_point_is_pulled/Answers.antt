use Rattle.rings.specs.Matrices.{matrix_det}
use Rattle.quad_field.specs.Quads.{quad_ops}
use Rattle.quad_field.proofs.CallerLemmas.{quad_ring, order_of}
use Rattle.wall_cross.proofs.Pulled.{pulled_onto, square_turns}
use Rattle.wall_cross.proofs.carried.each_point_is_pulled.Goals as goal

pub returns : goal.returns
returns c = λ d n r field turns inside.
    let O = quad_ops d in
    let onto = pulled_onto O (quad_ring d) (order_of d field) n turns r inside in (
      onto.0,
      O.mul (matrix_det O n) (matrix_det O n),
      square_turns O (quad_ring d) (order_of d field) n turns,
      onto.1,
      onto.2,
    )
