use Rattle.quad_field.specs.Quads.{quad_ops}
use Rattle.quad_field.proofs.CallerLemmas.{quad_ring, order_of}
use Rattle.wall_cross.specs.Pulled.{pushed}
use Rattle.wall_cross.proofs.Pulled.{multiple_unpushed, pushed_onto}
use Rattle.wall_cross.proofs.CarriedWalls.{through, swapped}
use Rattle.wall_cross.proofs.carried.lines_are_carried.Goals as goal

pub returns : goal.returns
returns c = record {
  each = λ d n k field turns. pushed_onto (quad_ops d) (quad_ring d) (order_of d field) n turns k;
  once = λ d n l j k field turns one two.
      multiple_unpushed (quad_ops d) (quad_ring d) (order_of d field) n turns l j
      (through d field (pushed (quad_ops d) n l) k (pushed (quad_ops d) n j) one (swapped d field (pushed (quad_ops d) n j) k two));
}
