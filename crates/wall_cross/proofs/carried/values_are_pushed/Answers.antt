use Rattle.quad_field.specs.Quads.{quad_ops}
use Rattle.quad_field.proofs.CallerLemmas.{quad_ring}
use Rattle.wall_cross.proofs.Pulled.{pushed_value}
use Rattle.wall_cross.proofs.carried.values_are_pushed.Goals as goal

pub returns : goal.returns
returns c = λ d n l q. pushed_value (quad_ops d) (quad_ring d) n l q
