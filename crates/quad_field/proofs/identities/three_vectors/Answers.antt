use Rattle.rings.proofs.Forms.{three_vectors_first, three_vectors_second}
use Rattle.quad_field.specs.Quads.{quad_ops}
use Rattle.quad_field.proofs.KIntegers.{quad_ring}
use Rattle.quad_field.proofs.identities.three_vectors.Goals as goal

pub returns : goal.returns
returns c = record {
  first = λ d. three_vectors_first (quad_ops d) (quad_ring d);
  second = λ d. three_vectors_second (quad_ops d) (quad_ring d);
}
