use Rattle.rings.proofs.Forms.{chord_point_on_line, chord_point_inner, upright_chord_point_on_line, upright_chord_point_inner}
use Rattle.quad_field.specs.Quads.{quad_ops}
use Rattle.quad_field.proofs.KIntegers.{quad_ring}
use Rattle.quad_field.proofs.identities.chord_point.Goals as goal

pub returns : goal.returns
returns c = record {
  on_line = λ d. chord_point_on_line (quad_ops d) (quad_ring d);
  inner = λ d. chord_point_inner (quad_ops d) (quad_ring d);
  upright_on_line = λ d. upright_chord_point_on_line (quad_ops d) (quad_ring d);
  upright_inner = λ d. upright_chord_point_inner (quad_ops d) (quad_ring d);
}
