-- The hinge of the new diagonal after a flip.
use Rattle.std.proofs.Common.{◌≡◌, ℕ, ◌<◌, List, length, ◌∙◌, ap}
use Rattle.rings.specs.Forms.{three_row_determinant}
use Rattle.quad_field.specs.declared.quad.Quad.{Quad}
use Rattle.quad_field.specs.Quads.{quad_ops}
use Rattle.quad_field.proofs.CallerLemmas.{quad_ring}
use Rattle.plane.specs.Vectors.{Vector, opposite_vector}
use Rattle.tri_core.specs.declared.half.Half.{Half}
use Rattle.tri_core.specs.HalfEdges.{vector_at, twin_at, next_of, previous_of}
use Rattle.tri_core.specs.Triangulation.{IsTriangulation}
use Rattle.tri_core.specs.Flips.{IsFlip}
use Rattle.tri_core.proofs.CallerLemmas.{Leaves, leaves}
use Rattle.hinge_form.specs.Triples.{Triple}
use Rattle.hinge_form.specs.Hinges.{hinge_value}
use Rattle.hinge_form.proofs.Turned.{third_side, diagonal_value}
use Rattle.hinge_form.proofs.Hinged.{next_is, behind_is}

module _ (d : ℕ) (halves later : List Half) (h : ℕ) (valid : IsTriangulation d halves) (below : h < length halves) (flip : IsFlip d halves h later) where
  -- the value of the new diagonal is the negative of the old edge's
  pub value_after : (q : Triple) → hinge_value d later h q ≡ (quad_ops d).neg (hinge_value d halves h q)
  value_after q =
      let O = quad_ops d in
      let back = opposite_vector O in
      let g = twin_at halves h in
      let a = vector_at halves h in
      let n = vector_at halves (next_of h) in
      let p = vector_at halves (previous_of h) in
      let e = vector_at halves (next_of g) in
      let r = vector_at halves (previous_of g) in
      let left : Leaves d halves h g later = leaves d halves h later valid below flip g (λ i. g) in
      ap (λ (v : Vector Quad). three_row_determinant O q v (back (vector_at later (previous_of h))) (vector_at later (next_of (twin_at later h)))) left.diagonal
      ∙ ap (λ (v : Vector Quad). three_row_determinant O q (third_side O r n) (back v) (vector_at later (next_of (twin_at later h)))) left.at_previous
      ∙ ap (λ (m : ℕ). three_row_determinant O q (third_side O r n) (back n) (vector_at later (next_of m))) left.twin
      ∙ ap (λ (v : Vector Quad). three_row_determinant O q (third_side O r n) (back n) v) left.at_next_of_twin
      ∙ ap (λ (v : Vector Quad). three_row_determinant O q (third_side O v n) (back n) p) (behind_is d halves h valid below)
      ∙ ap (λ (v : Vector Quad). three_row_determinant O q (third_side O (third_side O (back a) e) v) (back v) p) (next_is d halves h valid below)
      ∙ diagonal_value O (quad_ring d) q a p e
