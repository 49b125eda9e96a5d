-- The third corners of the triangles at a half-edge, as they are read from a triangulation.
use Rattle.std.proofs.Common.{◌≡◌, ℕ, ◌<◌, List, length, sym, ◌∙◌, ap, subst}
use Rattle.std.specs.Prelude.{slice_get, Some}
use Rattle.plane.specs.Vectors.{vector}
use Rattle.tri_core.specs.declared.half.Half.{Half}
use Rattle.tri_core.specs.HalfEdges.{vector_at, twin_at, next_of, previous_of}
use Rattle.tri_core.specs.Triangulation.{IsTriangulation}
use Rattle.tri_core.proofs.CallerLemmas.{half_is, previous_inside}
use Rattle.hinge_form.specs.Hinges.{hinge_c, hinge_d}

module _ (d : ℕ) (halves : List Half) (h : ℕ) (valid : IsTriangulation d halves) (below : h < length halves) where
  -- the twin of what is read is a half-edge
  pub twin_of_read : (half : Half) → slice_get halves h ≡ Some half → half.twin < length halves
  twin_of_read half e = subst (λ (x : Half). x.twin < length halves) (half_is halves h half e) (valid.paired h below).0

  module _ (m : ℕ) (half other : Half) where
    pub corner_is : m ≡ previous_of h → slice_get halves m ≡ Some half → slice_get halves half.twin ≡ Some other → vector other.vec ≡ hinge_c d halves h
    corner_is e is next =
        sym (ap (λ (x : Half). vector x.vec) (half_is halves half.twin other next))
        ∙ sym (ap (λ (x : Half). vector_at halves x.twin) (half_is halves m half is))
        ∙ ap (λ (k : ℕ). vector_at halves (twin_at halves k)) e
        ∙ (valid.paired (previous_of h) (previous_inside d halves h valid below)).2

    pub far_corner_is : m ≡ next_of half.twin → slice_get halves h ≡ Some half → slice_get halves m ≡ Some other → vector other.vec ≡ hinge_d halves h
    far_corner_is e is next =
        sym (ap (λ (x : Half). vector x.vec) (half_is halves m other next))
        ∙ ap (vector_at halves) e
        ∙ sym (ap (λ (x : Half). vector_at halves (next_of x.twin)) (half_is halves h half is))
