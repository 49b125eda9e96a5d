-- Crossings up to translations: that they are triangulations, their images, and the crossings of a class.
use Rattle.std.proofs.Common.{ℕ, ◌*◌, [], List, subst, arith}
use Rattle.std.specs.Prelude.{pos}
use Rattle.rings.specs.Ring.{expr}
use Rattle.rings.specs.Matrices.{Matrix, matrix_det, matrix_product}
use Rattle.rings.proofs.Solver.{identity}
use Rattle.quad_field.specs.declared.quad.Quad.{Quad}
use Rattle.quad_field.specs.FieldNumber.{IsFieldNumber}
use Rattle.quad_field.specs.Quads.{quad_ops, IsPositive}
use Rattle.quad_field.proofs.CallerLemmas.{quad_ring, natural_positive}
use Rattle.tri_core.specs.declared.half.Half.{Half}
use Rattle.tri_core.specs.Triangulation.{IsTriangulation}
use Rattle.tri_core.specs.Images.{IsImageBy, identity_matrix, AreTranslationEqual}
use Rattle.hinge_form.specs.Triples.{Triple}
use Rattle.wall_cross.specs.Crossings.{Crosses}
use Rattle.wall_cross.specs.Edges.{AreMatching}
use Rattle.wall_cross.proofs.CarriedImages.{image_composed, translation_back, translation_then_image, image_then_translation}
use Rattle.wall_cross.proofs.ValidImages.{image_valid}
use Rattle.wall_cross.proofs.Behind.{crossing_valid}
use Rattle.wall_cross.proofs.CarriedCrossings.{crossing_image}

-- ---- triangulations
-- det(1, 0; 0, 1) = 1
identity_turns : (d : ℕ) → IsPositive d (matrix_det (quad_ops d) (identity_matrix (quad_ops d)))
identity_turns d =
    subst (IsPositive d) (identity (quad_ops d) (quad_ring d) [] (expr.int (pos 1)) (matrix_det expr (identity_matrix expr)) tt) (natural_positive d 1 (omega arith))

pub translated_valid : (d : ℕ) (from to : List Half) → IsFieldNumber d → IsTriangulation d from → AreTranslationEqual d from to → IsTriangulation d to
translated_valid d from to field valid move = image_valid d field (identity_matrix (quad_ops d)) 1 from to move.0 move.1 valid (identity_turns d) move.2

-- a crossing leaves one
pub cross_valid : (d : ℕ) → IsFieldNumber d → (halves : List Half) → IsTriangulation d halves → (l : Triple) (edges : List ℕ) (later : List Half) → Crosses d halves l edges later → IsTriangulation d later
cross_valid d field halves valid l edges later cross =
    translated_valid d cross.1.0 later field (crossing_valid d field halves valid l edges cross.0 cross.1.0 cross.1.1) cross.1.2

-- ---- images of crossings
module _ (d : ℕ) (field : IsFieldNumber d) (n : Matrix Quad) (m : ℕ) (from to : List Half) (valid : IsTriangulation d from) (valid_to : IsTriangulation d to) (image : IsImageBy d n m from to)
    (l k : Triple) (edges others : List ℕ) (matching : AreMatching d n l k) where
  pub cross_image : (later later_to : List Half) → Crosses d from l edges later → Crosses d to k others later_to → IsImageBy d n m later later_to
  cross_image later later_to one two =
      let flipped = one.1.0 in
      let flipped_to = two.1.0 in
      let carried = crossing_image d field n m from to image.0 image.1 valid valid_to image.2 l k matching edges others one.0 two.0 flipped flipped_to one.1.1 two.1.1 in
      let move = one.1.2 in
      let move_to = two.1.2 in (
        (λ j. move_to.0 (image.0 (move.1 j))),
        (λ j. move.0 (image.1 (move_to.1 j))),
        translation_then_image d n m later flipped later_to move.1 move.0 (λ j. move_to.0 (image.0 j)) (λ j. image.1 (move_to.1 j))
            (translation_back d flipped later move.0 move.1 (crossing_valid d field from valid l edges one.0 flipped one.1.1) move.2)
            (image_then_translation d n m flipped flipped_to later_to image.0 image.1 move_to.0 move_to.1 carried move_to.2),
      )

-- C is carried to T by a/p, and D by g/q to the crossing X of a wall of C: then D is carried to the crossing Y of the matching wall of T by (a·g)/(p·q)
pub class_crossing : (d : ℕ) → IsFieldNumber d → (a g : Matrix Quad) (p q : ℕ) (C T D X Y : List Half) (l k : Triple) (edges others : List ℕ) → IsTriangulation d C → IsTriangulation d T
    → IsImageBy d a p C T → Crosses d C l edges X → IsImageBy d g q D X → Crosses d T k others Y → AreMatching d a l k
    → IsImageBy d (matrix_product (quad_ops d) a g) (p * q) D Y
class_crossing d field a g p q C T D X Y l k edges others valid valid_T image one there two matching =
    let carried = cross_image d field a p C T valid valid_T image l k edges others matching X Y one two in (
      (λ j. carried.0 (there.0 j)),
      (λ j. there.1 (carried.1 j)),
      image_composed d g a q p D X Y there.0 there.1 carried.0 carried.1 there.2 carried.2,
    )
