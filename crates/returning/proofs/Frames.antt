-- Frames of starts: they take the canonical triangulation to the one whose frames they are, and have positive determinants.
use Rattle.std.proofs.Common.{ℕ, List}
use Rattle.std.specs.Prelude.{ℤ}
use Rattle.quad_field.specs.FieldNumber.{IsFieldNumber}
use Rattle.plane.specs.Matrices.{FieldMatrix}
use Rattle.tri_core.specs.declared.half.Half.{Half}
use Rattle.tri_core.specs.Triangulation.{IsTriangulation}
use Rattle.tri_core.specs.Images.{IsImageBy}
use Rattle.tri_core.proofs.CallerLemmas.{image_turns_left}
use Rattle.canon_code.specs.Codes.{IsStart}
use Rattle.canon_code.specs.Canonical.{canonical}
use Rattle.canon_code.proofs.CallerLemmas.{canonical_valid, image_of_frame}
use Rattle.class_node.specs.Leads.{IsFrameAt}
use Rattle.returning.specs.Returning.{IsMatrix}

module _ (d : ℕ) (field : IsFieldNumber d) (halves : List Half) (valid : IsTriangulation d halves) (code : List ℤ) (h : ℕ) (own : IsStart d halves code h)
    (frame : FieldMatrix) (at : IsFrameAt d halves code h frame)
  where
    pub frame_image : IsImageBy d frame.rows frame.denominator (canonical d code) halves
    frame_image = image_of_frame d field halves h code frame.rows frame.denominator valid own.0 own.1 at.lowest.positive at.carries

    pub frame_matrix : IsMatrix d frame
    frame_matrix = (
      at.lowest.positive,
      image_turns_left d frame.rows frame.denominator (canonical d code) halves frame_image.0 frame_image.1 frame_image.2 (canonical_valid d field halves h code valid own.0 own.1) field valid,
    )
