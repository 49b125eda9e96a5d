-- Where the walls of a class lead: to the class behind the wall, by the frame of the crossed triangulation.
use Rattle.std.specs.Prelude.{◌≡◌, ℕ, ◌<◌, ◌≤◌, ℤ, List, length, get_or}
use Rattle.plane.specs.Matrices.{FieldMatrix, identity, IsInLowestTerms}
use Rattle.tri_core.specs.declared.half.Half.{Half}
use Rattle.tri_core.specs.Images.{CarriesFrame}
use Rattle.canon_code.specs.Codes.{IsCode, IsStart, AreStarts}
use Rattle.canon_code.specs.Canonical.{canonical, ThirdVectorsFit}
use Rattle.class_node.specs.Classes.{field_of, IsClassOver, LiesBehindWall}

-- the frame of start h, in lowest terms: it takes half-edges 0 and 1 of the canonical triangulation of the code to h and the next one
pub record IsFrameAt (d : ℕ) (halves : List Half) (code : List ℤ) (h : ℕ) (frame : FieldMatrix) : Type 0 where
  pub carries : CarriesFrame d frame.rows frame.denominator (canonical d code) 0 halves h
  pub lowest : IsInLowestTerms frame

-- the frame of a triangulation: that of its least start of least serial
pub record IsFrame (d : ℕ) (halves : List Half) (code : List ℤ) (frame : FieldMatrix) : Type 0 where
  pub start : ℕ
  pub is_start : IsStart d halves code start
  pub first : (h : ℕ) → IsStart d halves code h → start ≤ h
  pub frame_at : IsFrameAt d halves code start frame

-- the frames of all starts of a triangulation, in the order of the starts
pub record AreFrames (d : ℕ) (halves : List Half) (code : List ℤ) (frames : List FieldMatrix) : Type 0 where
  pub starts : List ℕ
  pub are : AreStarts d halves code starts
  pub count : length frames ≡ length starts
  pub each : (i : ℕ) → i < length starts → IsFrameAt d halves code (get_or starts i 0) (get_or frames i identity)

-- wall w of a class leads to a class by a link: behind the wall lies a triangulation with this code, whose numbers fit, and this frame
pub record IsLead (d : ℕ) (code : List ℤ) (w : ℕ) (to : List ℤ) (link : FieldMatrix) : Type 0 where
  pub later : List Half
  pub behind : LiesBehindWall d code w later
  pub code_behind : IsCode d later to
  pub fits : ThirdVectorsFit d to
  pub frame : IsFrame d later to link

-- a wall of a class over the field of a terrain leads so
abbrev pub LeadsBy : List ℤ → List ℤ → ℕ → List ℤ → FieldMatrix → Type 0
LeadsBy t k w to link = ∥ IsClassOver (field_of t) k × IsLead (field_of t) k w to link ∥₁
