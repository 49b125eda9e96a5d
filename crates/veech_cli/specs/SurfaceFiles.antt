-- Which inputs are accepted as surface files, what they are cut into, and why others are refused.
use Rattle.std.specs.Prelude.{◌≡◌, ℕ, ◌<◌, ◌≤◌, List, length}
use Rattle.surface_text.specs.Spelling.{Content, text}
use Rattle.surface_text.specs.Limits.{IsWithinLimits}
use Rattle.surface_text.specs.Causes.{IsRefused as IsTextRefused}
use Rattle.gluing.specs.Gluings.{IsGluing, gluing_of}
use Rattle.gluing.specs.Refusals.{IsRefused as IsGluingRefused}
use Rattle.ear_cut.specs.Cuttings.{IsEarCutting}
use Rattle.tri_core.specs.declared.half.Half.{Half}

-- the input is the text of a file within the limits
pub record IsTextOf (input : List ℕ) (file : Content) : Type 0 where
  pub short : length input ≤ 1048576
  pub spelled : input ≡ text file
  pub limits : IsWithinLimits file

-- the input is accepted as this file: it is its text, and its polygons are glued to a surface
pub record IsAccepted (input : List ℕ) (file : Content) : Type 0 where
  pub text_of : IsTextOf input file
  pub glued : IsGluing (gluing_of file)

-- the half-edges of the file's triangulation
abbrev pub IsTriangulationOf : Content → List Half → Type 0
IsTriangulationOf file halves = IsEarCutting (gluing_of file) halves

-- the input is refused for the cause of this number, in this line: it is too long, or its text is refused, or its polygons aren't glued
pub data IsRefused (input : List ℕ) (cause line : ℕ) : Type 0 where
  too_long : 1048576 < length input → cause ≡ 0 → line ≡ 0 → IsRefused input cause line
  text_refused : length input ≤ 1048576 → IsTextRefused input cause line → IsRefused input cause line
  not_glued : (file : Content) → IsTextOf input file → IsGluingRefused file cause line → IsRefused input cause line
