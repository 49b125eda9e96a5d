-- The one spelling of a surface file: its lines, in their order, each ended by a line feed.
use Rattle.std.specs.Prelude.{ℕ, zero, suc, ℤ, pos, List, [], ◌∷◌, ◌++◌, map, codes}
use Rattle.std.specs.List.{flat_map}
use Rattle.plane.specs.declared.vec2.Vec2.{Vec2}
use Rattle.plane.specs.Spelling.{natural_text, whole_text, vector_text}
use Rattle.surface_text.specs.declared.file.Point.{Point}
use Rattle.surface_text.specs.declared.file.Polygon.{Polygon}
use Rattle.surface_text.specs.declared.file.Glue.{Glue}
use Rattle.surface_text.specs.declared.file.SurfaceFile.{SurfaceFile}

-- what follows the numerator of a fraction: nothing where the denominator is 1, and else `/` and the denominator
abbrev pub denominator_text : ℤ → List ℕ
denominator_text (pos (suc zero)) = []
denominator_text d = codes "/" ++ whole_text d

-- the text of the fraction n/d
abbrev pub fraction_text : ℤ → ℤ → List ℕ
fraction_text n d = whole_text n ++ denominator_text d

-- the text `X Y` of a base point
abbrev pub point_text : Point → List ℕ
point_text at = fraction_text at.xn at.xd ++ codes " " ++ fraction_text at.yn at.yd

-- the text `P.E P.E` of two sides that are glued
abbrev pub glue_text : Glue → List ℕ
glue_text g = natural_text g.p1 ++ codes "." ++ natural_text g.e1 ++ codes " " ++ natural_text g.p2 ++ codes "." ++ natural_text g.e2

-- the text of a polygon's sides, each with a space before it
abbrev pub sides_text : List Vec2 → List ℕ
sides_text sides = flat_map (λ v. codes " " ++ vector_text v) sides

-- a line of a surface file
pub data Line : Type 0 where
  flat : Line
  field : ℕ → Line
  base : Point → Line
  polygon : List Vec2 → Line
  glue : Glue → Line
  end : Line

-- the word that a line begins with
abbrev pub word_of : Line → List ℕ
word_of flat = codes "flat"
word_of (field d) = codes "field"
word_of (base at) = codes "base"
word_of (polygon sides) = codes "polygon"
word_of (glue g) = codes "glue"
word_of end = codes "end"

-- what follows the word of a line
abbrev pub tail_of : Line → List ℕ
tail_of flat = codes " 1"
tail_of (field d) = codes " " ++ natural_text d
tail_of (base at) = codes " " ++ point_text at
tail_of (polygon sides) = sides_text sides
tail_of (glue g) = codes " " ++ glue_text g
tail_of end = []

-- the text of a line without its line feed
abbrev pub line_text : Line → List ℕ
line_text line = word_of line ++ tail_of line

-- the texts of lines, a line feed (10) behind each, and then the rest
abbrev pub lines_then : List Line → List ℕ → List ℕ
lines_then [] rest = rest
lines_then (line ∷ lines) rest = line_text line ++ 10 ∷ lines_then lines rest

-- what a surface file holds
pub record Content : Type 0 where
  pub field : ℕ
  pub bases : List Point
  pub polygons : List (List Vec2)
  pub glues : List Glue

-- a surface file without where it lies in memory
abbrev pub content : SurfaceFile → Content
content file =
    record {
      field = file.field;
      bases = file.bases.items;
      polygons = map (λ (polygon : Polygon). polygon.sides.items) file.polygons.items;
      glues = file.glues.items;
    }

-- the lines of a file before the last
abbrev pub lines_before_end : Content → List Line
lines_before_end file =
    Line.flat ∷ Line.field file.field ∷ (map Line.base file.bases ++ (map Line.polygon file.polygons ++ map Line.glue file.glues))

-- the lines of a file
abbrev pub lines_of : Content → List Line
lines_of file = lines_before_end file ++ Line.end ∷ []

-- the text of a file
abbrev pub text : Content → List ℕ
text file = lines_then (lines_of file) []
