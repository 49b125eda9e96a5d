-- The text of `region`.
use Rattle.std.specs.Prelude.{ℕ, Bool, true, false, List, [], ◌∷◌, ◌++◌, length, codes}
use Rattle.std.specs.List.{concat, flat_map}
use Rattle.plane.specs.Spelling.{natural_text, quad_text}
use Rattle.hinge_form.specs.Triples.{Triple, of_place}
use Rattle.parabola_region.specs.WallLists.{PlainWall}
use Rattle.parabola_region.specs.declared.corner.Corner.{Corner}
use Rattle.answer_text.specs.CheckTexts.{numbers_text}

-- three K-integers, each with a space before it
abbrev pub triple_text : Triple → List ℕ
triple_text l = concat (codes " " ∷ quad_text l.0 ∷ codes " " ∷ quad_text l.1 ∷ codes " " ∷ quad_text l.2 ∷ [])

-- the line of a wall: its form and its edges
abbrev pub wall_text : PlainWall → List ℕ
wall_text wall = concat (codes "wall" ∷ triple_text wall.0 ∷ codes " edges" ∷ numbers_text wall.1 ∷ codes "\n" ∷ [])

-- the word of a corner
abbrev pub corner_word : Bool → List ℕ
corner_word true = codes "ideal "
corner_word false = codes "inner "

-- the numbers of a corner's walls, and its place
abbrev pub pair_text : Corner → List ℕ
pair_text corner = concat (natural_text corner.first ∷ codes " " ∷ natural_text corner.second ∷ triple_text (of_place corner.at) ∷ codes "\n" ∷ [])

-- the line of a corner
abbrev pub corner_text : Corner → List ℕ
corner_text corner = corner_word corner.ideal ++ pair_text corner

-- what `region` prints of the walls and the corners of a region
abbrev pub walls_and_corners_text : List PlainWall → List Corner → List ℕ
walls_and_corners_text walls corners =
    concat (
    codes "region " ∷ natural_text (length walls)
    ∷ codes "\n" ∷ flat_map wall_text walls
    ∷ flat_map corner_text corners
    ∷ codes "end\n" ∷ []
    )
