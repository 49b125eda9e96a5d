-- Surfaces tiled by unit squares (origamis): each square has one to its right and one above it.
use Rattle.std.specs.Prelude.{ℕ, ◌+◌, ◌-◌, ◌*◌, ◌%◌, ◌==◌, nat_lt, if◌then◌else◌, ℤ, pos, negsuc, List, [], ◌∷◌, ◌++◌, map, replicate}
use Rattle.std.specs.List.{range_with_len}
use Rattle.quad_field.specs.Quads.{quad}
use Rattle.plane.specs.declared.vec2.Vec2.{Vec2}
use Rattle.surface_text.specs.declared.file.Glue.{Glue}
use Rattle.surface_text.specs.Spelling.{Content}

-- so many squares, numbered from 0, with the square to the right of each and the square above each
pub record Tiling : Type 0 where
  pub squares : ℕ
  pub right : ℕ → ℕ
  pub up : ℕ → ℕ

-- the square after square i of the first n, where the last is followed by square 0
abbrev pub after_round : ℕ → ℕ → ℕ
after_round n i = if i + 1 == n then 0 else i + 1

-- the square after square i of the first n, where the last stays itself
abbrev pub after_within : ℕ → ℕ → ℕ
after_within n i = if nat_lt (i + 1) n then i + 1 else i

-- a row of j + 1 squares, the last beside the first; above each square is itself
abbrev pub row : ℕ → Tiling
row j = record { squares = j + 1; right = after_round (j + 1); up = λ i. i }

-- an L: squares 0 to j + 1 are a row, and squares j + 2 to 2j + 2 a column above square 0, the last of it below square 0;
-- right of each square of the column is itself, and so is above each other square of the row
abbrev pub ell : ℕ → Tiling
ell j = record {
  squares = 2 * j + 3;
  right = λ i. if nat_lt i (j + 2) then after_round (j + 2) i else i;
  up = λ i. if i == 0 then j + 2 else if nat_lt i (j + 2) then i else after_round (2 * j + 3) i;
}

-- a staircase of j + 3 squares: to the right 0 and 1 are exchanged, 2 and 3, and so on, and upwards 1 and 2, 3 and 4, and so on;
-- a square without a partner is its own
abbrev pub staircase : ℕ → Tiling
staircase j = record {
  squares = j + 3;
  right = λ i. if i % 2 == 0 then after_within (j + 3) i else i - 1;
  up = λ i. if i % 2 == 0 then i - 1 else after_within (j + 3) i;
}

-- the vector with whole coordinates s and t
abbrev pub whole_vector : ℤ → ℤ → Vec2
whole_vector s t = record { s = quad s (pos 0); t = quad t (pos 0) }

-- the unit square: its lower side is side 0, its right side 1, its upper side 2, its left side 3
abbrev pub unit_square : List Vec2
unit_square = whole_vector (pos 1) (pos 0) ∷ whole_vector (pos 0) (pos 1) ∷ whole_vector (negsuc 0) (pos 0) ∷ whole_vector (pos 0) (negsuc 0) ∷ []

-- the right side of square i is glued to the left side of the square to its right
abbrev pub right_glue : Tiling → ℕ → Glue
right_glue t i = record { p1 = i; e1 = 1; p2 = t.right i; e2 = 3 }

-- the upper side of square i is glued to the lower side of the square above it
abbrev pub upper_glue : Tiling → ℕ → Glue
upper_glue t i = record { p1 = i; e1 = 2; p2 = t.up i; e2 = 0 }

-- the file of a tiling, over the field of √2: its squares, the glue lines of their right sides, and those of their upper sides
abbrev pub tiling_file : Tiling → Content
tiling_file t = record {
  field = 2;
  bases = [];
  polygons = replicate t.squares unit_square;
  glues = map (right_glue t) (range_with_len 0 t.squares) ++ map (upper_glue t) (range_with_len 0 t.squares);
}
