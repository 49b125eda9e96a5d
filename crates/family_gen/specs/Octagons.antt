-- Regular octagons with opposite sides glued.
use Rattle.std.specs.Prelude.{ℕ, ◌+◌, ℤ, pos, negsuc, List, [], ◌∷◌, map}
use Rattle.quad_field.specs.Quads.{quad, scaled}
use Rattle.plane.specs.declared.vec2.Vec2.{Vec2}
use Rattle.surface_text.specs.declared.file.Glue.{Glue}
use Rattle.surface_text.specs.Spelling.{Content}

-- the vector (a + b√2, c + d√2)
abbrev pub vector_of : ℤ → ℤ → ℤ → ℤ → Vec2
vector_of a b c d = record { s = quad a b; t = quad c d }

-- the regular octagon of side 2, whose sides turn by an eighth from (2, 0) on
abbrev pub octagon : List Vec2
octagon =
    vector_of (pos 2) (pos 0) (pos 0) (pos 0)
    ∷ vector_of (pos 0) (pos 1) (pos 0) (pos 1)
    ∷ vector_of (pos 0) (pos 0) (pos 2) (pos 0)
    ∷ vector_of (pos 0) (negsuc 0) (pos 0) (pos 1)
    ∷ vector_of (negsuc 1) (pos 0) (pos 0) (pos 0)
    ∷ vector_of (pos 0) (negsuc 0) (pos 0) (negsuc 0)
    ∷ vector_of (pos 0) (pos 0) (negsuc 1) (pos 0)
    ∷ vector_of (pos 0) (pos 1) (pos 0) (negsuc 0)
    ∷ []

-- m times a vector
abbrev pub multiple : ℕ → Vec2 → Vec2
multiple m v = record { s = scaled (pos m) v.s; t = scaled (pos m) v.t }

-- side e of the one polygon is glued to the opposite side
abbrev pub opposite_glue : ℕ → Glue
opposite_glue e = record { p1 = 0; e1 = e; p2 = 0; e2 = e + 4 }

-- the file of the octagon of side 2m, over the field of √2
abbrev pub octagon_file : ℕ → Content
octagon_file m = record {
  field = 2;
  bases = [];
  polygons = map (multiple m) octagon ∷ [];
  glues = opposite_glue 0 ∷ opposite_glue 1 ∷ opposite_glue 2 ∷ opposite_glue 3 ∷ [];
}
