-- How polygons are cut into triangles, ear by ear (G. H. Meisters, Polygons have ears, American Mathematical Monthly 82, 1975).
use Rattle.std.specs.Prelude.{◌≡◌, ℕ, ◌+◌, ◌%◌, ◌<◌, List, [], ◌∷◌, ◌++◌, length, map, remove, slice_index_or, slice_set}
use Rattle.std.specs.List.{flat_map}
use Rattle.quad_field.specs.Quads.{quad_ops, IsPositive}
use Rattle.quad_field.specs.declared.quad.Quad.{Quad}
use Rattle.plane.specs.Vectors.{Vector, vector_sum, opposite_vector, vector}
use Rattle.plane.specs.declared.vec2.Vec2.{Vec2}
use Rattle.surface_text.specs.declared.file.Glue.{Glue}
use Rattle.tri_core.specs.declared.half.Half.{Half}
use Rattle.tri_core.specs.HalfEdges.{twin_at}
use Rattle.gluing.specs.Polygons.{no_vector, side_at, side_after, corner}
use Rattle.gluing.specs.Gluings.{Gluing, AreTwins}

-- where a side comes from
pub data Origin : Type 0 where
  -- side e of polygon p
  outer : ℕ → ℕ → Origin
  -- the chord that took the place of the two sides that triangle t cut off
  chord : ℕ → Origin
  -- the third half-edge of triangle t, the opposite of that chord
  back : ℕ → Origin

-- a side of a polygon that is being cut: its vector, and where it comes from
pub record Side : Type 0 where
  pub vec : Vector Quad
  pub origin : Origin

-- a triangle that was cut off: its three sides in order
pub record Piece : Type 0 where
  pub first : Side
  pub second : Side
  pub third : Side

-- the vectors of sides
abbrev pub vectors_of : List Side → List (Vector Quad)
vectors_of sides = map (λ (side : Side). side.vec) sides

-- some corner has a positive determinant
abbrev pub HasPositiveCorner : ℕ → List (Vector Quad) → Type 0
HasPositiveCorner d sides = (i : ℕ) × (i < length sides) × IsPositive d (corner d sides i)

-- the sum of side i and the side after it
abbrev pub chord_at : ℕ → List (Vector Quad) → ℕ → Vector Quad
chord_at d sides i = vector_sum (quad_ops d) (side_at d sides i) (side_after d sides i)

-- the sides with a new one in place of side i, and without the side after it, round the end
abbrev pub replaced : {X : Type 0} → List X → ℕ → X → List X
replaced sides i new = remove (slice_set sides i new) ((i + 1) % length sides)

-- corner i is an ear: its determinant is positive, and cutting it leaves a list with some positive corner
abbrev pub IsEar : ℕ → List (Vector Quad) → ℕ → Type 0
IsEar d sides i =
    (i < length sides) × IsPositive d (corner d sides i) × HasPositiveCorner d (replaced sides i (chord_at d sides i))

-- corner i is the least ear
abbrev pub IsLeastEar : ℕ → List (Vector Quad) → ℕ → Type 0
IsLeastEar d sides i = IsEar d sides i × ((k : ℕ) → k < i → ¬ (IsEar d sides k))

-- what is read past the end of a list of sides; no definition asks it there
abbrev pub no_one : ℕ → Side
no_one d = record { vec = no_vector d; origin = Origin.outer 0 0 }

-- side i of a polygon that is being cut
abbrev pub at : ℕ → List Side → ℕ → Side
at d sides i = slice_index_or sides i (no_one d)

-- the side after side i, round the end
abbrev pub after : ℕ → List Side → ℕ → Side
after d sides i = at d sides ((i + 1) % length sides)

-- triangle t, cut off at corner i: the two sides, and the opposite of their sum
abbrev pub ear : ℕ → ℕ → List Side → ℕ → Piece
ear d t sides i = record {
  first = at d sides i;
  second = after d sides i;
  third = record { vec = opposite_vector (quad_ops d) (chord_at d (vectors_of sides) i); origin = Origin.back t };
}

-- what is left of the sides when triangle t is cut off at corner i: the sum of the two stands in their place
abbrev pub left_over : ℕ → ℕ → List Side → ℕ → List Side
left_over d t sides i = replaced sides i (record { vec = chord_at d (vectors_of sides) i; origin = Origin.chord t })

-- the sides are cut into these triangles, numbered from t on: the least ear first, while there are more than three sides
abbrev pub IsCut : ℕ → ℕ → List Side → List Piece → Type 0
IsCut d t sides [] = ⊥
IsCut d t sides (piece ∷ []) = sides ≡ piece.first ∷ piece.second ∷ piece.third ∷ []
IsCut d t sides (piece ∷ next ∷ pieces) =
    (3 < length sides)
    × ((i : ℕ) × IsLeastEar d (vectors_of sides) i × (piece ≡ ear d t sides i) × IsCut d (t + 1) (left_over d t sides i) (next ∷ pieces))

-- the sides of polygon p, from side e on
abbrev pub outer_sides : ℕ → ℕ → List Vec2 → List Side
outer_sides p e [] = []
outer_sides p e (v ∷ sides) = record { vec = vector v; origin = Origin.outer p e } ∷ outer_sides p (e + 1) sides

-- the polygons, from polygon p on, are cut one after another into these triangles, numbered from t on
abbrev pub AreCut : ℕ → ℕ → ℕ → List (List Vec2) → List Piece → Type 0
AreCut d p t [] pieces = pieces ≡ []
AreCut d p t (sides ∷ polygons) pieces =
    (own : List Piece) × (more : List Piece) × (pieces ≡ own ++ more)
    × IsCut d t (outer_sides p 0 sides) own × AreCut d (p + 1) (t + length own) polygons more

-- the sides of triangles, in order
abbrev pub sides_of : List Piece → List Side
sides_of pieces = flat_map (λ (piece : Piece). piece.first ∷ piece.second ∷ piece.third ∷ []) pieces

-- two sides are twins: sides of polygons that are glued, or a chord and its opposite
abbrev pub ArePartners : List Glue → Origin → Origin → Type 0
ArePartners glues (Origin.outer p e) (Origin.outer q f) = AreTwins glues (p, e) (q, f)
ArePartners glues (Origin.chord t) (Origin.back u) = t ≡ u
ArePartners glues (Origin.back t) (Origin.chord u) = t ≡ u
ArePartners glues one other = ⊥

-- the half-edges of glued polygons that are cut into triangles
pub record IsEarCutting (g : Gluing) (halves : List Half) : Type 0 where
  pub pieces : List Piece
  pub cut : AreCut g.field 0 0 g.polygons pieces
  pub vectors : map (λ (half : Half). vector half.vec) halves ≡ vectors_of (sides_of pieces)
  pub twins : (h : ℕ) → h < length halves
      → (twin_at halves h < length halves)
      × ArePartners g.glues (at g.field (sides_of pieces) h).origin (at g.field (sides_of pieces) (twin_at halves h)).origin
