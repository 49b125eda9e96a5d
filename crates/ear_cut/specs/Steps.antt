-- What the steps of the cutting give; only private clauses cite it.
use Rattle.std.specs.Prelude.{◌≡◌, ℕ, ◌+◌, ◌%◌, ◌≤◌, List, [], ◌∷◌, ◌++◌, length, map, unsigned_abs, ⊤}
use Rattle.std.specs.List.{AllByRecursion}
use Rattle.quad_field.specs.declared.quad.Quad.{Quad}
use Rattle.quad_field.specs.Quads.{quad_ops}
use Rattle.plane.specs.Vectors.{Vector, vector, det}
use Rattle.plane.specs.declared.vec2.Vec2.{Vec2}
use Rattle.surface_text.specs.Limits.{IsThere}
use Rattle.gluing.specs.Polygons.{side_after}
use Rattle.ear_cut.specs.Cuttings.{Origin, Side, Piece, AreCut, IsCut, IsLeastEar, at, chord_at, ear, left_over, sides_of, vectors_of}
use Rattle.ear_cut.specs.Cuttable.{IsCuttable}
use Rattle.ear_cut.specs.declared.side.Edge.{Edge}
use Rattle.ear_cut.specs.declared.side.Source.{Source}
use Rattle.ear_cut.specs.declared.side.Source.TheVariants.{Outer, Chord, Back}

-- where an edge comes from
abbrev pub origin_of : Source → Origin
origin_of (Outer p e) = Origin.outer p e
origin_of (Chord t) = Origin.chord t
origin_of (Back t) = Origin.back t

-- the side that an edge is
abbrev pub side_of : Edge → Side
side_of edge = record { vec = vector edge.vec; origin = origin_of edge.source }

-- the sides that edges are
abbrev pub seen : List Edge → List Side
seen edges = map side_of edges

-- the determinant of the chord at corner i and the side behind it
abbrev pub chord_corner : ℕ → List (Vector Quad) → ℕ → Quad
chord_corner d sides i = det (quad_ops d) (chord_at d sides i) (side_after d sides ((i + 1) % length sides))

-- the size of a vector: the absolute values of its four parts, added
abbrev pub size_of : Vector Quad → ℕ
size_of v = unsigned_abs v.0.a + unsigned_abs v.0.b + unsigned_abs v.1.a + unsigned_abs v.1.b

-- the weights of the elements of a list, added
abbrev pub total : {X : Type 0} → (X → ℕ) → List X → ℕ
total weight [] = 0
total weight (x ∷ xs) = weight x + total weight xs

-- the sizes of vectors, added
abbrev pub total_size : List (Vector Quad) → ℕ
total_size vectors = total size_of vectors

-- the size of a vector is at most what those of 258 vectors of bounded parts can add up to
abbrev pub IsSmall : Vector Quad → Type 0
IsSmall v = size_of v ≤ 1032000000000

-- the sizes of all vectors together are at most what 258 vectors of bounded parts can add up to
abbrev pub AreSmall : List (Vector Quad) → Type 0
AreSmall vectors = total_size vectors ≤ 1032000000000

-- a polygon of at least three sides that is small and can be cut
pub record IsReady (d : ℕ) (sides : List Vec2) : Type 0 where
  pub long : 3 ≤ length sides
  pub small : AreSmall (map vector sides)
  pub cuttable : IsCuttable d (map vector sides)

-- polygons of at least three sides each that are small and can be cut
abbrev pub AreCuttable : ℕ → List (List Vec2) → Type 0
AreCuttable d polygons = AllByRecursion (IsReady d) polygons

-- the least ear was cut off: the sides of its triangle were appended, and this is left
pub record IsEarCut (d t : ℕ) (sides before behind left : List Side) : Type 0 where
  pub place : ℕ
  pub least : IsLeastEar d (vectors_of sides) place
  pub appended : behind ≡ before ++ sides_of (ear d t sides place ∷ [])
  pub rest : left ≡ left_over d t sides place

-- a polygon was cut, and the sides of its triangles were appended
pub record IsPolygonCut (d t : ℕ) (sides before behind : List Side) : Type 0 where
  pub own : List Piece
  pub cut : IsCut d t sides own
  pub appended : behind ≡ before ++ sides_of own

-- the sides of the triangles that polygons are cut into
pub record ArePolygonsCut (d : ℕ) (polygons : List (List Vec2)) (sides : List Side) : Type 0 where
  pub pieces : List Piece
  pub cut : AreCut d 0 0 polygons pieces
  pub all : sides ≡ sides_of pieces

-- an outer side is one of a polygon's
abbrev pub IsSourceThere : List (List Vec2) → Origin → Type 0
IsSourceThere polygons (Origin.outer p e) = IsThere polygons p e
IsSourceThere polygons (Origin.chord t) = ⊤
IsSourceThere polygons (Origin.back t) = ⊤

-- where side h comes from
abbrev pub source_at : List Side → ℕ → Origin
source_at sides h = (at 2 sides h).origin
