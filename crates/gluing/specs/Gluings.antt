-- Polygons glued side to side by translations: the surfaces that Veech and Bowman call translation surfaces.
use Rattle.std.specs.Prelude.{◌≡◌, ◌↔◌, ℕ, ◌+◌, ◌-◌, ◌<◌, ◌≤◌, ◌⊎◌, Bool, IsTrue, List, [], ◌∷◌, ◌++◌, length, take, get_or, Contains}
use Rattle.std.specs.List.{flat_map, AllByRecursion}
use Rattle.quad_field.specs.Quads.{quad_ops}
use Rattle.quad_field.specs.FieldNumber.{IsFieldNumber}
use Rattle.plane.specs.Vectors.{vector_sum}
use Rattle.plane.specs.declared.vec2.Vec2.{Vec2}
use Rattle.surface_text.specs.declared.file.Glue.{Glue}
use Rattle.surface_text.specs.Limits.{IsPolygon, NamesSides, IsThere}
use Rattle.surface_text.specs.Spelling.{Content}
use Rattle.gluing.specs.Polygons.{no_vector, polygon_at, side_at, IsProper}

-- the name of a side: the number of its polygon, and its own number there
abbrev pub Name : Type 0
Name = ℕ × ℕ

-- the side that a glue line names first
abbrev pub first_of : Glue → Name
first_of g = (g.p1, g.e1)

-- the side that a glue line names second
abbrev pub second_of : Glue → Name
second_of g = (g.p2, g.e2)

-- the sides that glue lines name, in order
abbrev pub names : List Glue → List Name
names glues = flat_map (λ g. first_of g ∷ second_of g ∷ []) glues

-- what stands past the last glue line: one that no file has, since a file has no polygon 256
abbrev pub no_glue : Glue
no_glue = record { p1 = 256; e1 = 0; p2 = 256; e2 = 0 }

-- glue line k
abbrev pub glue_at : List Glue → ℕ → Glue
glue_at glues k = get_or glues k no_glue

-- glue line k names a side that an earlier line has named, or one side twice
abbrev pub NamesTwice : List Glue → ℕ → Type 0
NamesTwice glues k =
    let g = glue_at glues k in
    Contains (names (take k glues)) (first_of g) ⊎ Contains (names (take k glues) ++ first_of g ∷ []) (second_of g)

-- the vectors of the two sides that a glue line names sum to zero
abbrev pub IsOpposite : ℕ → List (List Vec2) → Glue → Type 0
IsOpposite d polygons g =
    vector_sum (quad_ops d) (side_at d (polygon_at polygons g.p1) g.e1) (side_at d (polygon_at polygons g.p2) g.e2) ≡ no_vector d

-- every side of polygon p is named by a glue line
abbrev pub IsPaired : List (List Vec2) → List Glue → ℕ → Type 0
IsPaired polygons glues p = (e : ℕ) → IsThere polygons p e → Contains (names glues) (p, e)

-- how many triangles polygons are cut into: two less than the sides, for each polygon
abbrev pub triangle_count : List (List Vec2) → ℕ
triangle_count [] = 0
triangle_count (sides ∷ polygons) = (length sides - 2) + triangle_count polygons

-- a set of polygons that holds both polygons of each glue line or none of them
abbrev pub IsClosedUnderGlues : List Glue → (ℕ → Bool) → Type 0
IsClosedUnderGlues glues set = AllByRecursion (λ g. IsTrue (set g.p1) ↔ IsTrue (set g.p2)) glues

-- polygon p is joined to polygon 0: it is in the least set that holds polygon 0 and is closed under glues
abbrev pub IsJoined : List Glue → ℕ → Type 0
IsJoined glues p = (set : ℕ → Bool) → IsTrue (set 0) → IsClosedUnderGlues glues set → IsTrue (set p)

-- some glue line names the two sides, in either order
abbrev pub AreTwins : List Glue → Name → Name → Type 0
AreTwins glues one other =
    (k : ℕ) × (k < length glues)
    × (((first_of (glue_at glues k) ≡ one) × (second_of (glue_at glues k) ≡ other))
    ⊎ ((first_of (glue_at glues k) ≡ other) × (second_of (glue_at glues k) ≡ one)))

-- what contracts see of glued polygons: the number of their field, the polygons, and the glue lines that pair their sides
pub record Gluing : Type 0 where
  pub field : ℕ
  pub polygons : List (List Vec2)
  pub glues : List Glue

-- the polygons of a file, with its glue lines
abbrev pub gluing_of : Content → Gluing
gluing_of file = record { field = file.field; polygons = file.polygons; glues = file.glues }

-- proper polygons within the limits of a file, whose sides are paired by opposite vectors, each once, into one surface of at most 256 triangles
pub record IsGluing (g : Gluing) : Type 0 where
  pub field : IsFieldNumber g.field
  pub some_polygons : 1 ≤ length g.polygons
  pub bounded : AllByRecursion IsPolygon g.polygons
  pub proper : (p : ℕ) → p < length g.polygons → IsProper g.field (polygon_at g.polygons p)
  pub there : AllByRecursion (NamesSides g.polygons) g.glues
  pub once : (k : ℕ) → k < length g.glues → ¬ (NamesTwice g.glues k)
  pub opposite : (k : ℕ) → k < length g.glues → IsOpposite g.field g.polygons (glue_at g.glues k)
  pub paired : (p : ℕ) → p < length g.polygons → IsPaired g.polygons g.glues p
  pub few_triangles : triangle_count g.polygons ≤ 256
  pub joined : (p : ℕ) → p < length g.polygons → IsJoined g.glues p
