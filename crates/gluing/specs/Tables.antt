-- For private contracts alone: the table of twins, a row for each polygon, in it an entry for each side, which is the side's twin once a glue line names it.
use Rattle.std.specs.Prelude.{◌≡◌, ℕ, ◌<◌, ◌⊎◌, List, [], ◌∷◌, length, map, get_or, Option, Some, None, Vec, slice_set}
use Rattle.plane.specs.declared.vec2.Vec2.{Vec2}
use Rattle.surface_text.specs.declared.file.Glue.{Glue}
use Rattle.gluing.specs.Gluings.{Name, first_of, second_of, glue_at, IsOpposite, AreTwins}
use Rattle.gluing.specs.Refusals.{Condition}

-- the rows without where they lie in memory
abbrev pub rows_of : {Z : Type 0} → List (Vec (Option Name) Z) → List (List (Option Name))
rows_of {Z} table = map (λ (row : Vec (Option Name) Z). row.items) table

-- row p
abbrev pub row_at : List (List (Option Name)) → ℕ → List (Option Name)
row_at rows p = get_or rows p []

-- the entry of a side
abbrev pub entry_of : List (List (Option Name)) → Name → Option Name
entry_of rows n = get_or (row_at rows n.0) n.1 None

-- there is an entry for this side
abbrev pub HasEntry : List (List (Option Name)) → Name → Type 0
HasEntry rows n = (n.0 < length rows) × (n.1 < length (row_at rows n.0))

-- the table with the twin of one more side
abbrev pub with_twin : List (List (Option Name)) → Name → Name → List (List (Option Name))
with_twin rows n twin = slice_set rows n.0 (slice_set (row_at rows n.0) n.1 (Some twin))

-- the table with the twins of the two sides of one more glue line
abbrev pub with_glue : List (List (Option Name)) → Glue → List (List (Option Name))
with_glue rows g = with_twin (with_twin rows (first_of g) (second_of g)) (second_of g) (first_of g)

-- a side of the glue line has a twin already, or the line names one side twice
abbrev pub IsRepeated : List (List (Option Name)) → Glue → Type 0
IsRepeated rows g =
    ¬ (entry_of rows (first_of g) ≡ None) ⊎ (¬ (entry_of rows (second_of g) ≡ None) ⊎ (first_of g ≡ second_of g))

-- as many rows as polygons, and as many entries as sides
pub record HasShape (polygons : List (List Vec2)) (rows : List (List (Option Name))) : Type 0 where
  pub as_many : length rows ≡ length polygons
  pub as_long : (p : ℕ) → length (row_at rows p) ≡ length (get_or polygons p [])

-- the table of glue lines: the two sides of each are twins there, and no others
pub record IsTable (polygons : List (List Vec2)) (glues : List Glue) (rows : List (List (Option Name))) : Type 0 where
  pub shape : HasShape polygons rows
  pub first : (k : ℕ) → k < length glues → entry_of rows (first_of (glue_at glues k)) ≡ Some (second_of (glue_at glues k))
  pub second : (k : ℕ) → k < length glues → entry_of rows (second_of (glue_at glues k)) ≡ Some (first_of (glue_at glues k))
  pub twins : (n twin : Name) → entry_of rows n ≡ Some twin → AreTwins glues n twin

-- where the table stands so, a glue line names no side that has a twin, and two sides with opposite vectors
abbrev pub line_conditions : ℕ → List (List Vec2) → List (List (Option Name)) → Glue → List Condition
line_conditions d polygons rows g = (18, ¬ (IsRepeated rows g)) ∷ (19, IsOpposite d polygons g) ∷ []

-- the first of n places where P doesn't hold, or that there is none
abbrev pub IsFirstWithout : (ℕ → Type 0) → ℕ → Option ℕ → Type 0
IsFirstWithout P n None = (k : ℕ) → k < n → P k
IsFirstWithout P n (Some place) = (place < n) × ((k : ℕ) → k < place → P k) × ¬ (P place)

-- each entry of a row is filled
abbrev pub IsRowFull : List (Option Name) → Type 0
IsRowFull row = (e : ℕ) → e < length row → ¬ (get_or row e None ≡ None)
