-- For private contracts alone: the polygons as a graph, in which the neighbours of each are the polygons across its sides.
use Rattle.std.specs.Prelude.{◌≡◌, ℕ, ◌<◌, List, length, map, Option, Some, None}
use Rattle.gluing.specs.Gluings.{Name}
use Rattle.gluing.specs.Tables.{row_at, entry_of, IsRowFull}

-- each twin is a side of a polygon
abbrev pub HasTwins : List (List (Option Name)) → Type 0
HasTwins rows = (n twin : Name) → entry_of rows n ≡ Some twin → twin.0 < length rows

-- each side has a twin
abbrev pub AreRowsFull : List (List (Option Name)) → Type 0
AreRowsFull rows = (p : ℕ) → p < length rows → IsRowFull (row_at rows p)

-- the polygon across a side: that of its twin, or 256, the number of no polygon, where it has none
abbrev pub polygon_across : Option Name → ℕ
polygon_across (Some twin) = twin.0
polygon_across None = 256

-- the polygons across the sides of polygon p
abbrev pub neighbours_of : List (List (Option Name)) → ℕ → List ℕ
neighbours_of rows p = map polygon_across (row_at rows p)
