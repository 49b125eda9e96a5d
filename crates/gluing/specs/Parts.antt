-- For private contracts alone: the polygons of a file as lists of vectors, and what a check answers.
use Rattle.std.specs.Prelude.{ℕ, List, map, ⊤}
use Rattle.plane.specs.declared.vec2.Vec2.{Vec2}
use Rattle.surface_text.specs.declared.file.Polygon.{Polygon}
use Rattle.gluing.specs.declared.fault.GlueFault.{GlueFault}
use Rattle.gluing.specs.declared.fault.GlueFault.TheVariants.{Bad, Memory}
use Rattle.gluing.specs.declared.lines.LineCause.{LineCause}
use Rattle.gluing.specs.declared.lines.LineCause.TheVariants.{Twice, NotOpposite}
use Rattle.gluing.specs.declared.polygons.PolygonCause.{PolygonCause}
use Rattle.gluing.specs.declared.polygons.PolygonCause.TheVariants.{NotClosed, Flat, NotConvex}
use Rattle.gluing.specs.Refusals.{Check, IsRefusedBy}

-- the sides of each polygon, without where they lie in memory
abbrev pub sides_of : List Polygon → List (List Vec2)
sides_of polygons = map (λ (polygon : Polygon). polygon.sides.items) polygons

-- the number of a cause at a polygon
abbrev pub polygon_number : PolygonCause → ℕ
polygon_number NotClosed = 15
polygon_number Flat = 16
polygon_number NotConvex = 17

-- the number of a cause at a glue line
abbrev pub line_number : LineCause → ℕ
line_number Twice = 18
line_number NotOpposite = 19

-- a refusal says what the check refuses for; want of memory says nothing
abbrev pub IsFaultBy : Check → GlueFault → Type 0
IsFaultBy check (Bad cause line) = IsRefusedBy check cause line
IsFaultBy check Memory = ⊤
