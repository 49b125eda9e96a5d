use Rattle.std.proofs.Common.{map, take}
use Rattle.surface_text.specs.declared.file.Polygon.{Polygon as PolygonValue}
use Rattle.ear_cut.specs.Steps.{seen, ArePolygonsCut}
use Rattle.ear_cut.proofs.polygons.cut_polygons.Given as goal

abbrev pub invariant-loop-p : goal.invariant-loop-p
invariant-loop-p l = ArePolygonsCut l.f (map (λ (polygon : PolygonValue). polygon.sides.items) (take l.p l.polygons)) (seen l.edges.items)
