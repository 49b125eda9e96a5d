use Rattle.std.proofs.Common.{◌≡◌, ◌++◌, [], map, drop}
use Rattle.surface_text.specs.declared.file.Polygon.{Polygon}
use Rattle.surface_text.specs.Spelling.{Line, lines_then}
use Rattle.surface_text.proofs.writer.put_polygons.Given as goal

abbrev pub invariant-loop-polygon : goal.invariant-loop-polygon
invariant-loop-polygon l =
    l.initial.out.items ++ lines_then (map (λ (polygon : Polygon). Line.polygon polygon.sides.items) l.polygons) []
    ≡ l.out.items ++ lines_then (map (λ (polygon : Polygon). Line.polygon polygon.sides.items) (drop l.polygon-index l.polygons)) []
