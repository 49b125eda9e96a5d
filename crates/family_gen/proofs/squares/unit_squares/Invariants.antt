use Rattle.std.proofs.Common.{◌≡◌, map, replicate}
use Rattle.surface_text.specs.declared.file.Polygon.{Polygon}
use Rattle.family_gen.specs.Tilings.{unit_square}
use Rattle.family_gen.proofs.squares.unit_squares.Given as goal

-- the squares so far
abbrev pub invariant-loop-i : goal.invariant-loop-i
invariant-loop-i l = map (λ (polygon : Polygon). polygon.sides.items) l.polygons.items ≡ replicate l._i unit_square
