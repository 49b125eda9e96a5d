use Rattle.std.proofs.Common.{◌∙◌, ◌≤◌, List, length, ap, arith}
use Rattle.std.proofs.lemmas.List.{take_all}
use Rattle.surface_text.specs.declared.file.Polygon.{Polygon}
use Rattle.gluing.specs.Parts.{sides_of}
use Rattle.gluing.specs.Tables.{rows_of}
use Rattle.gluing.proofs.Rooms.{blank, IsTable-blank}
use Rattle.gluing.proofs.copies.empty_table.Goals as goal

pub returns : goal.returns
returns c =
    let past : length c.args.polygons.now ≤ c.loop-polygon.polygon-index = omega arith in
    IsTable-blank (sides_of c.args.polygons.now) (rows_of c.loop-polygon.table.items)
    (c.loop-polygon.invariant ∙ ap (λ (x : List Polygon). blank (sides_of x)) (take_all c.loop-polygon.polygon-index c.args.polygons.now past))
