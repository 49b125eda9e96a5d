use Rattle.std.proofs.Common.{length, Some, None, refl}
use Rattle.surface_text.specs.Spelling.{Content, content}
use Rattle.gluing.specs.Gluings.{IsPaired}
use Rattle.gluing.specs.Refusals.{pairing_check}
use Rattle.gluing.specs.Tables.{rows_of}
use Rattle.gluing.proofs.Causes.{one_passes, one_found, refused_at}
use Rattle.gluing.proofs.Rooms.{length-rows}
use Rattle.gluing.proofs.Neighbours.{paired_first}
use Rattle.gluing.proofs.checks.check_pairing.Goals as goal

pub returns-in-Some-clause-refused : goal.returns-in-Some-clause-refused
returns-in-Some-clause-refused c =
    let file : Content = content c.args.file.now in
    refused_at (pairing_check file) c.at_polygon.result 20 20 c.in-Some.p c.at_polygon.ensures refl
    (one_found (IsPaired file.polygons file.glues) (length file.polygons) 20 c.in-Some.p
    (paired_first file.polygons file.glues (rows_of c.args.table.now) _ (Some c.in-Some.p) (length-rows c.args.table.now) c.requires.table c.in-Some.ensures))

pub returns-in-None-clause-passes : goal.returns-in-None-clause-passes
returns-in-None-clause-passes c =
    let file : Content = content c.args.file.now in
    one_passes (IsPaired file.polygons file.glues) (length file.polygons) 20
    (paired_first file.polygons file.glues (rows_of c.args.table.now) _ None (length-rows c.args.table.now) c.requires.table c.in-None.ensures)
