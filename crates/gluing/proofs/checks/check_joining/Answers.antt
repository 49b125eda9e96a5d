use Rattle.std.proofs.Common.{length, Some, None, refl}
use Rattle.surface_text.specs.Spelling.{Content, content}
use Rattle.gluing.specs.Gluings.{IsJoined}
use Rattle.gluing.specs.Neighbours.{AreRowsFull}
use Rattle.gluing.specs.Refusals.{joining_check}
use Rattle.gluing.specs.Tables.{rows_of}
use Rattle.gluing.proofs.Causes.{one_passes, one_found, refused_at}
use Rattle.gluing.proofs.Neighbours.{full_rows, joined_first}
use Rattle.gluing.proofs.Rooms.{length-rows}
use Rattle.gluing.proofs.checks.check_joining.Goals as goal

pub first_apart-requires-clause-full : goal.first_apart-requires-clause-full
first_apart-requires-clause-full c =
    let file : Content = content c.args.file.now in
    full_rows file.polygons file.glues (rows_of c.args.table.now) c.requires.table (λ p h. (c.requires.paired p h).0)

pub returns-in-Some-clause-refused : goal.returns-in-Some-clause-refused
returns-in-Some-clause-refused c =
    let file : Content = content c.args.file.now in
    let full : AreRowsFull (rows_of c.args.table.now) = full_rows file.polygons file.glues (rows_of c.args.table.now) c.requires.table (λ p h. (c.requires.paired p h).0) in
    let first = rw c.in-Some.is at c.in_ok-p.ensures in
    refused_at (joining_check file) c.at_polygon.result 22 22 c.in-Some.p c.at_polygon.ensures refl
    (one_found (IsJoined file.glues) (length file.polygons) 22 c.in-Some.p
    (joined_first file.polygons file.glues (rows_of c.args.table.now) _ (Some c.in-Some.p) (length-rows c.args.table.now) c.requires.table full first))

pub returns-in-None-clause-passes : goal.returns-in-None-clause-passes
returns-in-None-clause-passes c =
    let file : Content = content c.args.file.now in
    let full : AreRowsFull (rows_of c.args.table.now) = full_rows file.polygons file.glues (rows_of c.args.table.now) c.requires.table (λ p h. (c.requires.paired p h).0) in
    let first = rw c.in-None.is at c.in_ok-p.ensures in
    one_passes (IsJoined file.glues) (length file.polygons) 22
    (joined_first file.polygons file.glues (rows_of c.args.table.now) _ None (length-rows c.args.table.now) c.requires.table full first)
