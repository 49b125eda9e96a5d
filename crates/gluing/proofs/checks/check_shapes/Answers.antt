use Rattle.std.proofs.Common.{ap}
use Rattle.surface_text.specs.Spelling.{Content, content}
use Rattle.gluing.specs.Parts.{sides_of, polygon_number}
use Rattle.gluing.specs.Refusals.{shape_check}
use Rattle.gluing.proofs.Causes.{shapes_pass, shape_found, refused_at}
use Rattle.gluing.proofs.checks.check_shapes.Goals as goal

pub returns-in-Some-clause-refused : goal.returns-in-Some-clause-refused
returns-in-Some-clause-refused c =
    let file : Content = content c.args.file.now in
    refused_at (shape_check file) c.at_polygon.result c.number.result (polygon_number c.in-Some.cause) c.in-Some.p c.at_polygon.ensures c.number.ensures
    (shape_found file c.args.f.now (sides_of c.as_slice.result.now) c.requires.field (ap sides_of c.as_slice.ensures.value) (polygon_number c.in-Some.cause) c.in-Some.p c.in-Some.ensures)

pub returns-in-None-clause-passes : goal.returns-in-None-clause-passes
returns-in-None-clause-passes c =
    shapes_pass (content c.args.file.now) c.args.f.now (sides_of c.as_slice.result.now) c.requires.field (ap sides_of c.as_slice.ensures.value) c.in-None.ensures
