use Rattle.std.proofs.Common.{ap}
use Rattle.surface_text.specs.Spelling.{Content, content}
use Rattle.gluing.specs.Parts.{sides_of, line_number}
use Rattle.gluing.specs.Refusals.{glue_check}
use Rattle.gluing.proofs.Causes.{glue_found, refused_at}
use Rattle.gluing.proofs.checks.check_glues.Goals as goal

pub returns-in-Some-clause-refused : goal.returns-in-Some-clause-refused
returns-in-Some-clause-refused c =
    let file : Content = content c.args.file.now in
    refused_at (glue_check file) c.at_glue.result c.number.result (line_number c.in-Some.cause) c.in-Some.k c.at_glue.ensures c.number.ensures
    (glue_found file c.args.f.now (sides_of c.as_slice-2.result.now) c.requires.field (ap sides_of c.as_slice-2.ensures.value) c.as_slice-3.result.now c.as_slice-3.ensures.value
    (line_number c.in-Some.cause) c.in-Some.k c.in-Some.ensures)
