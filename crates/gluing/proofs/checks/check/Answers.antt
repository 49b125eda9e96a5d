use Rattle.surface_text.specs.Spelling.{content}
use Rattle.gluing.proofs.Causes.{surface_from}
use Rattle.gluing.proofs.checks.check.Goals as goal

pub returns-clause-valid : goal.returns-clause-valid
returns-clause-valid c =
    surface_from (content c.args.file.now) c.requires.limits c.in_ok-check_shapes.ensures.passes c.in_ok-table.ensures.passes c.in_ok-check_pairing.ensures.passes
    c.in_ok-check_triangles.ensures.passes c.in_ok-check_joining.ensures.passes
