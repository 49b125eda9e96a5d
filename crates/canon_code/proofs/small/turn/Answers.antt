use Rattle.std.proofs.Common.{◌∙◌}
use mathlib.Core.Path.{ap₂}
use Rattle.quad_field.specs.Quads.{quad_ops}
use Rattle.canon_code.proofs.small.turn.Goals as goal

pub returns : goal.returns
returns c = c.in_ok-turn.ensures c.args.d ∙ ap₂ (quad_ops c.args.d).sub c.in_ok-first.ensures c.in_ok-second.ensures
