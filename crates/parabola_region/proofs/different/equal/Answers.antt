use Rattle.std.proofs.Common.{◌∙◌, sym}
use Rattle.parabola_region.proofs.DifferentForms.{equal_from}
use Rattle.parabola_region.proofs.different.equal.Goals as goal

pub returns : goal.returns
returns c = λ own. equal_from c.args.one.now c.args.two.now (sym c.eq.ensures ∙ own)
