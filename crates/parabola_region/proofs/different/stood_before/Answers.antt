use Rattle.parabola_region.proofs.DifferentForms.{stood_from}
use Rattle.parabola_region.proofs.different.stood_before.Goals as goal

pub returns : goal.returns
returns c = stood_from c.args.forms.now c.args.different.now.firsts.items c.args.different.now.places.items c.requires.different c.args.i c.requires.inside c.index.result.now c.index-2.result.now c.index.ensures c.index-2.ensures
