use Rattle.hinge_form.proofs.RootHinges.{difference_read}
use Rattle.hinge_form.proofs.rooted.long_difference.Goals as goal

pub returns : goal.returns
returns c = difference_read c.args.x c.args.y c.requires.first c.requires.second
