use Rattle.hinge_form.proofs.Hinged.{convex_at}
use Rattle.hinge_form.proofs.laws.convex_where_not_positive.Goals as goal

pub returns : goal.returns
returns c = convex_at
