use Rattle.tri_core.proofs.Quadrilaterals.{from_opposite}
use Rattle.tri_core.proofs.quadrilateral.across.Goals as goal

pub returns-clause-opposite : goal.returns-clause-opposite
returns-clause-opposite c = from_opposite c.args.f.now _ _ c.in_ok-vec.ensures.exact
