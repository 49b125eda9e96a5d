use Rattle.plane.proofs.Quads.{quad_value, quad_is_large, quad_not}
use Rattle.plane.proofs.words.read_quad.Goals as goal

pub returns-clause-value : goal.returns-clause-value
returns-clause-value c = quad_value _ _ c.quad_of.ensures

pub returns-clause-large : goal.returns-clause-large
returns-clause-large c = quad_is_large _ _ c.quad_of.ensures

pub returns-clause-not : goal.returns-clause-not
returns-clause-not c = quad_not _ _ c.quad_of.ensures
