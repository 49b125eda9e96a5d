use Rattle.plane.proofs.Naturals.{natural_value, natural_large, natural_not}
use Rattle.plane.proofs.words.read_natural.Goals as goal

pub returns-clause-value : goal.returns-clause-value
returns-clause-value c = natural_value _ _ c.natural_of.ensures

pub returns-clause-large : goal.returns-clause-large
returns-clause-large c = natural_large _ _ c.natural_of.ensures

pub returns-clause-not : goal.returns-clause-not
returns-clause-not c = natural_not _ _ c.natural_of.ensures
