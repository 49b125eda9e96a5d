use Rattle.plane.proofs.Wholes.{whole_value, whole_large, whole_not}
use Rattle.plane.proofs.words.read_whole.Goals as goal

pub returns-clause-value : goal.returns-clause-value
returns-clause-value c = whole_value _ _ c.whole_of.ensures

pub returns-clause-large : goal.returns-clause-large
returns-clause-large c = whole_large _ _ c.whole_of.ensures

pub returns-clause-not : goal.returns-clause-not
returns-clause-not c = whole_not _ _ c.whole_of.ensures
