use Rattle.plane.proofs.Vectors.{vector_value, vector_large, vector_not}
use Rattle.plane.proofs.words.read_vector.Goals as goal

pub returns-clause-value : goal.returns-clause-value
returns-clause-value c = vector_value _ _ c.vector_of.ensures

pub returns-clause-large : goal.returns-clause-large
returns-clause-large c = vector_large _ _ c.vector_of.ensures

pub returns-clause-not : goal.returns-clause-not
returns-clause-not c = vector_not _ _ c.vector_of.ensures
