use Rattle.surface_text.proofs.Vectors.{vector_value}
use Rattle.surface_text.proofs.fronts.vector.Goals as goal

pub returns-in-Value : goal.returns-in-Value
returns-in-Value c =
    vector_value _ _ _ c.read_vector.ensures.value c.read_vector.ensures.large c.in-Value.is
    (c.is_bounded.ensures.0 c.if-is_bounded.true) (c.is_bounded-then-is_bounded.ensures.0 c.if-is_bounded-2.true)
