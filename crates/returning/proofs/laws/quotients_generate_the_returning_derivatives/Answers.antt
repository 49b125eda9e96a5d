use Rattle.returning.proofs.Theorem.{quotients_generate}
use Rattle.returning.proofs.laws.quotients_generate_the_returning_derivatives.Goals as goal

pub returns : goal.returns
returns c = λ t root base keys rows place first turns tree quotients is graph frame turns_are own are a.
    quotients_generate t root base keys rows place first turns tree quotients c.starts_are_symmetries.ensures is graph frame turns_are own are a
