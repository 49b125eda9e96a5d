use Rattle.returning.proofs.Theorem.{quotients_one}
use Rattle.returning.proofs.laws.quotients_have_determinant_one.Goals as goal

pub returns : goal.returns
returns c = λ t root base keys rows place first turns tree quotients is graph frame turns_are own are a listed.
    quotients_one t root base keys rows place first turns tree quotients c.starts_are_symmetries.ensures is graph frame turns_are own are a listed
