use Rattle.veech_cli.proofs.Closed.{closed, closed_trial}
use Rattle.veech_cli.proofs.laws.reports_are_closed.Goals as goal

pub returns : goal.returns
returns c = record {
  plain = λ flips limit summary input text owed.
      closed c.quotients_generate_the_returning_derivatives.ensures c.quotients_have_determinant_one.ensures flips limit summary input text owed;
  trial = λ flips limit number input text owed.
      closed_trial c.quotients_generate_the_returning_derivatives.ensures c.quotients_have_determinant_one.ensures flips limit number input text owed;
}
