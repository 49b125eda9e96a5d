use Rattle.veech_cli.proofs.Inputs.{one_answer}
use Rattle.veech_cli.proofs.laws.one_answer.Goals as goal

pub returns : goal.returns
returns c command input status other text line one two = one_answer command input status other text line one two
