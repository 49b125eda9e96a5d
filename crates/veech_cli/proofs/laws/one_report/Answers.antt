use Rattle.veech_cli.proofs.Reported.{one_report, one_trial}
use Rattle.veech_cli.proofs.laws.one_report.Goals as goal

pub returns : goal.returns
returns c = record {
  plain = λ flips limit other summary input text line one two. one_report flips limit other summary input text line one two;
  trial = λ flips limit other number input text line one two. one_trial flips limit other number input text line one two;
}
