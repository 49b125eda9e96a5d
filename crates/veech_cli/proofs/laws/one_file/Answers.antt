use Rattle.veech_cli.proofs.Inputs.{one_file}
use Rattle.veech_cli.proofs.laws.one_file.Goals as goal

pub returns : goal.returns
returns c input file other one two = one_file input file other one two
