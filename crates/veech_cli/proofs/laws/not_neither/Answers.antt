use Rattle.veech_cli.proofs.Inputs.{not_neither}
use Rattle.veech_cli.proofs.laws.not_neither.Goals as goal

pub returns : goal.returns
returns c input no_file no_refusal = not_neither input no_file no_refusal
