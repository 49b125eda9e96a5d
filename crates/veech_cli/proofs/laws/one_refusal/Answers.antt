use Rattle.veech_cli.proofs.Inputs.{one_refusal}
use Rattle.veech_cli.proofs.laws.one_refusal.Goals as goal

pub returns : goal.returns
returns c input cause other line place one two = one_refusal input cause other line place one two
