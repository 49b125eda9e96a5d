use Rattle.veech_cli.proofs.Inputs.{not_both}
use Rattle.veech_cli.proofs.laws.not_both.Goals as goal

pub returns : goal.returns
returns c input file cause line accepted refused = not_both input file cause line accepted refused
