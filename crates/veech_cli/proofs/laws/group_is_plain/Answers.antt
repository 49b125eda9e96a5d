use Rattle.veech_cli.proofs.laws.group_is_plain.Goals as goal

pub returns : goal.returns
returns c flips limit workers input status text = ((λ owed. owed), (λ owed. owed))
