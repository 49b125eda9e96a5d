use Rattle.receipt_log.proofs.laws.rule_says.Goals as goal

pub returns : goal.returns
returns c = λ words views h. h
