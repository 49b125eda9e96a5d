use Rattle.report_text.proofs.Verdicts as verdicts
use Rattle.report_text.proofs.laws.one_refusal.Goals as goal

pub returns : goal.returns
returns c bytes fault other one two firm hard = verdicts.one_refusal bytes fault other one two firm hard
