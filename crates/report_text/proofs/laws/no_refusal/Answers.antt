use Rattle.report_text.proofs.Verdicts as verdicts
use Rattle.report_text.proofs.laws.no_refusal.Goals as goal

pub returns : goal.returns
returns c bytes d at codes mats fault e is refused = verdicts.no_refusal bytes d at codes mats fault e is refused
