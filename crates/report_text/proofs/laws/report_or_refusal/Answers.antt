use Rattle.report_text.proofs.Neither.{neither}
use Rattle.report_text.proofs.laws.report_or_refusal.Goals as goal

pub returns : goal.returns
returns c bytes no_report free = neither bytes no_report free
