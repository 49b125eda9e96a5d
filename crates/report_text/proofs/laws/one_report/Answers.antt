use Rattle.report_text.proofs.ReportTexts as texts
use Rattle.report_text.proofs.laws.one_report.Goals as goal

pub returns : goal.returns
returns c d e at to codes others mats more same = texts.one_report d e at to codes others mats more same
