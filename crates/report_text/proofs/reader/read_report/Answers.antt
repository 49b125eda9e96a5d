use Rattle.std.proofs.Common.{◌≡◌, sym, ◌∙◌}
use Rattle.report_text.specs.Reports.{report_text}
use Rattle.report_text.specs.Limits.{IsReport}
use Rattle.report_text.proofs.ReportTexts.{one_report}
use Rattle.report_text.proofs.Verdicts.{no_refusal, accepted, refused}
use Rattle.report_text.proofs.reader.read_report.Goals as goal

pub returns-clause-accepted : goal.returns-clause-accepted
returns-clause-accepted c d at codes mats e is =
    accepted c.args.bytes.now c.report_of.result
    (λ r. (c.args.bytes.now ≡ report_text r.field r.point r.codes.items r.mats.items) × IsReport r.field r.point r.codes.items r.mats.items)
    (λ r. (r.field ≡ d) × (r.point ≡ at) × (r.codes.items ≡ codes) × (r.mats.items ≡ mats)) c.report_of.ensures.read c.report_of.ensures.fault
    (λ r own. one_report r.field d r.point at r.codes.items codes r.mats.items mats (sym own.0 ∙ e)) d at codes mats e is

pub returns-clause-refused : goal.returns-clause-refused
returns-clause-refused c fault is firm =
    refused c.args.bytes.now c.report_of.result
    (λ r. (c.args.bytes.now ≡ report_text r.field r.point r.codes.items r.mats.items) × IsReport r.field r.point r.codes.items r.mats.items)
    c.report_of.ensures.read c.report_of.ensures.fault fault
    (λ r own. firm (no_refusal c.args.bytes.now r.field r.point r.codes.items r.mats.items fault own.0 own.1 is)) is firm
