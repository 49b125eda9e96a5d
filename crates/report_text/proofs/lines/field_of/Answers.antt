use Rattle.report_text.proofs.Fields.{field_iff}
use Rattle.report_text.proofs.lines.field_of.Goals as goal

pub returns-in-Value : goal.returns-in-Value
returns-in-Value c = field_iff c.args.word.now c.in-Value.d c.make.result ((c.read_natural.ensures.value c.in-Value.d).0 c.in-Value.is).0 c.make.ensures
