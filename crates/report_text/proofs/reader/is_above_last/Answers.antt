use Rattle.std.proofs.Common.{sym, ◌∙◌, ap, refl}
use Rattle.std.specs.Ordering.{is_lt}
use Rattle.report_text.proofs.Order.{above_some, above_none}
use Rattle.report_text.proofs.reader.is_above_last.Goals as goal

pub returns-in-Some : goal.returns-in-Some
returns-in-Some c = above_some c.args.codes.now c.in-Some.last.now c.args.code.now c.is_lt.result (sym c.in-Some.ensures.value) (c.is_lt.ensures ∙ ap is_lt c.cmp.ensures)

pub returns-in-None : goal.returns-in-None
returns-in-None c = (λ test. above_none c.args.codes.now c.args.code.now (sym c.in-None.ensures.value), λ above. refl)
