use Rattle.std.proofs.Common.{codes}
use Rattle.std.proofs.lemmas.Bool.Decides.{Decides-eqb}
use Rattle.std.proofs.lemmas.Slice.Eq.{strip_prefix_is}
use Rattle.report_text.proofs.lines.end_line.Goals as goal

pub returns : goal.returns
returns c = strip_prefix_is Decides-eqb c.args.rest.now (codes "end\n") c.strip_prefix.result c.strip_prefix.ensures.cases
