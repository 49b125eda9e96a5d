use Rattle.std.proofs.Common.{arith}
use Rattle.std.proofs.lemmas.Grind.{common_steps}
use Rattle.plane.proofs.Wholes.{whole_text-signed}
use Rattle.plane.proofs.texts.append_whole.Goals as goal

pub returns-clause-items : goal.returns-clause-items
returns-clause-items c = let same = whole_text-signed c.args.n c.ranges.n in grind (arith, common_steps, same)
