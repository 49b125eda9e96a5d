use Rattle.std.proofs.Common.{◌-◌, length, arith}
use Rattle.plane.proofs.Wholes.{root_plus, root_minus}
use Rattle.plane.proofs.words.read_root.Goals as goal

pub returns-in-43 : goal.returns-in-43
returns-in-43 c =
    root_plus _ (length c.args.word.now - 1) _ (omega arith) (omega arith) c.if-word-last-ne114.false c.in-43.is c.read_positive.ensures

pub returns-in-45 : goal.returns-in-45
returns-in-45 c =
    root_minus _ (length c.args.word.now - 1) _ (omega arith) (omega arith) c.if-word-last-ne114.false c.in-45.is c.read_negative.ensures
