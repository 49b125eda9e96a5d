use Rattle.std.proofs.Common.{refl}
use Rattle.std.proofs.lemmas.List.{take_rest}
use Rattle.plane.proofs.Wholes.{whole_minus, whole_plain}
use Rattle.plane.proofs.words.whole_of.Goals as goal

pub returns-then-starts_with : goal.returns-then-starts_with
returns-then-starts_with c = whole_minus _ _ (c.if-starts_with.ensures.0 refl) (rw (take_rest c.args.word.now 1) at c.read_negative.ensures)

pub returns-else-starts_with : goal.returns-else-starts_with
returns-else-starts_with c = whole_plain _ _ (λ first. let wrong = c.if-starts_with.ensures.1 first in absurd (cc)) c.read_nonnegative.ensures
