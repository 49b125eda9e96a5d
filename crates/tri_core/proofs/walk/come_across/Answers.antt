use Rattle.tri_core.proofs.Walks.{walk_more}
use Rattle.tri_core.proofs.walk.come_across.Goals as goal

pub returns-then-not-entered-t-clause-walk : goal.returns-then-not-entered-t-clause-walk
returns-then-not-entered-t-clause-walk c =
    rw c.push_reserved.ensures.items
    (walk_more c.args.halves.now c.args.entered.now c.args.walk.now.items c.args.h c.requires.half c.requires.pairs c.requires.walk c.requires.here)
