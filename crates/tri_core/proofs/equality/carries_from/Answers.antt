use Rattle.std.specs.Prelude.{slice_index}
use Rattle.tri_core.proofs.Walks.{carries_alike}
use Rattle.tri_core.proofs.equality.carries_from.Goals as goal

pub returns-then-carry-clause-complete : goal.returns-then-carry-clause-complete
returns-then-carry-clause-complete c forth carries start =
    c.keeps.ensures.1 (carries_alike c.args.one.now c.args.two.now forth (slice_index c.carry.new.images) c.requires.one (c.carry.ensures.carried forth carries start).1 carries)

pub returns-else-carry-clause-complete : goal.returns-else-carry-clause-complete
returns-else-carry-clause-complete c forth carries start = (c.carry.ensures.carried forth carries start).0
