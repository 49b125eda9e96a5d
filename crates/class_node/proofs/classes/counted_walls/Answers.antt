use Rattle.std.proofs.Common.{length, ap, sym, subst, arith}
use Rattle.class_node.specs.Classes.{HasWallsOver}
use Rattle.class_node.proofs.Counts.{few_of_class, has_count}
use Rattle.class_node.proofs.classes.counted_walls.Goals as goal

pub overflow_cast-count : goal.overflow_cast-count
overflow_cast-count c =
    let few = few_of_class c.args.f.now c.args.code.now c.in-Ok.walled.walls.items c.requires.own c.in-Ok.ensures.found.1 in
    let same = ap length c.as_slice.ensures.value in
    omega (arith, few, same)

pub returns-in-Ok-clause-count : goal.returns-in-Ok-clause-count
returns-in-Ok-clause-count c =
    subst (HasWallsOver c.args.f.now c.args.code.now) (sym (ap length c.as_slice.ensures.value))
    (has_count c.args.f.now c.args.code.now c.in-Ok.walled.walls.items c.requires.own c.in-Ok.ensures.found.1)
