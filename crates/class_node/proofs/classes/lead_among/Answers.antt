use Rattle.class_node.proofs.Faults.{stuck_behind}
use Rattle.class_node.proofs.classes.lead_among.Goals as goal

pub returns-clause-fault : goal.returns-clause-fault
returns-clause-fault c =
    stuck_behind c.args.f.now c.args.code.now c.args.wall c.in-Ok.tri.halves c.in-Err-canon_behind.stop c.in-Ok.ensures.behind c.in-Err-canon_behind.ensures.fault
