use Rattle.class_node.proofs.Faults.{stuck_at_each}
use Rattle.class_node.proofs.classes.lead_of.Goals as goal

pub returns-in-Err-clause-fault : goal.returns-in-Err-clause-fault
returns-in-Err-clause-fault c = stuck_at_each c.args.f.now c.args.code.now c.args.wall c.in-Err.stop c.in-Err.ensures.fault
