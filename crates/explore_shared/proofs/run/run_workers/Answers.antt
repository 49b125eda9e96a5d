use Rattle.explore_shared.proofs.run.run_workers.Goals as goal

pub returns-clause-fault : goal.returns-clause-fault
returns-clause-fault g c key fault e = c.fault_of.ensures.fault key fault (cc)
