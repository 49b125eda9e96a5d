use Rattle.class_shards.proofs.tests.meet_again.Goals as goal

pub meet-requires-clause-owes : goal.meet-requires-clause-owes
meet-requires-clause-owes g c κs within = (_, c.args.ticket.owes)
