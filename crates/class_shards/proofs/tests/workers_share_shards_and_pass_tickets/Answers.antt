use Rattle.class_shards.proofs.CallerLemmas.{named_at}
use Rattle.class_shards.proofs.tests.workers_share_shards_and_pass_tickets.Goals as goal

pub two_workers-requires-clause-logs : goal.two_workers-requires-clause-logs
two_workers-requires-clause-logs g c κs = (c.in_ok-logs.ensures.len, λ i l at. (named_at c.in_ok-logs.logs.items i l at, c.in_ok-logs.ensures.empty i l at))
