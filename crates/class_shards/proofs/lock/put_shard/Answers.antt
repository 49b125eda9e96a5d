use Rattle.std.proofs.Common.{arith}
use Rattle.class_shards.specs.Keepers.{keeper_number}
use Rattle.class_shards.proofs.Meetings.{order_more}
use Rattle.class_shards.proofs.lock.put_shard.Goals as goal

pub returns-clause-order : goal.returns-clause-order
returns-clause-order g c = order_more (λ s. keeper_number s.keeper) c.args.shards.now.items c.push_reserved.new.self.items c.into_inner-shard.result.shard c.push_reserved.ensures.items (let l = c.args.shards.now.ok.0 in let n = c.requires.len in let i = c.into_inner-shard.result.is in omega arith) c.requires.order
