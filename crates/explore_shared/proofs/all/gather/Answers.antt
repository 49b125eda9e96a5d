use Rattle.std.proofs.Common.{List, sym, subst}
use Rattle.explore_core.specs.Books.{Row}
use Rattle.class_shards.specs.Agreement.{AreFilled}
use Rattle.explore_shared.proofs.all.gather.Goals as goal

pub add-requires-clause-filled : goal.add-requires-clause-filled
add-requires-clause-filled g c κs within = (c.loop-shard.invariant.filled, subst (λ (l : List (Row _)). AreFilled l) (sym c.finish.ensures.rows) c.finish.ensures.filled)
