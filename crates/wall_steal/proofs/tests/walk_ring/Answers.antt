use Rattle.std.proofs.Common.{◌∷◌, [], length, sym, subst, arith}
use Rattle.std.specs.Prelude.{pos}
use Rattle.terrain.specs.Places.{IsAt}
use Rattle.terrain.specs.Rings.{IsRingKey}
use Rattle.terrain.proofs.CallerLemmas.{snoc_left, snoc_end}
use Rattle.class_shards.proofs.CallerLemmas.{named_at}
use Rattle.wall_steal.proofs.Ringed.{ring_key}
use Rattle.wall_steal.proofs.tests.walk_ring.Goals as goal

pub walk-requires-clause-own : goal.walk-requires-clause-own
walk-requires-clause-own g c = subst (λ t. IsRingKey t (pos 0 ∷ [])) (sym c.make-ring.ensures) (ring_key 10 0 c.args.stuck (omega arith))

pub walk-requires-clause-keepers : goal.walk-requires-clause-keepers
walk-requires-clause-keepers g c b s at =
    c.in_ok-count.ensures.keepers b s (subst (λ l. IsAt l b s) (sym c.in-Some.ensures.items) (snoc_left c.pop.new.self.items b c.in-Some.keeper s at))

pub walk-requires-clause-keeper : goal.walk-requires-clause-keeper
walk-requires-clause-keeper g c =
    let rest = c.pop.new.self.items in
    let keeper = c.in-Some.keeper in
    (length rest, (c.in_ok-count.ensures.keepers (length rest) keeper (subst (λ l. IsAt l (length rest) keeper) (sym c.in-Some.ensures.items) (snoc_end rest keeper))).1)

pub walk-requires-clause-logs : goal.walk-requires-clause-logs
walk-requires-clause-logs g c i l at = (named_at c.in_ok-logs.logs.items i l at, c.in_ok-logs.ensures.empty i l at)
