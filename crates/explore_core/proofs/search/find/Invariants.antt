use Rattle.std.proofs.Common.{◌-◌, map}
use Rattle.explore_core.proofs.Searches.{Between}
use Rattle.explore_core.proofs.search.find.Given as goal

abbrev pub invariant-loop-low : goal.invariant-loop-low
invariant-loop-low g l = Between g.T.Terrain.order (map (λ r. g.T.Key.Numbers.numbers (g.R.Keyed.key_of r)) l.rows) l.places (g.T.Key.Numbers.numbers l.key) l.low l.high

abbrev pub decreases-loop-low : goal.decreases-loop-low
decreases-loop-low g l = l.high - l.low
