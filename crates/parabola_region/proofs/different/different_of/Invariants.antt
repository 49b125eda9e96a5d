use Rattle.parabola_region.specs.Different.{AreDifferent}
use Rattle.parabola_region.proofs.different.different_of.Given as goal

abbrev pub invariant-loop-k : goal.invariant-loop-k
invariant-loop-k l = AreDifferent l.forms l.firsts.items l.places.items l.k
