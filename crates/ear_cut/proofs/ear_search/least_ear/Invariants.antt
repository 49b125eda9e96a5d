use Rattle.std.proofs.Common.{ℕ, ◌<◌}
use Rattle.ear_cut.specs.Cuttings.{IsEar, vectors_of}
use Rattle.ear_cut.specs.Steps.{seen}
use Rattle.ear_cut.proofs.ear_search.least_ear.Given as goal

abbrev pub invariant-loop-i : goal.invariant-loop-i
invariant-loop-i l = (k : ℕ) → k < l.i → ¬ (IsEar l.f (vectors_of (seen l.sides)) k)
