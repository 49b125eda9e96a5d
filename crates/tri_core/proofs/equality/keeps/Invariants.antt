use Rattle.std.proofs.Common.{ℕ, ◌<◌}
use Rattle.std.specs.Prelude.{slice_index}
use Rattle.tri_core.specs.Walks.{CarriesAt}
use Rattle.tri_core.proofs.equality.keeps.Given as goal

abbrev pub invariant-loop-k : goal.invariant-loop-k
invariant-loop-k l = (j : ℕ) → j < l.k → CarriesAt l.one l.two (slice_index l.images) j
