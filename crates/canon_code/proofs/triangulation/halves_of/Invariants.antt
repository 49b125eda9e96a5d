use Rattle.std.proofs.Common.{◌≡◌, ℕ, ◌*◌, ◌<◌, map, List}
use Rattle.std.specs.Prelude.{ℤ}
use Rattle.std.specs.List.{range_with_len}
use Rattle.tri_core.specs.declared.half.Half.{Half}
use Rattle.canon_code.specs.Canonical.{canonical_half}
use Rattle.canon_code.specs.Listing.{HasTwins}
use Rattle.canon_code.proofs.triangulation.halves_of.Given as goal

-- the half-edges of the first t triangles, whose twins have numbers
pub record IsListedTo (numbers : List ℤ) (halves : List Half) (t : ℕ) : Type 0 where
  pub halves_are : halves ≡ map (canonical_half 0 numbers) (range_with_len 0 (3 * t))
  pub twins : (s : ℕ) → s < t → HasTwins numbers s

abbrev pub invariant-loop-t : goal.invariant-loop-t
invariant-loop-t l = IsListedTo l.numbers l.halves.items l.t
