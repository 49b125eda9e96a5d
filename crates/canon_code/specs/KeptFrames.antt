-- For private contracts alone: frames that are kept for starts with the same two vectors.
use Rattle.std.specs.Prelude.{◌≡◌, ℕ, ℤ, List, All, IfSome}
use Rattle.tri_core.specs.declared.half.Half.{Half}
use Rattle.tri_core.specs.HalfEdges.{vector_at, next_of}
use Rattle.canon_code.specs.declared.kept_frames.KeptFrame.{KeptFrame}
use Rattle.canon_code.specs.declared.kept_frames.KeptFrames.{KeptFrames}
use Rattle.canon_code.specs.Distinct.{AreDistinct, ArePairs}
use Rattle.canon_code.specs.Small.{IsSmallFrame}
use Rattle.canon_code.specs.WholeFrames.{IsScaledBy}

-- two half-edges with equal vectors, and the next ones too
abbrev pub HaveOneFrame : List Half → ℕ → ℕ → Type 0
HaveOneFrame halves h g = (vector_at halves h ≡ vector_at halves g) × (vector_at halves (next_of h) ≡ vector_at halves (next_of g))

-- a start whose scale isn't below m, and the numbers over m of the vectors of the first of these half-edges
pub record IsKeptFrame (d : ℕ) (halves : List Half) (firsts : List ℕ) (m : ℤ) (kept : KeptFrame) : Type 0 where
  pub start : IsScaledBy d halves m kept.start
  pub small : IfSome kept.start.small (IsSmallFrame d kept.start.frame kept.start.divisor)
  pub pairs : ArePairs d halves kept.start firsts kept.list.items

-- the different vectors, and frames over the scale
pub record AreKeptFrames (d : ℕ) (halves : List Half) (kept : KeptFrames) : Type 0 where
  pub distinct : AreDistinct halves kept.distinct.firsts.items kept.distinct.places.items
  pub each : All (IsKeptFrame d halves kept.distinct.firsts.items kept.scale) kept.frames.items
