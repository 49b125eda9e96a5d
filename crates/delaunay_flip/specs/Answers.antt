-- What the calls of this crate answer.
use Rattle.std.specs.Prelude.{◌≡◌, ◌⊎◌, ℕ, Result, MatchResult}
use Rattle.surface_text.specs.declared.file.Point.{Point}
use Rattle.tri_core.specs.Triangulation.{Triangulation}
use Rattle.delaunay_flip.specs.declared.base.Base.{Base}
use Rattle.delaunay_flip.specs.declared.base.BaseFault.{BaseFault}
use Rattle.delaunay_flip.specs.declared.base.BaseFault.TheVariants.{NotStrict, FlipsEnded, Wide, Memory}
use Rattle.delaunay_flip.specs.Bases.{Ending}

-- the answer says this ending at this point
abbrev pub Says : Triangulation → Result Base BaseFault → Point → Ending → Type 0
Says tri answer at (Ending.strict later n) =
    MatchResult answer (λ base. (base.tri.field ≡ tri.field) × (base.tri.halves ≡ later) × (base.point ≡ at) × (base.flips ≡ n)) (λ fault. ⊥)
Says tri answer at (Ending.not_strict h) = MatchResult answer (λ base. ⊥) (λ fault. fault ≡ NotStrict h)
Says tri answer at Ending.flips_ended = MatchResult answer (λ base. ⊥) (λ fault. fault ≡ FlipsEnded at)
Says tri answer at (Ending.wide formula n h) = MatchResult answer (λ base. ⊥) (λ fault. fault ≡ Wide formula n h)

-- the answer is for want of memory
abbrev pub IsForMemory : Result Base BaseFault → Type 0
IsForMemory answer = MatchResult answer (λ base. ⊥) (λ fault. fault ≡ Memory)

-- an answer says an ending that is so, unless memory ran out
abbrev pub IsRight : Triangulation → (Point → Ending → Type 0) → Result Base BaseFault → Type 0
IsRight tri Ends answer = ((at : Point) × (ending : Ending) × Ends at ending × Says tri answer at ending) ⊎ IsForMemory answer

-- and whatever ending is so, the answer says it, unless memory ran out
abbrev pub IsComplete : Triangulation → (Point → Ending → Type 0) → Result Base BaseFault → Type 0
IsComplete tri Ends answer = (at : Point) (ending : Ending) → Ends at ending → Says tri answer at ending ⊎ IsForMemory answer

-- the answer names an edge of value zero
abbrev pub IsNotStrict : Result Base BaseFault → Type 0
IsNotStrict answer = MatchResult answer (λ base. ⊥) (λ fault. (h : ℕ) × (fault ≡ NotStrict h))
