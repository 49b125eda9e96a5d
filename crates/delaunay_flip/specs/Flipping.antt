-- Flipping at a point: the least edge of negative value, again and again.
use Rattle.std.specs.Prelude.{◌≡◌, ℕ, zero, suc, pos, ◌<◌, Option, Some, None, List}
use Rattle.rings.specs.Forms.{value_at}
use Rattle.quad_field.specs.declared.quad.Quad.{Quad}
use Rattle.quad_field.specs.Quads.{quad_ops, IsPositive}
use Rattle.tri_core.specs.declared.half.Half.{Half}
use Rattle.tri_core.specs.Flips.{IsEdge, IsFlip}
use Rattle.hinge_form.specs.Hinges.{Triple, hinge_value, IsHingeTriple}

-- the value of edge h at a place is negative
abbrev pub IsNegative : ℕ → Triple → List Half → ℕ → Type 0
IsNegative d q halves h = IsEdge halves h × IsPositive d ((quad_ops d).neg (hinge_value d halves h q))

-- the value of edge h at a place is zero
abbrev pub IsZeroAt : ℕ → Triple → List Half → ℕ → Type 0
IsZeroAt d q halves h = IsEdge halves h × (hinge_value d halves h q ≡ (quad_ops d).int (pos 0))

-- v is the value of the hinge triple of h at a place
abbrev pub IsValueAt : ℕ → Triple → List Half → ℕ → Quad → Type 0
IsValueAt d q halves h v = (l : Triple) × IsHingeTriple d halves h l × (v ≡ value_at (quad_ops d) l q)

-- h is the least number with a property
abbrev pub IsLeast : (ℕ → Type 0) → ℕ → Type 0
IsLeast P h = P h × ((k : ℕ) → k < h → ¬ (P k))

-- the least number with a property, or none where no number has it
abbrev pub IsLeastOrNone : (ℕ → Type 0) → Option ℕ → Type 0
IsLeastOrNone P None = (h : ℕ) → ¬ (P h)
IsLeastOrNone P (Some h) = IsLeast P h

-- no edge has a negative value at a place
abbrev pub IsDelaunay : ℕ → Triple → List Half → Type 0
IsDelaunay d q halves = (h : ℕ) → ¬ (IsNegative d q halves h)

-- `later` comes of `halves` by the flip of the least edge of negative value
abbrev pub IsNextFlip : ℕ → Triple → List Half → List Half → Type 0
IsNextFlip d q halves later = (h : ℕ) × IsLeast (IsNegative d q halves) h × IsFlip d halves h later

-- `later` comes of `halves` by n flips, each at the least edge of negative value
abbrev pub AfterFlips : ℕ → Triple → ℕ → List Half → List Half → Type 0
AfterFlips d q zero halves later = later ≡ halves
AfterFlips d q (suc n) halves later = (between : List Half) × AfterFlips d q n halves between × IsNextFlip d q between later
