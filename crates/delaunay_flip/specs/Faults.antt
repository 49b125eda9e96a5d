-- Serves private clauses alone: why there is no base, by why a triangulation isn't kept or flipped.
use Rattle.std.specs.Prelude.{◌≡◌, ℕ}
use Rattle.quad_field.specs.declared.formula.Formula.TheVariants.{F12}
use Rattle.delaunay_flip.specs.declared.base.BaseFault.{BaseFault}
use Rattle.delaunay_flip.specs.declared.base.BaseFault.TheVariants as base_faults
use Rattle.delaunay_flip.specs.declared.kept.KeptFault.{KeptFault}
use Rattle.delaunay_flip.specs.declared.kept.KeptFault.TheVariants.{Wide, Memory}

-- the fault is that of a new diagonal
abbrev pub IsOfFlip : KeptFault → Type 0
IsOfFlip (Wide formula h) = formula ≡ F12
IsOfFlip Memory = ⊥

-- the same fault, met after so many flips
abbrev pub base_fault : KeptFault → ℕ → BaseFault
base_fault (Wide formula h) flips = base_faults.Wide formula flips h
base_fault Memory flips = base_faults.Memory
