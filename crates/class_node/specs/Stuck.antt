-- The formula instances of a class: where a number may be too wide.
use Rattle.std.specs.Prelude.{◌≡◌, ◌⊎◌, ℕ, ◌<◌, ℤ, List, length, None, Some}
use Rattle.quad_field.specs.declared.formula.Formula.{Formula}
use Rattle.quad_field.specs.declared.formula.Formula.TheVariants.{F1, F12}
use Rattle.tri_core.specs.declared.half.Half.{Half}
use Rattle.parabola_region.specs.WallLists.{PlainWall, edges_of}
use Rattle.parabola_region.specs.Instances.{IsWideInstance}
use Rattle.wall_cross.specs.Crossings.{DiagonalsFit}
use Rattle.canon_code.specs.Canonical.{canonical}
use Rattle.canon_code.specs.FrameWidth.{HasWideFrame}
use Rattle.class_node.specs.declared.fault.ClassFault.{ClassFault}
use Rattle.class_node.specs.Classes.{field_of, AreWallsOf, LiesBehindWall}

-- a formula is wide at a triangulation: the frame of a start (F1), or an instance of its walls (F2 to F9)
abbrev pub IsWideAt : ℕ → List Half → Formula → Type 0
IsWideAt d halves F1 = HasWideFrame d halves
IsWideAt d halves other = IsWideInstance d halves other

-- a formula is wide at wall w of a class: the new diagonal at an edge of the wall (F12), or the frame of a start of what lies behind it (F1)
abbrev pub IsWideAtWall : ℕ → List ℤ → ℕ → Formula → Type 0
IsWideAtWall d code w F12 =
    (walls : List PlainWall) × AreWallsOf d code walls × (w < length walls) × ¬ (DiagonalsFit d (canonical d code) (edges_of walls w))
IsWideAtWall d code w F1 = (later : List Half) × LiesBehindWall d code w later × HasWideFrame d later
IsWideAtWall d code w other = ⊥

-- a class is stuck by a fault, which names no wall: its formula is wide at the canonical triangulation
abbrev pub IsStuckOver : ℕ → List ℤ → ClassFault → Type 0
IsStuckOver d code fault = (fault.wall ≡ None) × IsWideAt d (canonical d code) fault.formula

-- a wall of a class is stuck by a fault: the class is, or the fault names the wall and its formula is wide there
abbrev pub IsStuckAtWall : ℕ → List ℤ → ℕ → ClassFault → Type 0
IsStuckAtWall d code w fault = IsStuckOver d code fault ⊎ ((fault.wall ≡ Some w) × IsWideAtWall d code w fault.formula)

-- the same over the field of a terrain
abbrev pub IsStuck : List ℤ → List ℤ → ClassFault → Type 0
IsStuck t k fault = IsStuckOver (field_of t) k fault

abbrev pub IsStuckAt : List ℤ → List ℤ → ℕ → ClassFault → Type 0
IsStuckAt t k w fault = IsStuckAtWall (field_of t) k w fault
