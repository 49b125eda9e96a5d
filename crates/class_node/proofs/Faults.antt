-- What a fault says of a class.
use Rattle.std.proofs.Common.{◌≡◌, ℕ, List, sym, ap, subst, inl, inr}
use Rattle.std.specs.Prelude.{ℤ, None, Some}
use Rattle.quad_field.specs.declared.formula.Formula.{Formula}
use Rattle.quad_field.specs.declared.formula.Formula.TheVariants.{F1, F2, F3, F4, F5, F6, F7, F8, F9, F10, F11, F12, F13}
use Rattle.tri_core.specs.declared.half.Half.{Half}
use Rattle.parabola_region.specs.declared.fault.RegionFault.{RegionFault}
use Rattle.parabola_region.specs.declared.fault.RegionFault.TheVariants.{Wide}
use Rattle.parabola_region.specs.Instances.{IsWideInstance, IsRegionFault}
use Rattle.canon_code.specs.FrameWidth.{HasWideFrame}
use Rattle.canon_code.specs.Canonical.{canonical}
use Rattle.terrain.specs.declared.stop.Stop.{Stop}
use Rattle.terrain.specs.declared.stop.Stop.TheVariants.{Fault, Memory}
use Rattle.terrain.specs.Stops.{IfFault}
use Rattle.class_node.specs.declared.fault.ClassFault.{ClassFault}
use Rattle.class_node.specs.Classes.{LiesBehindWall}
use Rattle.class_node.specs.Stuck.{IsWideAt, IsWideAtWall, IsStuckOver, IsStuckAtWall}

wide_at : (d : ℕ) (halves : List Half) (formula : Formula) → IsWideInstance d halves formula → IsWideAt d halves formula
wide_at d halves F1 w = absurd w
wide_at d halves F2 w = w
wide_at d halves F3 w = w
wide_at d halves F4 w = w
wide_at d halves F5 w = w
wide_at d halves F6 w = w
wide_at d halves F7 w = w
wide_at d halves F8 w = w
wide_at d halves F9 w = w
wide_at d halves F10 w = w
wide_at d halves F11 w = w
wide_at d halves F12 w = w
wide_at d halves F13 w = w

-- a fault of the walls of a class
pub stuck_by_walls : (d : ℕ) (code : List ℤ) (fault : RegionFault) (stop : Stop ClassFault) → IsRegionFault d (canonical d code) fault
    → IfFault stop (λ stuck. (fault ≡ Wide stuck.formula) × (stuck.wall ≡ None)) → IfFault stop (IsStuckOver d code)
stuck_by_walls d code fault (Fault stuck) is e = (e.1, wide_at d (canonical d code) stuck.formula (subst (IsRegionFault d (canonical d code)) e.0 is))
stuck_by_walls d code fault Memory is e = tt

-- a class that is stuck is stuck at each wall
pub stuck_at_each : (d : ℕ) (code : List ℤ) (w : ℕ) (stop : Stop ClassFault) → IfFault stop (IsStuckOver d code) → IfFault stop (IsStuckAtWall d code w)
stuck_at_each d code w (Fault stuck) e = inl e
stuck_at_each d code w Memory e = tt

-- a fault of the code of what lies behind a wall
pub stuck_behind : (d : ℕ) (code : List ℤ) (w : ℕ) (later : List Half) (stop : Stop ClassFault) → LiesBehindWall d code w later
    → IfFault stop (λ fault. (fault ≡ record { formula = F1; wall = Some w }) × HasWideFrame d later) → IfFault stop (IsStuckAtWall d code w)
stuck_behind d code w later (Fault stuck) behind e =
    inr (ap (λ (f : ClassFault). f.wall) e.0, subst (IsWideAtWall d code w) (sym (ap (λ (f : ClassFault). f.formula) e.0)) (later, behind, e.1))
stuck_behind d code w later Memory behind e = tt
