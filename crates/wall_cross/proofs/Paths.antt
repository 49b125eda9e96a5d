-- Paths of crossings: none, and one crossing more.
use Rattle.std.proofs.Common.{ℕ, suc, List, refl}
use Rattle.tri_core.specs.declared.half.Half.{Half}
use Rattle.hinge_form.specs.Triples.{Triple}
use Rattle.wall_cross.specs.Crossings.{Crosses, LiesBehind, IsReached}

-- a triangulation is reached from itself
pub reached_itself : (d : ℕ) (halves : List Half) → IsReached d halves halves
reached_itself d halves = (0, refl)

-- what lies behind a wall of what is reached is reached
pub reached_behind : (d : ℕ) (from between to : List Half) → IsReached d from between → LiesBehind d between to → IsReached d from to
reached_behind d from between to reached behind = (suc reached.0, (between, reached.1, behind))

-- and so is a crossing
pub reached_crossing : (d : ℕ) (from between to : List Half) (form : Triple) (edges : List ℕ) → IsReached d from between → Crosses d between form edges to → IsReached d from to
reached_crossing d from between to form edges reached crossed = reached_behind d from between to reached (form, edges, crossed)
