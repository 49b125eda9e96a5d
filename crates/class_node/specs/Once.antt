-- A class has one list of walls, and a wall one lead.
use Rattle.std.proofs.Common.{◌≡◌, ℕ, zero, suc, ◌<◌, ◌≤◌, List, [], ◌∷◌, length, get_or, sym, subst, arith}
use mathlib.Core.Path.{subst₂}
use Rattle.std.specs.Prelude.{ℤ, slice_get, Some}
use Rattle.quad_field.specs.FieldNumber.{IsFieldNumber}
use Rattle.plane.specs.Matrices.{FieldMatrix}
use Rattle.tri_core.specs.declared.half.Half.{Half}
use Rattle.tri_core.specs.Triangulation.{IsTriangulation}
use Rattle.tri_core.specs.Images.{CarriesFrame}
use Rattle.hinge_form.proofs.CallerLemmas.{least_edge_of}
use Rattle.parabola_region.specs.WallLists.{PlainWall, wall_at, form_of, edges_of, least_edge, IsWallList}
use Rattle.parabola_region.proofs.CallerLemmas.{one_list}
use Rattle.wall_cross.specs.Crossings.{AreAllFlipped}
use Rattle.wall_cross.proofs.CallerLemmas.{one_crossing, crossing_valid}
use Rattle.canon_code.specs.Codes.{IsCode, IsStart, AreStarts}
use Rattle.canon_code.specs.Canonical.{canonical}
use Rattle.canon_code.proofs.CallerLemmas.{canonical_valid, code_once, one_carrier}
use Rattle.class_node.specs.Classes.{IsClassOver, AreWallsOf, LiesBehindWall}
use Rattle.class_node.specs.Leads.{IsFrame, IsLead}

module _ (d : ℕ) (code : List ℤ) where
  -- the canonical triangulation of a class is one
  pub class_valid : IsClassOver d code → IsTriangulation d (canonical d code)
  class_valid own = let m = own.1 in canonical_valid d own.0 m.0 m.2.start code m.1 m.2.inside m.2.serial

  module _ (own : IsClassOver d code) where
    pub one_list_of_walls : (one other : List PlainWall) → AreWallsOf d code one → AreWallsOf d code other → one ≡ other
    one_list_of_walls one other a b = one_list d own.0 (canonical d code) (class_valid own) one other a b

    -- one triangulation lies behind a wall
    pub one_behind : (w : ℕ) (one other : List Half) → LiesBehindWall d code w one → LiesBehindWall d code w other → one ≡ other
    one_behind w one other a b =
        one_crossing d own.0 (canonical d code) (class_valid own) (form_of a.0 w) (edges_of a.0 w) (a.1.each w a.2) one other a.3
        (subst (λ (walls : List PlainWall). AreAllFlipped d (canonical d code) (edges_of walls w) other) (one_list_of_walls b.0 a.0 b.1 a.1) b.3)

    pub behind_valid : (w : ℕ) (later : List Half) → LiesBehindWall d code w later → IsTriangulation d later
    behind_valid w later a = crossing_valid d own.0 (canonical d code) (class_valid own) (form_of a.0 w) (edges_of a.0 w) (a.1.each w a.2) later a.3

-- a triangulation has one frame
pub one_frame : (d : ℕ) (halves : List Half) (code : List ℤ) (a b : FieldMatrix) → IsFieldNumber d → IsTriangulation d halves → IsFrame d halves code a → IsFrame d halves code b → a ≡ b
one_frame d halves code a b field valid x y =
    let low : x.start ≤ y.start = x.first y.start y.is_start in
    let high : y.start ≤ x.start = y.first x.start x.is_start in
    let same : y.start ≡ x.start = omega (arith, low, high) in
    one_carrier d field (canonical d code) 0 halves x.start a b
    ((canonical_valid d field halves x.start code valid x.is_start.0 x.is_start.1).turns 0 some)
    x.frame_at.carries (subst (λ (h : ℕ). CarriesFrame d b.rows b.denominator (canonical d code) 0 halves h) same y.frame_at.carries) x.frame_at.lowest y.frame_at.lowest
  where
    some : 0 < length (canonical d code)
    some = let count = (canonical_valid d field halves x.start code valid x.is_start.0 x.is_start.1).count.1 in omega (arith, count)

module _ (d : ℕ) (code : List ℤ) (own : IsClassOver d code) (w : ℕ) where
  -- a wall leads to one class by one link
  pub one_lead : (to other : List ℤ) (g h : FieldMatrix) → IsLead d code w to g → IsLead d code w other h → (to ≡ other) × (g ≡ h)
  one_lead to other g h a b = (same_code, one_frame d a.later to g h own.0 (behind_valid d code own w a.later a.behind) a.frame frame)
    where
      same : b.later ≡ a.later
      same = one_behind d code own w b.later a.later b.behind a.behind

      same_code : to ≡ other
      same_code = code_once d a.later to other a.code_behind (subst (λ (later : List Half). IsCode d later other) same b.code_behind)

      frame : IsFrame d a.later to h
      frame = subst₂ (λ (later : List Half) (code : List ℤ). IsFrame d later code h) same (sym same_code) b.frame

-- numbers that ascend are at least their places
ascending_at_least : (f : ℕ → ℕ) (n : ℕ) → ((i j : ℕ) → i < j → j < n → f i < f j) → (i : ℕ) → i < n → i ≤ f i
ascending_at_least f n up zero less = omega arith
ascending_at_least f n up (suc i) less =
    let low : i ≤ f i = ascending_at_least f n up i (omega (arith, less)) in
    let step : f i < f (suc i) = up i (suc i) (omega arith) less in
    omega (arith, low, step)

-- a triangulation has at most as many walls as half-edges
pub few_walls : (d : ℕ) (halves : List Half) (walls : List PlainWall) → IsFieldNumber d → IsTriangulation d halves → IsWallList d halves walls → length walls ≤ 768
few_walls d halves walls field valid list = go (length walls) (λ i. length walls)
  where
    go : (n : ℕ) → length walls ≡ n → length walls ≤ 768
    go zero e = omega (arith, e)
    go (suc m) e =
        let inside : m < length walls = omega (arith, e) in
        let low : m ≤ least_edge (wall_at walls m) = ascending_at_least (λ j. least_edge (wall_at walls j)) (length walls) list.ascends m inside in
        let high : least_edge (wall_at walls m) < length halves = (least_edge_of d field halves valid (form_of walls m) (edges_of walls m) (list.each m inside)).0.0 in
        let most : length halves ≤ 768 = valid.count.2 in
        omega (arith, e, low, high, most)

-- the first of the starts is the least
pub first_start : (d : ℕ) (halves : List Half) (code : List ℤ) (starts : List ℕ) (start : ℕ) → AreStarts d halves code starts → slice_get starts 0 ≡ Some start
    → IsStart d halves code start × ((h : ℕ) → IsStart d halves code h → start ≤ h)
first_start d halves code [] start are e = cc
first_start d halves code (s ∷ ss) start are e = (subst (IsStart d halves code) same (are.each 0 (omega arith)), least)
  where
    same : s ≡ start
    same = cc

    at : (i h : ℕ) → i < length (s ∷ ss) → get_or (s ∷ ss) i 0 ≡ h → start ≤ h
    at zero h less is = omega (arith, same, is)
    at (suc i) h less is = let up : s < get_or ss i 0 = are.ascending 0 (suc i) (omega arith) less in omega (arith, same, is, up)

    least : (h : ℕ) → IsStart d halves code h → start ≤ h
    least h own = let found = are.all h own in at found.0 h found.1 found.2
