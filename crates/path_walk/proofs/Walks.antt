-- A walk stands in one place after each of its choices, has one end or none, and its end is reached.
use Rattle.std.proofs.Common.{◌≡◌, ◌∙◌, ℕ, zero, suc, ◌+◌, ◌<◌, ◌≤◌, List, length, ap, sym, subst, arith}
use mathlib.Core.Logic.{inl, inr}
use Rattle.std.specs.Prelude.{slice_index, ◌⊎◌}
use Rattle.std.proofs.lemmas.Bool.{cases_order}
use Rattle.quad_field.specs.FieldNumber.{IsFieldNumber}
use Rattle.quad_field.specs.declared.formula.Formula.TheVariants.{F12}
use Rattle.tri_core.specs.declared.half.Half.{Half}
use Rattle.tri_core.specs.Triangulation.{IsTriangulation}
use Rattle.parabola_region.specs.WallLists.{PlainWall, form_of, edges_of}
use Rattle.parabola_region.proofs.CallerLemmas.{one_list}
use Rattle.wall_cross.specs.Crossings.{AreAllFlipped, DiagonalsFit, LeadsIn, IsReached}
use Rattle.wall_cross.proofs.CallerLemmas.{crossing_valid, one_crossing, crossing_of_wall}
use Rattle.path_walk.specs.Walks.{AtWall, LiesBehindWall, StandsAfter, IsEnd, HasNoWall, IsWithoutWall, IsWideChoice, IsWideOnWalk}

module _ (d : ℕ) (field : IsFieldNumber d) where
  -- ---- at one triangulation
  module _ (halves : List Half) (valid : IsTriangulation d halves) (j : ℕ) where
    -- what is so of a wall's edges is so of the one wall of this number
    same_wall : (P Q : List ℕ → Type 0) → AtWall d halves j P → AtWall d halves j Q → (edges : List ℕ) × P edges × Q edges
    same_wall P Q (walls, list, under, p) (others, also, below, q) =
        let same = one_list d field halves valid others walls also list in
        (edges_of walls j, p, subst (λ (w : List PlainWall). Q (edges_of w j)) same q)

    wall_exists : (P : List ℕ → Type 0) → AtWall d halves j P → ¬ (HasNoWall d halves j)
    wall_exists P (walls, list, under, p) (others, also, few) =
        let same : length others ≡ length walls = ap length (one_list d field halves valid others walls also list) in
        omega (arith, under, few, same)

    crossed_valid : (later : List Half) → LiesBehindWall d halves j later → IsTriangulation d later
    crossed_valid later (walls, list, under, (fits, flips)) = crossing_valid d field halves valid (form_of walls j) (edges_of walls j) (list.each j under) later flips

    crossed_once : (one other : List Half) → LiesBehindWall d halves j one → LiesBehindWall d halves j other → one ≡ other
    crossed_once one other (walls, list, under, (fits, flips)) (others, also, below, (_, flipped)) =
        let same = one_list d field halves valid others walls also list in
        one_crossing d field halves valid (form_of walls j) (edges_of walls j) (list.each j under) one other flips
        (subst (λ (w : List PlainWall). AreAllFlipped d halves (edges_of w j) other) same flipped)

    -- a wall that was crossed is there, and its diagonals fit
    not_stopped : (later : List Half) → LiesBehindWall d halves j later → HasNoWall d halves j ⊎ IsWideChoice F12 d halves j → ⊥
    not_stopped later crosses (inl none) = wall_exists (λ edges. DiagonalsFit d halves edges × AreAllFlipped d halves edges later) crosses none
    not_stopped later crosses (inr wide) =
        let (edges, here, there) = same_wall (λ edges. DiagonalsFit d halves edges × AreAllFlipped d halves edges later) (λ edges. ¬ (DiagonalsFit d halves edges)) crosses wide in
        there here.0

  module _ (from : List Half) (valid : IsTriangulation d from) (choices : List ℕ) where
    -- where a walk stands there is a triangulation, and only one
    pub stands_valid : (n : ℕ) (at : List Half) → StandsAfter d from choices n at → IsTriangulation d at
    stands_valid zero at e = subst (IsTriangulation d) (sym e) valid
    stands_valid (suc n) at (between, stands, crosses) = crossed_valid between (stands_valid n between stands) (slice_index choices n) at crosses

    pub stands_once : (n : ℕ) (at other : List Half) → StandsAfter d from choices n at → StandsAfter d from choices n other → at ≡ other
    stands_once zero at other e g = e ∙ sym g
    stands_once (suc n) at other (between, stands, crosses) (also, stood, crossed) =
        let same : also ≡ between = stands_once n also between stood stands in
        crossed_once between (stands_valid n between stands) (slice_index choices n) at other crosses
        (subst (λ (halves : List Half). LiesBehindWall d halves (slice_index choices n) other) same crossed)

    -- before it the walk stood at each earlier place, and crossed the wall that was chosen there
    pub stood_before : (n : ℕ) (at : List Half) → StandsAfter d from choices n at → (place : ℕ) → place < n
        → (between : List Half) × StandsAfter d from choices place between × ((later : List Half) × LiesBehindWall d between (slice_index choices place) later)
    stood_before zero at stands place before = absurd (omega (arith, before))
    stood_before (suc n) at (between, stands, crosses) place before = go (cases_order place n) (stood_before n between stands place)
      where
        go : (place ≡ n) ⊎ ((place < n) ⊎ (n < place))
            → (place < n → (between : List Half) × StandsAfter d from choices place between × ((later : List Half) × LiesBehindWall d between (slice_index choices place) later))
            → (between : List Half) × StandsAfter d from choices place between × ((later : List Half) × LiesBehindWall d between (slice_index choices place) later)
        go (inl same) earlier =
            subst (λ (m : ℕ). (between : List Half) × StandsAfter d from choices m between × ((later : List Half) × LiesBehindWall d between (slice_index choices m) later)) (sym same)
            (between, stands, (at, crosses))
        go (inr (inl less)) earlier = earlier less
        go (inr (inr more)) earlier = absurd (omega (arith, before, more))

    -- what stops a walk before the choice at a place: no wall, or a crossing with a wide diagonal
    abbrev Stops : ℕ → Type 0
    Stops place = IsWithoutWall d from choices place ⊎ IsWideOnWalk d from choices F12 place

    not_after : (n : ℕ) (end : List Half) → StandsAfter d from choices n end → (place : ℕ) → place < n → (at : List Half) → StandsAfter d from choices place at
        → HasNoWall d at (slice_index choices place) ⊎ IsWideChoice F12 d at (slice_index choices place) → ⊥
    not_after n end stands place before at here stopped =
        let (between, stood, (later, crosses)) = stood_before n end stands place before in
        let same : between ≡ at = stands_once place between at stood here in
        not_stopped at (stands_valid place at here) (slice_index choices place) later (subst (λ (halves : List Half). LiesBehindWall d halves (slice_index choices place) later) same crosses) stopped

    pub no_end_without_wall : (place : ℕ) (end : List Half) → IsWithoutWall d from choices place → ¬ (IsEnd d from choices end)
    no_end_without_wall place end (under, (at, stands, none)) ends = not_after (length choices) end ends place under at stands (inl none)

    pub no_end_wide : (place : ℕ) (end : List Half) → IsWideOnWalk d from choices F12 place → ¬ (IsEnd d from choices end)
    no_end_wide place end (under, (at, stands, wide)) ends = not_after (length choices) end ends place under at stands (inr wide)

    -- the place where a walk stops
    stop_at : (place : ℕ) → Stops place → (at : List Half) × StandsAfter d from choices place at × (HasNoWall d at (slice_index choices place) ⊎ IsWideChoice F12 d at (slice_index choices place))
    stop_at place (inl (under, (at, stands, none))) = (at, stands, inl none)
    stop_at place (inr (under, (at, stands, wide))) = (at, stands, inr wide)

    pub one_stop : (place other : ℕ) → IsWithoutWall d from choices place ⊎ IsWideOnWalk d from choices F12 place → IsWithoutWall d from choices other ⊎ IsWideOnWalk d from choices F12 other → place ≡ other
    one_stop place other a b = elim (cases_order place other) [
      | inl same ↦ same
      | inr (inl less) ↦ let (at, stands, why) = stop_at place a in let (to, stood, _) = stop_at other b in absurd (not_after other to stood place less at stands why)
      | inr (inr more) ↦ let (at, stands, why) = stop_at other b in let (to, stood, _) = stop_at place a in absurd (not_after place to stood other more at stands why)
    ]

    pub wall_or_wide : (place : ℕ) → IsWithoutWall d from choices place → ¬ (IsWideOnWalk d from choices F12 place)
    wall_or_wide place (under, (at, stands, none)) (below, (to, stood, (walls, list, has, wide))) =
        let same : to ≡ at = stands_once place to at stood stands in
        let there = subst (λ (halves : List Half). AtWall d halves (slice_index choices place) (λ edges. ¬ (DiagonalsFit d halves edges))) same (walls, list, has, wide) in
        wall_exists at (stands_valid place at stands) (slice_index choices place) (λ edges. ¬ (DiagonalsFit d at edges)) there none

-- the end is reached
leads : (d : ℕ) (from : List Half) (choices : List ℕ) (n : ℕ) (at : List Half) → StandsAfter d from choices n at → LeadsIn d from n at
leads d from choices zero at e = e
leads d from choices (suc n) at (between, stands, (walls, list, under, (fits, flips))) =
    let j = slice_index choices n in
    (between, leads d from choices n between stands, (form_of walls j, edges_of walls j, crossing_of_wall d between at (form_of walls j) (edges_of walls j) (list.each j under) flips))

pub end_reached : (d : ℕ) (from : List Half) (choices : List ℕ) (n : ℕ) (end : List Half) → StandsAfter d from choices n end → IsReached d from end
end_reached d from choices n end stands = (n, leads d from choices n end stands)

-- a walk goes on through the wall that is chosen next
pub stands_more : (d e : ℕ) (from : List Half) (choices : List ℕ) (n : ℕ) (between later : List Half) → e ≡ d → StandsAfter d from choices n between
    → LiesBehindWall e between (slice_index choices n) later → StandsAfter d from choices (n + 1) later
stands_more d e from choices n between later same stands behind =
    let up : suc n ≡ n + 1 = omega arith in
    subst (λ (m : ℕ). StandsAfter d from choices m later) up (between, stands, subst (λ (f : ℕ). LiesBehindWall f between (slice_index choices n) later) same behind)
