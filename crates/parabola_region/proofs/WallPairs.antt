-- Two walls of a list are never parallel.
use Rattle.std.proofs.Common.{◌≡◌, ℕ, zero, suc, ◌<◌, ◌≤◌, List, length, get_or, ap, ◌∙◌, arith}
use mathlib.Core.Logic.{inl, inr}
use Rattle.std.specs.Prelude.{pos, ◌⊎◌}
use Rattle.std.specs.List.{Contains}
use Rattle.std.proofs.lemmas.List.{get_or_default}
use Rattle.std.proofs.lemmas.Bool.{cases_lt}
use Rattle.rings.proofs.Signs.{never_positive}
use Rattle.rings.proofs.Multiples.{parallel_value, multiple_zero}
use Rattle.quad_field.specs.FieldNumber.{IsFieldNumber}
use Rattle.quad_field.specs.Quads.{quad_ops}
use Rattle.quad_field.proofs.CallerLemmas.{quad_ring, order_of}
use Rattle.tri_core.specs.declared.half.Half.{Half}
use Rattle.tri_core.specs.Triangulation.{IsTriangulation}
use Rattle.tri_core.specs.Flips.{IsEdge}
use Rattle.hinge_form.specs.Triples.{Triple}
use Rattle.hinge_form.specs.Hinges.{hinge_value, full_triple}
use Rattle.hinge_form.specs.Lines.{AreParallel, IsMultiple}
use Rattle.hinge_form.specs.Walls.{IsWall}
use Rattle.hinge_form.proofs.CallerLemmas.{value_of_triple, multiple_of_hinge, least_edge_of, wall_some}
use Rattle.parabola_region.specs.WallLists.{PlainWall, wall_at, form_of, edges_of, least_edge, IsWallList}
use Rattle.parabola_region.proofs.Lines.{through, swapped}

-- the least of an ascending list is at most each of its numbers
at_least : (numbers : List ℕ) → ((i j : ℕ) → i < j → j < length numbers → get_or numbers i 0 < get_or numbers j 0) → (h : ℕ) → Contains numbers h → get_or numbers 0 0 ≤ h
at_least numbers ascends h (m, under, e) = go (cases_lt 0 m)
  where
    here : get_or numbers m 0 ≡ h
    here = get_or_default numbers m 0 h under ∙ e

    go : (0 < m) ⊎ (m ≤ 0) → get_or numbers 0 0 ≤ h
    go (inl some) = let less : get_or numbers 0 0 < get_or numbers m 0 = ascends 0 m some under in omega (arith, here)
    go (inr none) = let z : 0 ≡ m = omega arith in let same : get_or numbers 0 0 ≡ get_or numbers m 0 = ap (λ k. get_or numbers k 0) z in omega (arith, here)

module _ (d : ℕ) (field : IsFieldNumber d) (halves : List Half) (valid : IsTriangulation d halves) (walls : List PlainWall) (list : IsWallList d halves walls) where
  module _ (i : ℕ) (under : i < length walls) where
    wall : IsWall d halves (form_of walls i) (edges_of walls i)
    wall = list.each i under

    pub least_is_edge : IsEdge halves (least_edge (wall_at walls i))
    least_is_edge = (least_edge_of d field halves valid (form_of walls i) (edges_of walls i) wall).0

    -- its form is a positive multiple of no other than its own least edge's triple
    full_multiple : IsMultiple d (form_of walls i) (full_triple d halves (least_edge (wall_at walls i)))
    full_multiple = multiple_of_hinge d field halves valid (least_edge (wall_at walls i)) least_is_edge.0 (form_of walls i) wall.least

  pub walls_apart : (i j : ℕ) → i < j → j < length walls → ¬ (AreParallel d (form_of walls i) (form_of walls j))
  walls_apart i j less under parallel =
      never_positive (quad_ops d) (quad_ring d) (order_of d field) (hinge_value d halves n q) none ((wall i before).line.1.others n (least_is_edge j under) not_own)
    where
      before : i < length walls
      before = omega arith

      n : ℕ
      n = least_edge (wall_at walls j)

      q : Triple
      q = (wall i before).line.0

      -- a parallel form vanishes on the line, and so does the triple of its least edge
      none : hinge_value d halves (least_edge (wall_at walls j)) (wall i before).line.0 ≡ (quad_ops d).int (pos 0)
      none =
          value_of_triple d halves (least_edge (wall_at walls j)) (wall i before).line.0
          ∙ multiple_zero (quad_ops d) (quad_ring d) (order_of d field) (form_of walls j) (full_triple d halves (least_edge (wall_at walls j))) (wall i before).line.0 (full_multiple j under)
          (parallel_value (quad_ops d) (quad_ring d) (order_of d field) (form_of walls i) (form_of walls j) (wall i before).line.0
          (wall_some d field halves valid (form_of walls i) (edges_of walls i) (wall i before)) parallel (wall i before).line.1.on)

      -- a positive multiple would be an edge of both
      not_own : ¬ (IsMultiple d (form_of walls i) (full_triple d halves (least_edge (wall_at walls j))))
      not_own own =
          let a : Triple = form_of walls i in
          let b : Triple = form_of walls j in
          let m : ℕ = least_edge (wall_at walls i) in
          let k : ℕ = least_edge (wall_at walls j) in
          let to_b : IsMultiple d a b = through d field a (full_triple d halves k) b own (swapped d field b (full_triple d halves k) (full_multiple j under)) in
          let to_m : IsMultiple d b (full_triple d halves m) = through d field b a (full_triple d halves m) (swapped d field a b to_b) (full_multiple i before) in
          let held : Contains (edges_of walls j) m = ((wall j under).all.exactly m).1 (least_is_edge i before, to_m) in
          let low : k ≤ m = at_least (edges_of walls j) (wall j under).all.ascends m held in
          let high : m < k = list.ascends i j less under in
          absurd (omega arith)

  -- there are at most as many walls as half-edges
  least_grows : (j : ℕ) → j < length walls → j ≤ least_edge (wall_at walls j)
  least_grows zero under = omega arith
  least_grows (suc j) under =
      let before : j ≤ least_edge (wall_at walls j) = least_grows j (omega arith) in
      let more : least_edge (wall_at walls j) < least_edge (wall_at walls (suc j)) = list.ascends j (suc j) (omega arith) under in
      omega arith

  pub few_walls : (j : ℕ) → j < length walls → j < 768
  few_walls j under =
      let low = least_grows j under in
      let edge : least_edge (wall_at walls j) < length halves = (least_is_edge j under).0 in
      let few = valid.count.2 in
      omega arith
