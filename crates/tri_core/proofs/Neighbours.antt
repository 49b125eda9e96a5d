-- The triangles that are joined to triangle 0 are the nodes that can be reached from node 0.
use Rattle.std.proofs.Common.{◌≡◌, ℕ, zero, suc, ◌+◌, ◌*◌, ◌/◌, ◌%◌, ◌<◌, Bool, IsTrue, List, length, get_or, refl, sym, ap, subst, arith}
use Rattle.std.proofs.lemmas.List.Elements.{All-get_or, All-from_get_or}
use Rattle.graph_search.specs.Reachable.{IsClosedUnder, IsReachable, IsFirstUnreachable}
use Rattle.tri_core.specs.declared.half.Half.{Half}
use Rattle.tri_core.specs.HalfEdges.{twin_at, triangle_of}
use Rattle.tri_core.specs.Triangulation.{HasTriangles, IsTriangle, IsJoined, IsClosedUnderTwins}
use Rattle.tri_core.specs.Refusals.{FailsFirst, HoldsAll}
use Rattle.tri_core.specs.Neighbours.{neighbours_of}

-- the neighbour at a place is the triangle across that side
neighbour_at : (halves : List Half) (t k : ℕ) → k < 3 → get_or (neighbours_of halves t) k 0 ≡ triangle_of (twin_at halves (3 * t + k))
neighbour_at halves t zero below = let e : 3 * t ≡ 3 * t + 0 = omega arith in ap (λ (m : ℕ). triangle_of (twin_at halves m)) e
neighbour_at halves t (suc zero) below = refl
neighbour_at halves t (suc (suc zero)) below = refl
neighbour_at halves t (suc (suc (suc k))) below = absurd (omega arith)

module _ (halves : List Half) (whole : HasTriangles halves) where
  abbrev count : ℕ
  count = length halves / 3

  -- a set is closed under twins where it is closed under neighbours, and the other way round
  under_neighbours : (set : ℕ → Bool) → IsClosedUnderTwins halves set → IsClosedUnder count (neighbours_of halves) set
  under_neighbours set closed = λ t inside holds.
      All-from_get_or (λ other. IsTrue (set other)) (neighbours_of halves t) 0 (λ k below.
      let own : triangle_of (3 * t + k) ≡ t = omega arith in
      subst (λ (m : ℕ). IsTrue (set m)) (sym (neighbour_at halves t k below))
      (closed (3 * t + k) (omega (arith, whole)) (subst (λ (m : ℕ). IsTrue (set m)) (sym own) holds)))

  under_twins : (set : ℕ → Bool) → IsClosedUnder count (neighbours_of halves) set → IsClosedUnderTwins halves set
  under_twins set closed = λ h inside holds.
      let t : ℕ = triangle_of h in
      let k : ℕ = h % 3 in
      let small : k < 3 = omega arith in
      let own : 3 * t + k ≡ h = omega arith in
      subst (λ (m : ℕ). IsTrue (set (triangle_of (twin_at halves m)))) own
      (subst (λ (m : ℕ). IsTrue (set m)) (neighbour_at halves t k small)
      (All-get_or (λ other. IsTrue (set other)) (neighbours_of halves t) k 0 small (closed t (omega (arith, whole)) holds)))

  joined_reachable : (t : ℕ) → IsJoined halves t → IsReachable count (neighbours_of halves) t
  joined_reachable t joined = λ set start closed. joined set start (under_twins set closed)

  reachable_joined : (t : ℕ) → IsReachable count (neighbours_of halves) t → IsJoined halves t
  reachable_joined t reachable = λ set start closed. reachable set start (under_neighbours set closed)

  -- the first triangle that can't be reached is the first that isn't joined
  pub first_apart : (t : ℕ) → IsFirstUnreachable count (neighbours_of halves) t → FailsFirst (IsTriangle halves) (IsJoined halves) t
  first_apart t first = record {
    place = omega (arith, first.node, whole);
    fails = λ joined. first.fails (joined_reachable t joined);
    before = λ k below. reachable_joined k (first.before k below);
  }

  pub none_apart : ((t : ℕ) → t < count → IsReachable count (neighbours_of halves) t) → HoldsAll (IsTriangle halves) (IsJoined halves)
  none_apart all t inside = reachable_joined t (all t (omega (arith, whole)))
