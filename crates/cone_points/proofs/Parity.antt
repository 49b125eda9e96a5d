-- The Euler characteristic of a triangulation is even.
use Rattle.std.proofs.Common.{◌≡◌, ℕ, zero, suc, ◌+◌, ◌*◌, ◌/◌, ◌%◌, ◌<◌, ◌≤◌, Bool, true, false, cond, eqb, List, [], ◌∷◌, length, subst, sym, ap, ◌∙◌, refl, arith}
use Rattle.std.specs.Prelude.{◌⊎◌, nat_lt, ℤ, pos, negsuc, neg_ℤ}
use mathlib.Core.Logic.{inl, inr}
use Rattle.rings.specs.Ring.{Ops, var, expr}
use Rattle.rings.proofs.Solver.{identity}
use Rattle.quad_field.specs.Quads.{quad, quad_ops, IsPositive}
use Rattle.quad_field.specs.declared.quad.Quad.{Quad}
use Rattle.quad_field.proofs.CallerLemmas.{quad_ring}
use Rattle.plane.specs.Vectors.{det, vector_sum, opposite_vector}
use Rattle.std.proofs.lemmas.Bool.{cases_eq, cases_lt, lt-ltb, le-ltb, ltb-true, eq-eqb, eqb-true}
use Rattle.tri_core.specs.declared.half.Half.{Half}
use Rattle.tri_core.specs.HalfEdges.{vector_at, twin_at, previous_of}
use Rattle.tri_core.specs.Triangulation.{IsTriangle, IsTriangulation}
use Rattle.cone_points.specs.Vertices.{turned, turned_often, IsVertex, IsNumberOf}
use Rattle.tri_core.specs.Flips.{IsEdge}
use Rattle.rings.proofs.Pigeonhole.{ne-eqb}
use Rattle.cone_points.proofs.Orbits.{IsPermutation, often, often_below, IsLeast}
use Rattle.cone_points.proofs.Swaps.{AreSwapped}
use Rattle.cone_points.proofs.Counts.{count, count_same, number_counted}
use Rattle.cone_points.proofs.OrbitCounts.{least_test, orbits, least_yes, least_no, orbits_same, one_apart, same_test}

abbrev pub Even : ℕ → Type 0
Even x = (k : ℕ) × (x ≡ k + k)

-- ---- the half-edge before another
back_and_forth : (h : ℕ) → 3 * (previous_of h / 3) + (previous_of h % 3 + 1) % 3 ≡ h
back_and_forth h = omega arith

previous_same_triangle : (h : ℕ) → previous_of h / 3 ≡ h / 3
previous_same_triangle h = omega arith

previous_less : (h : ℕ) → ¬ (h % 3 ≡ 0) → previous_of h < h
previous_less h ne = omega (arith, ne)

previous_below : (h n : ℕ) → n % 3 ≡ 0 → h < n → previous_of h < n
previous_below h n whole inside = omega (arith, whole, inside)

module _ (halves : List Half) (whole : length halves % 3 ≡ 0)
    (t_below : (h : ℕ) → h < length halves → twin_at halves h < length halves)
    (t_back : (h : ℕ) → h < length halves → twin_at halves (twin_at halves h) ≡ h)
    (t_apart : (h : ℕ) → h < length halves → ¬ (twin_at halves h ≡ h)) where
  abbrev n : ℕ
  n = length halves

  abbrev t : ℕ → ℕ
  t h = twin_at halves h

  -- the half-edge before another permutes
  previous_permutes : IsPermutation n previous_of
  previous_permutes = record {
    below = λ x h. previous_below x n whole h;
    injective = λ x y hx hy e. sym (back_and_forth x) ∙ ap (λ h. 3 * (h / 3) + (h % 3 + 1) % 3) e ∙ back_and_forth y;
  }

  -- the twins of the edges with names below j, and nothing else exchanged
  abbrev part : ℕ → ℕ → ℕ
  part j x = cond (nat_lt x j) (t x) (cond (nat_lt (t x) j) (t x) x)

  part_first : (j x : ℕ) → x < j → part j x ≡ t x
  part_first j x h = ap (λ b. cond b (t x) (cond (nat_lt (t x) j) (t x) x)) (lt-ltb x j h)

  part_second : (j x : ℕ) → t x < j → part j x ≡ t x
  part_second j x h = ap (λ b. cond (nat_lt x j) (t x) (cond b (t x) x)) (lt-ltb (t x) j h) ∙ same (nat_lt x j)
    where
      same : (b : Bool) → cond b (t x) (t x) ≡ t x
      same true = refl
      same false = refl

  part_other : (j x : ℕ) → j ≤ x → j ≤ t x → part j x ≡ x
  part_other j x h k =
      ap (λ b. cond b (t x) (cond (nat_lt (t x) j) (t x) x)) (le-ltb x j h) ∙ ap (λ b. cond b (t x) x) (le-ltb (t x) j k)

  -- where x stands
  data Place (j x : ℕ) : Type 0 where
    low : x < j → Place j x
    twin_low : t x < j → Place j x
    high : j ≤ x → j ≤ t x → Place j x

  place : (j x : ℕ) → Place j x
  place j x = elim (cases_lt x j) [ inl h ↦ low h | inr h ↦ elim (cases_lt (t x) j) [ inl k ↦ twin_low k | inr k ↦ high h k ] ]

  part_below : (j x : ℕ) → x < n → part j x < n
  part_below j x inside = go (place j x)
    where
      go : Place j x → part j x < n
      go (low h) = subst (λ k. k < n) (sym (part_first j x h)) (t_below x inside)
      go (twin_low h) = subst (λ k. k < n) (sym (part_second j x h)) (t_below x inside)
      go (high h k) = subst (λ k. k < n) (sym (part_other j x h k)) inside

  part_back : (j x : ℕ) → x < n → part j (part j x) ≡ x
  part_back j x inside = go (place j x)
    where
      go : Place j x → part j (part j x) ≡ x
      go (low h) = ap (part j) (part_first j x h) ∙ part_second j (t x) (subst (λ k. k < j) (sym (t_back x inside)) h) ∙ t_back x inside
      go (twin_low h) = ap (part j) (part_second j x h) ∙ part_first j (t x) h ∙ t_back x inside
      go (high h k) = ap (part j) (part_other j x h k) ∙ part_other j x h k

  -- the half-edge before another, and then those twins
  abbrev step : ℕ → ℕ → ℕ
  step j h = part j (previous_of h)

  step_permutes : (j : ℕ) → IsPermutation n (step j)
  step_permutes j = record {
    below = λ x h. part_below j (previous_of x) (previous_permutes.below x h);
    injective = λ x y hx hy e. previous_permutes.injective x y hx hy
        (sym (part_back j (previous_of x) (previous_permutes.below x hx)) ∙ ap (part j) e ∙ part_back j (previous_of y) (previous_permutes.below y hy));
  }

  -- one more edge exchanges its two half-edges
  part_swaps : (j p : ℕ) → j < n → p < n → j < t j → ((part j p ≡ j) → part (suc j) p ≡ t j) × ((part j p ≡ t j) → part (suc j) p ≡ j) × (¬ (part j p ≡ j) → ¬ (part j p ≡ t j) → part (suc j) p ≡ part j p)
  part_swaps j p jn pn edge = go (place j p)
    where
      -- a half-edge below j, or with its twin there, is neither j nor the twin of j
      go : Place j p → ((part j p ≡ j) → part (suc j) p ≡ t j) × ((part j p ≡ t j) → part (suc j) p ≡ j) × (¬ (part j p ≡ j) → ¬ (part j p ≡ t j) → part (suc j) p ≡ part j p)
      go (low h) = (
        λ e. absurd (omega (arith, h, edge, ap t (sym (part_first j p h) ∙ e), t_back p pn)),
        λ e. absurd (omega (arith, h, ap t (sym (part_first j p h) ∙ e), t_back p pn, t_back j jn)),
        λ a b. part_first (suc j) p (omega (arith, h)) ∙ sym (part_first j p h),
      )
      go (twin_low h) = (
        λ e. absurd (omega (arith, h, part_second j p h, e)),
        λ e. absurd (omega (arith, h, edge, part_second j p h, e)),
        λ a b. part_second (suc j) p (omega (arith, h)) ∙ sym (part_second j p h),
      )
      go (high h k) = (
        λ e. let q : p ≡ j = sym (part_other j p h k) ∙ e in part_first (suc j) p (omega (arith, q)) ∙ ap t q,
        λ e. let q : t p ≡ j = ap t (sym (part_other j p h k) ∙ e) ∙ t_back j jn in part_second (suc j) p (omega (arith, q)) ∙ q,
        λ a b.
            let p_other : ¬ (p ≡ j) = λ q. a (part_other j p h k ∙ q) in
            let t_other : ¬ (t p ≡ j) = λ q. b (part_other j p h k ∙ sym (t_back p pn) ∙ ap t q) in
            part_other (suc j) p (omega (arith, h, p_other)) (omega (arith, k, t_other)) ∙ sym (part_other j p h k),
      )

  -- no edge: nothing more is exchanged
  part_stays : (j p : ℕ) → j < n → p < n → t j < j → part (suc j) p ≡ part j p
  part_stays j p jn pn none = go (place j p)
    where
      go : Place j p → part (suc j) p ≡ part j p
      go (low h) = part_first (suc j) p (omega (arith, h)) ∙ sym (part_first j p h)
      go (twin_low h) = part_second (suc j) p (omega (arith, h)) ∙ sym (part_second j p h)
      go (high h k) =
          let p_other : ¬ (p ≡ j) = λ q. omega (arith, k, none, ap t q) in
          let t_other : ¬ (t p ≡ j) = λ q. omega (arith, h, none, sym (t_back p pn) ∙ ap t q) in
          part_other (suc j) p (omega (arith, h, p_other)) (omega (arith, k, t_other)) ∙ sym (part_other j p h k)

  steps_swapped : (j : ℕ) → j < n → j < t j → AreSwapped n (step j) (step (suc j)) j (t j)
  steps_swapped j jn edge = record {
    first = λ x h e. (part_swaps j (previous_of x) jn (previous_permutes.below x h) edge).0 e;
    second = λ x h e. (part_swaps j (previous_of x) jn (previous_permutes.below x h) edge).1 e;
    others = λ x h a b. (part_swaps j (previous_of x) jn (previous_permutes.below x h) edge).2 a b;
  }

  -- whether j is the name of an edge
  abbrev edge_test : ℕ → Bool
  edge_test j = nat_lt j (t j)

  -- the orbits at the start, the edges below j, and the orbits there are an even number
  evens : (j : ℕ) → j ≤ n → Even (orbits n (step 0) (step_permutes 0) + count edge_test j + orbits n (step j) (step_permutes j))
  evens zero h = (orbits n (step 0) (step_permutes 0), omega arith)
  evens (suc j) h = go (cases_lt j (t j)) (evens j (omega (arith, h)))
    where
      first : ℕ
      first = orbits n (step 0) (step_permutes 0)

      add : (a c c' x y : ℕ) → c' ≡ suc c → (x ≡ suc y) ⊎ (y ≡ suc x) → Even (a + c + x) → Even (a + c' + y)
      add a c c' x y e (inl k) w = (w.0, omega (arith, e, k, w.1))
      add a c c' x y e (inr k) w = (suc w.0, omega (arith, e, k, w.1))

      keep : (a c c' x y : ℕ) → c' ≡ c → x ≡ y → Even (a + c + x) → Even (a + c' + y)
      keep a c c' x y e k w = (w.0, omega (arith, e, k, w.1))

      go : (j < t j) ⊎ (t j ≤ j) → Even (orbits n (step 0) (step_permutes 0) + count edge_test j + orbits n (step j) (step_permutes j))
          → Even (orbits n (step 0) (step_permutes 0) + count edge_test (suc j) + orbits n (step (suc j)) (step_permutes (suc j)))
      go (inl edge) w =
          add (orbits n (step 0) (step_permutes 0)) (count edge_test j) (count edge_test (suc j)) (orbits n (step j) (step_permutes j)) (orbits n (step (suc j)) (step_permutes (suc j)))
          (ap (λ b. cond b (suc (count edge_test j)) (count edge_test j)) (lt-ltb j (t j) edge))
          (one_apart n (step j) (step (suc j)) (step_permutes j) (step_permutes (suc j)) j (t j) (omega (arith, h)) (t_below j (omega (arith, h))) (λ e. omega (arith, e, edge)) (steps_swapped j (omega (arith, h)) edge)) w
      go (inr none) w =
          let jn : j < n = omega (arith, h) in
          let less : t j < j = omega (arith, none, t_apart j jn) in
          keep (orbits n (step 0) (step_permutes 0)) (count edge_test j) (count edge_test (suc j)) (orbits n (step j) (step_permutes j)) (orbits n (step (suc j)) (step_permutes (suc j)))
          (ap (λ b. cond b (suc (count edge_test j)) (count edge_test j)) (le-ltb j (t j) none))
          (orbits_same n (step j) (step (suc j)) (step_permutes j) (step_permutes (suc j)) (λ x xn. sym (part_stays j (previous_of x) jn (previous_permutes.below x xn) less))) w

  -- ---- the orbits at the start are the triangles
  start_is : (h : ℕ) → step 0 h ≡ previous_of h
  start_is h = part_other 0 (previous_of h) (omega arith) (omega arith)

  stays_in_triangle : (m h : ℕ) → often (step 0) m h / 3 ≡ h / 3
  stays_in_triangle zero h = refl
  stays_in_triangle (suc m) h = ap (λ k. k / 3) (start_is (often (step 0) m h)) ∙ previous_same_triangle (often (step 0) m h) ∙ stays_in_triangle m h

  abbrev first_test : ℕ → Bool
  first_test h = eqb (h % 3) 0

  first_least : (h : ℕ) → h < n → least_test n (step 0) (step_permutes 0) h ≡ first_test h
  first_least h inside = same_test (least_test n (step 0) (step_permutes 0) h) (first_test h)
      (λ e. eq-eqb (h % 3) 0 (is_first (least_no n (step 0) (step_permutes 0) h inside e) (cases_eq (h % 3) 0)))
      (λ e. least_yes n (step 0) (step_permutes 0) h inside (λ k r. omega (arith, eqb-true (h % 3) 0 e, ap (λ m. m / 3) r.1, stays_in_triangle r.0 h)))
    where
      is_first : IsLeast (step 0) h → (h % 3 ≡ 0) ⊎ ¬ (h % 3 ≡ 0) → h % 3 ≡ 0
      is_first least (inl e) = e
      is_first least (inr ne) = absurd (omega (arith, least (step 0 h) (1, refl), start_is h, previous_less h ne))

  firsts : (m : ℕ) → count first_test (3 * m) ≡ m
  firsts zero = refl
  firsts (suc m) =
      ap (count first_test) (more m)
      ∙ ap (λ b. cond b (suc (count first_test (suc (suc (3 * m))))) (count first_test (suc (suc (3 * m))))) (ne-eqb (suc (suc (3 * m)) % 3) 0 (two m))
      ∙ ap (λ b. cond b (suc (count first_test (suc (3 * m)))) (count first_test (suc (3 * m)))) (ne-eqb (suc (3 * m) % 3) 0 (one m))
      ∙ ap (λ b. cond b (suc (count first_test (3 * m))) (count first_test (3 * m))) (eq-eqb (3 * m % 3) 0 (none m))
      ∙ ap suc (firsts m)
    where
      more : (m : ℕ) → 3 * suc m ≡ suc (suc (suc (3 * m)))
      more m = omega arith

      two : (m : ℕ) → ¬ (suc (suc (3 * m)) % 3 ≡ 0)
      two m = omega arith

      one : (m : ℕ) → ¬ (suc (3 * m) % 3 ≡ 0)
      one m = omega arith

      none : (m : ℕ) → 3 * m % 3 ≡ 0
      none m = omega arith

  all_counted : (m : ℕ) → count (λ k. true) m ≡ m
  all_counted zero = refl
  all_counted (suc m) = ap suc (all_counted m)

  -- ---- the orbits at the end are the vertices
  end_is : (h : ℕ) → h < n → step n h ≡ turned halves h
  end_is h inside = part_first n (previous_of h) (previous_permutes.below h inside)

  turned_is : (m h : ℕ) → h < n → often (step n) m h ≡ turned_often halves m h
  turned_is zero h inside = refl
  turned_is (suc m) h inside = end_is (often (step n) m h) (often_below n (step n) (step_permutes n) m h inside) ∙ ap (turned halves) (turned_is m h inside)

  vertices_counted : (V : ℕ) → IsNumberOf (IsVertex halves) V → V ≡ orbits n (step n) (step_permutes n)
  vertices_counted V number = number_counted (IsVertex halves) (least_test n (step n) (step_permutes n)) n V (record {
    below = λ k v. v.0;
    yes = λ k v. least_yes n (step n) (step_permutes n) k v.0 (λ y r. v.1 y (r.0, sym (turned_is r.0 k v.0) ∙ r.1));
    no = λ k h e. (h, λ y r. least_no n (step n) (step_permutes n) k h e y (r.0, turned_is r.0 k h ∙ r.1));
  }) number

  edges_counted : (E : ℕ) → IsNumberOf (IsEdge halves) E → E ≡ count edge_test n
  edges_counted E number = number_counted (IsEdge halves) edge_test n E (record {
    below = λ k e. e.0;
    yes = λ k e. lt-ltb k (t k) e.1;
    no = λ k h e. (h, ltb-true k (t k) e);
  }) number

  triangles_counted : (F : ℕ) → IsNumberOf (IsTriangle halves) F → F ≡ orbits n (step 0) (step_permutes 0)
  triangles_counted F number =
      let all : 3 * (n / 3) ≡ n = omega (arith, whole) in
      number_counted (IsTriangle halves) (λ k. true) (n / 3) F (record {
        below = λ k h. omega (arith, h, whole);
        yes = λ k h. refl;
        no = λ k h e. omega (arith, h, whole);
      }) number
      ∙ all_counted (n / 3) ∙ sym (firsts (n / 3)) ∙ ap (count first_test) all
      ∙ sym (count_same (least_test n (step 0) (step_permutes 0)) first_test n first_least)

  even_counts : (V E F : ℕ) → IsNumberOf (IsVertex halves) V → IsNumberOf (IsEdge halves) E → IsNumberOf (IsTriangle halves) F → Even (V + E + F)
  even_counts V E F vertices edges triangles =
      let w = evens n (omega arith) in
      (w.0, omega (arith, w.1, vertices_counted V vertices, edges_counted E edges, triangles_counted F triangles))

-- ---- no half-edge is its own twin
module _ (d : ℕ) where
  abbrev O : Ops Quad
  O = quad_ops d

  abbrev nought : Quad
  nought = (quad_ops d).int (pos 0)

  -- zero isn't positive
  zero_not_positive : ¬ (IsPositive d ((quad_ops d).int (pos 0)))
  zero_not_positive (inl h) = h.2 (refl, refl)
  zero_not_positive (inr (inl h)) = omega (arith, h.0)
  zero_not_positive (inr (inr h)) = omega (arith, h.0)

  -- what is its own negative is zero
  own_negative : (x : Quad) → x ≡ (quad_ops d).neg x → x ≡ (quad_ops d).int (pos 0)
  own_negative x e = λ i. quad (half x.a (ap (λ (q : Quad). q.a) e) i) (half x.b (ap (λ (q : Quad). q.b) e) i)
    where
      half : (m : ℤ) → m ≡ neg_ℤ m → m ≡ pos 0
      half (pos zero) e = refl
      half (pos (suc k)) e = absurd (cc)
      half (negsuc k) e = absurd (cc)

  -- three vectors that sum to zero, one of which is zero, don't turn
  flat : (u v w : Quad × Quad) → vector_sum O (vector_sum O u v) w ≡ (nought, nought) → (u ≡ (nought, nought)) ⊎ (v ≡ (nought, nought)) ⊎ (w ≡ (nought, nought)) → det O u v ≡ nought
  flat u v w closed (inl e) =
      ap (λ z. det O z v) e ∙ identity O (quad_ring d) (v.0 ∷ v.1 ∷ []) (det expr (expr.int (pos 0), expr.int (pos 0)) (var 0, var 1)) (expr.int (pos 0)) tt
  flat u v w closed (inr (inl e)) =
      ap (det O u) e ∙ identity O (quad_ring d) (u.0 ∷ u.1 ∷ []) (det expr (var 0, var 1) (expr.int (pos 0), expr.int (pos 0))) (expr.int (pos 0)) tt
  flat u v w closed (inr (inr e)) =
      identity O (quad_ring d) (u.0 ∷ u.1 ∷ v.0 ∷ v.1 ∷ w.0 ∷ w.1 ∷ []) (det expr (var 0, var 1) (var 2, var 3))
      (expr.sub (det expr (var 0, var 1) (expr.add (expr.add (var 0) (var 2)) (var 4), expr.add (expr.add (var 1) (var 3)) (var 5))) (det expr (var 0, var 1) (var 4, var 5))) tt
      ∙ ap (λ z. O.sub (det O u z) (det O u w)) closed ∙ ap (λ z. O.sub (det O u (nought, nought)) (det O u z)) e
      ∙ identity O (quad_ring d) (u.0 ∷ u.1 ∷ [])
      (expr.sub (det expr (var 0, var 1) (expr.int (pos 0), expr.int (pos 0))) (det expr (var 0, var 1) (expr.int (pos 0), expr.int (pos 0)))) (expr.int (pos 0)) tt

  pub own_twin : (halves : List Half) → IsTriangulation d halves → (h : ℕ) → h < length halves → ¬ (twin_at halves h ≡ h)
  own_twin halves valid h inside e = zero_not_positive (subst (IsPositive d) (flat first second third (valid.closed (h / 3) there) (which (h % 3) refl)) (valid.turns (h / 3) there))
    where
      there : 3 * (h / 3) < length halves
      there = omega (arith, inside)

      first : Quad × Quad
      first = vector_at halves (3 * (h / 3))

      second : Quad × Quad
      second = vector_at halves (3 * (h / 3) + 1)

      third : Quad × Quad
      third = vector_at halves (3 * (h / 3) + 2)

      nothing : vector_at halves h ≡ (nought, nought)
      nothing =
          let own : vector_at halves h ≡ opposite_vector O (vector_at halves h) = ap (vector_at halves) (sym e) ∙ (valid.paired h inside).2 in
          λ i. (own_negative (vector_at halves h).0 (ap (λ (z : Quad × Quad). z.0) own) i, own_negative (vector_at halves h).1 (ap (λ (z : Quad × Quad). z.1) own) i)

      which : (k : ℕ) → h % 3 ≡ k → (first ≡ (nought, nought)) ⊎ (second ≡ (nought, nought)) ⊎ (third ≡ (nought, nought))
      which zero k = let at : 3 * (h / 3) ≡ h = omega (arith, k) in inl (ap (vector_at halves) at ∙ nothing)
      which (suc zero) k = let at : 3 * (h / 3) + 1 ≡ h = omega (arith, k) in inr (inl (ap (vector_at halves) at ∙ nothing))
      which (suc (suc zero)) k = let at : 3 * (h / 3) + 2 ≡ h = omega (arith, k) in inr (inr (ap (vector_at halves) at ∙ nothing))
      which (suc (suc (suc m))) k = absurd (omega (arith, k))

-- vertices, edges and triangles together are an even number
pub even : (d : ℕ) (halves : List Half) → IsTriangulation d halves → (V E F : ℕ) → IsNumberOf (IsVertex halves) V → IsNumberOf (IsEdge halves) E → IsNumberOf (IsTriangle halves) F
    → (k : ℕ) × (V + E + F ≡ k + k)
even d halves valid V E F vertices edges triangles =
    even_counts halves valid.count.0 (λ h inside. (valid.paired h inside).0) (λ h inside. (valid.paired h inside).1) (own_twin d halves valid) V E F vertices edges triangles
