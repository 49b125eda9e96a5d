-- What flips at all members of a set leave: the sides behind a member, and a triangulation where each member's quadrilateral is strictly convex.
use Rattle.std.proofs.Common.{◌≡◌, ℕ, ◌*◌, ◌%◌, ◌<◌, ◌≤◌, Bool, true, false, List, length, sym, ap, ◌∙◌, subst, inl, inr}
use Rattle.std.proofs.lemmas.Bool.{cases_Bool}
use Rattle.quad_field.specs.Quads.{quad_ops}
use Rattle.quad_field.proofs.CallerLemmas.{quad_ring}
use Rattle.plane.specs.Vectors.{vector_sum, opposite_vector}
use Rattle.tri_core.specs.declared.half.Half.{Half}
use Rattle.tri_core.specs.HalfEdges.{vector_at, twin_at, triangle_of, next_of, previous_of}
use Rattle.tri_core.specs.Triangulation.{IsTriangulation, IsPaired, IsClosedUnderTwins, TurnsInto}
use Rattle.tri_core.specs.Flips.{previous_of_twin}
use Rattle.tri_core.specs.SeveralFlips.{IsSpread, number_after_all, AreFlipped}
use Rattle.tri_core.proofs.CallerLemmas.{side_next, side_previous, next_next, previous_previous, next_previous, previous_next, next_inside, previous_inside, twin_inside}
use Rattle.tri_core.proofs.CallerLemmas.{IsTripleAt, triple_at, triple_first, triple_along, triple_of, across, comes_from, number_following, number_preceding, number_staying}

module _ (d : ℕ) (halves : List Half) (valid : IsTriangulation d halves) (set : ℕ → Bool) (spread : IsSpread halves set) (later : List Half) (flips : AreFlipped d halves set later) where
  abbrev number : ℕ → ℕ
  number k = number_after_all halves set k

  pub still_inside : (k : ℕ) → k < length halves → k < length later
  still_inside k = subst (λ (l : ℕ). k < l) (sym flips.count)

  -- ---- the triangles of a member
  pub twin_member : (h : ℕ) → h < length halves → set h ≡ true → set (twin_at halves h) ≡ true
  twin_member h below e = spread.twin h below ∙ e

  pub member_stays : (h : ℕ) → h < length halves → set h ≡ true → number_after_all halves set h ≡ h
  member_stays h below e = number_staying halves set h (spread.before h below e) (spread.after h below e)

  pub member_twin : (h : ℕ) → h < length halves → set h ≡ true → twin_at later h ≡ twin_at halves h
  member_twin h below e =
      ap (twin_at later) (sym (member_stays h below e)) ∙ flips.twins h below
      ∙ member_stays (twin_at halves h) (twin_inside d halves h valid below) (twin_member h below e)

  pub next_goes : (h : ℕ) → h < length halves → set h ≡ true → number_after_all halves set (next_of h) ≡ previous_of h
  next_goes h below e = number_following halves set (next_of h) (ap set (previous_next h) ∙ e) ∙ next_next h

  pub previous_goes : (h : ℕ) → h < length halves → set h ≡ true → number_after_all halves set (previous_of h) ≡ next_of (twin_at halves h)
  previous_goes h below e =
      number_preceding halves set (previous_of h) (ap set (previous_previous h) ∙ spread.after h below e) (ap set (next_previous h) ∙ e)
      ∙ ap (λ (i : ℕ). next_of (twin_at halves i)) (next_previous h)

  pub at_previous : (h : ℕ) → h < length halves → set h ≡ true → vector_at later (previous_of h) ≡ vector_at halves (next_of h)
  at_previous h below e = ap (vector_at later) (sym (next_goes h below e)) ∙ flips.vectors (next_of h) (next_inside d halves h valid below) (spread.after h below e)

  pub at_next_of_twin : (h : ℕ) → h < length halves → set h ≡ true → vector_at later (next_of (twin_at halves h)) ≡ vector_at halves (previous_of h)
  at_next_of_twin h below e =
      ap (vector_at later) (sym (previous_goes h below e)) ∙ flips.vectors (previous_of h) (previous_inside d halves h valid below) (spread.before h below e)

  pub at_next : (h : ℕ) → h < length halves → set h ≡ true → vector_at later (next_of h) ≡ vector_at halves (previous_of (twin_at halves h))
  at_next h below e =
      ap (λ (i : ℕ). vector_at later (next_of i)) (sym (valid.paired h below).1)
      ∙ at_next_of_twin (twin_at halves h) (twin_inside d halves h valid below) (twin_member h below e)

  -- the diagonal by the other two sides of its quadrilateral
  pub at_twin : (h : ℕ) → h < length halves → set h ≡ true
      → vector_at later (twin_at halves h) ≡ opposite_vector (quad_ops d) (vector_sum (quad_ops d) (vector_at halves (previous_of h)) (vector_at halves (next_of (twin_at halves h))))
  at_twin h below e =
      let O = quad_ops d in
      let g = twin_at halves h in
      flips.diagonals g (twin_inside d halves h valid below) (twin_member h below e)
      ∙ ap (λ (i : ℕ). opposite_vector O (vector_sum O (vector_at halves (previous_of i)) (vector_at halves (next_of g)))) (valid.paired h below).1

  -- ---- a triangle without a member
  pub record IsClear (k : ℕ) : Type 0 where
    pub own : set k ≡ false
    pub after : set (next_of k) ≡ false
    pub before : set (previous_of k) ≡ false

  clear_next : (k : ℕ) → IsClear k → IsClear (next_of k)
  clear_next k c = record { own = c.after; after = ap set (next_next k) ∙ c.before; before = ap set (previous_next k) ∙ c.own }

  clear_previous : (k : ℕ) → IsClear k → IsClear (previous_of k)
  clear_previous k c = record { own = c.before; after = ap set (next_previous k) ∙ c.own; before = ap set (previous_previous k) ∙ c.after }

  pub clear_vector : (k : ℕ) → k < length halves → IsClear k → vector_at later k ≡ vector_at halves k
  clear_vector k below c = ap (vector_at later) (sym (number_staying halves set k c.before c.after)) ∙ flips.vectors k below c.own

  pub clear_next_vector : (k : ℕ) → k < length halves → IsClear k → vector_at later (next_of k) ≡ vector_at halves (next_of k)
  clear_next_vector k below c = clear_vector (next_of k) (next_inside d halves k valid below) (clear_next k c)

  pub clear_previous_vector : (k : ℕ) → k < length halves → IsClear k → vector_at later (previous_of k) ≡ vector_at halves (previous_of k)
  clear_previous_vector k below c = clear_vector (previous_of k) (previous_inside d halves k valid below) (clear_previous k c)

  pub clear_twin : (k : ℕ) → k < length halves → IsClear k → IsClear (twin_at halves k) → twin_at later k ≡ twin_at halves k
  clear_twin k below c t =
      ap (twin_at later) (sym (number_staying halves set k c.before c.after)) ∙ flips.twins k below ∙ number_staying halves set (twin_at halves k) t.before t.after

  -- ---- numbers stay below the length, and twins are twins
  pub number_inside : (k : ℕ) → k < length halves → number_after_all halves set k < length halves
  number_inside k below = elim (cases_Bool (set (previous_of k))) [
    | inl e ↦ subst (λ (i : ℕ). i < length halves) (sym (number_following halves set k e)) (next_inside d halves k valid below)
    | inr a ↦ elim (cases_Bool (set (next_of k))) [
      | inl e ↦
          let after = next_inside d halves k valid below in
          subst (λ (i : ℕ). i < length halves) (sym (number_preceding halves set k a e))
          (next_inside d halves (twin_at halves (next_of k)) valid (twin_inside d halves (next_of k) valid after))
      | inr b ↦ subst (λ (i : ℕ). i < length halves) (sym (number_staying halves set k a b)) below
    ]
  ]

  member_paired : (h : ℕ) → h < length halves → set h ≡ true → IsPaired d later h
  member_paired h below e =
      let O = quad_ops d in
      let g = twin_at halves h in
      let there = twin_inside d halves h valid below in
      let paired = valid.paired h below in
      let twin = member_twin h below e in
      let p = vector_at halves (previous_of h) in
      let q = vector_at halves (next_of g) in
      let r = vector_at halves (previous_of g) in
      let n = vector_at halves (next_of h) in (
        subst (λ (i : ℕ). i < length later) (sym twin) (still_inside g there),
        ap (twin_at later) twin ∙ member_twin g there (twin_member h below e) ∙ paired.1,
        ap (vector_at later) twin ∙ at_twin h below e
            ∙ ap (opposite_vector O) (across O (quad_ring d) (vector_at halves h) (vector_at halves g) n p q r paired.2 (triple_at d halves h valid below).closed (triple_at d halves g valid there).closed)
            ∙ ap (opposite_vector O) (sym (flips.diagonals h below e)),
      )

  moved_paired : (j : ℕ) → j < length halves → set j ≡ false → IsPaired d later (number_after_all halves set j)
  moved_paired j below free =
      let m = twin_at halves j in
      let there = twin_inside d halves j valid below in
      let paired = valid.paired j below in
      let twin = flips.twins j below in (
        subst (λ (i : ℕ). i < length later) (sym twin) (still_inside (number m) (number_inside m there)),
        ap (twin_at later) twin ∙ flips.twins m there ∙ ap number paired.1,
        ap (vector_at later) twin ∙ flips.vectors m there (spread.twin j below ∙ free) ∙ paired.2 ∙ ap (opposite_vector (quad_ops d)) (sym (flips.vectors j below free)),
      )

  still_paired : (k : ℕ) → k < length halves → IsPaired d later k
  still_paired k below = elim (cases_Bool (set k)) [
    | inl e ↦ member_paired k below e
    | inr free ↦
        let o = comes_from d halves valid set spread k below in
        subst (IsPaired d later) o.goes (moved_paired o.origin o.inside (o.outside free))
  ]

  -- ---- all triangles are joined: the two of a member are in one set that is closed under twins
  module _ (triangles : ℕ → Bool) (closed : IsClosedUnderTwins later triangles) where
    across_member : (h : ℕ) → h < length halves → set h ≡ true → triangles (triangle_of h) ≡ true → triangles (triangle_of (twin_at halves h)) ≡ true
    across_member h below e holds = subst (λ (i : ℕ). triangles (triangle_of i) ≡ true) (member_twin h below e) (closed h (still_inside h below) holds)

    there_too : (k : ℕ) → k < length halves → triangles (triangle_of k) ≡ true → triangles (triangle_of (number_after_all halves set k)) ≡ true
    there_too k below holds = elim (cases_Bool (set (previous_of k))) [
      | inl e ↦ ap (λ (i : ℕ). triangles (triangle_of i)) (number_following halves set k e) ∙ ap triangles (side_next k) ∙ holds
      | inr a ↦ elim (cases_Bool (set (next_of k))) [
        | inl e ↦
            let h = next_of k in
            ap (λ (i : ℕ). triangles (triangle_of i)) (number_preceding halves set k a e) ∙ ap triangles (side_next (twin_at halves h))
            ∙ across_member h (next_inside d halves k valid below) e (ap triangles (side_next k) ∙ holds)
        | inr b ↦ ap (λ (i : ℕ). triangles (triangle_of i)) (number_staying halves set k a b) ∙ holds
      ]
    ]

    here_too : (k : ℕ) → k < length halves → triangles (triangle_of (number_after_all halves set k)) ≡ true → triangles (triangle_of k) ≡ true
    here_too k below holds = elim (cases_Bool (set (previous_of k))) [
      | inl e ↦ sym (ap (λ (i : ℕ). triangles (triangle_of i)) (number_following halves set k e) ∙ ap triangles (side_next k)) ∙ holds
      | inr a ↦ elim (cases_Bool (set (next_of k))) [
        | inl e ↦
            let h = next_of k in
            let after = next_inside d halves k valid below in
            let g = twin_at halves h in
            sym (ap triangles (side_next k)) ∙ sym (ap (λ (i : ℕ). triangles (triangle_of i)) (valid.paired h after).1)
            ∙ across_member g (twin_inside d halves h valid after) (twin_member h after e)
            (sym (ap (λ (i : ℕ). triangles (triangle_of i)) (number_preceding halves set k a e) ∙ ap triangles (side_next g)) ∙ holds)
        | inr b ↦ sym (ap (λ (i : ℕ). triangles (triangle_of i)) (number_staying halves set k a b)) ∙ holds
      ]
    ]

    closed_before : IsClosedUnderTwins halves triangles
    closed_before k below holds =
        here_too (twin_at halves k) (twin_inside d halves k valid below)
        (sym (ap (λ (i : ℕ). triangles (triangle_of i)) (flips.twins k below)) ∙ closed (number k) (still_inside (number k) (number_inside k below)) (there_too k below holds))

  -- ---- a triangulation
  module _ (turns : (h : ℕ) → h < length halves → set h ≡ true → TurnsInto d halves (previous_of_twin halves h) (next_of h)) where
    member_triple : (h : ℕ) → h < length halves → set h ≡ true → IsTripleAt d later h
    member_triple h below e =
        rw (flips.diagonals h below e, at_next h below e, at_previous h below e)
        (triple_first d (vector_at halves (previous_of (twin_at halves h))) (vector_at halves (next_of h)) (turns h below e))

    clear_triple : (k : ℕ) → k < length halves → IsClear k → IsTripleAt d later k
    clear_triple k below c = rw (clear_vector k below c, clear_next_vector k below c, clear_previous_vector k below c) (triple_at d halves k valid below)

    triples : (k : ℕ) → k < length halves → IsTripleAt d later k
    triples k below = elim (cases_Bool (set k)) [
      | inl e ↦ member_triple k below e
      | inr a ↦ elim (cases_Bool (set (next_of k))) [
        | inl e ↦ triple_along d later (next_of k) k (side_next k) (member_triple (next_of k) (next_inside d halves k valid below) e)
        | inr b ↦ elim (cases_Bool (set (previous_of k))) [
          | inl e ↦ triple_along d later (previous_of k) k (side_previous k) (member_triple (previous_of k) (previous_inside d halves k valid below) e)
          | inr c ↦ clear_triple k below (record { own = a; after = b; before = c })
        ]
      ]
    ]

    within : (k : ℕ) → k < length later → k < length halves
    within k = subst (λ (l : ℕ). k < l) flips.count

    pub flipped_valid : IsTriangulation d later
    flipped_valid = record {
      count = subst (λ (l : ℕ). (l % 3 ≡ 0) × (6 ≤ l) × (l ≤ 768)) (sym flips.count) valid.count;
      closed = λ t inside. (triple_of d later t (triples (3 * t) (within (3 * t) inside))).closed;
      turns = λ t inside. (triple_of d later t (triples (3 * t) (within (3 * t) inside))).turns;
      paired = λ k inside. still_paired k (within k inside);
      joined = λ t inside triangles first closed. valid.joined t (within (3 * t) inside) triangles first (closed_before triangles closed);
    }
