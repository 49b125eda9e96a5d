-- A flip of a triangulation at the edge of a strictly convex quadrilateral is a triangulation.
use Rattle.std.proofs.Common.{◌≡◌, ◌⊎◌, ℕ, ◌*◌, ◌<◌, Bool, true, List, length, sym, ◌∙◌, ap, subst, inl, inr, arith}
use Rattle.std.proofs.lemmas.Bool.{cases_eq}
use Rattle.quad_field.specs.Quads.{quad_ops}
use Rattle.plane.specs.Vectors.{opposite_vector}
use Rattle.tri_core.specs.declared.half.Half.{Half}
use Rattle.tri_core.specs.HalfEdges.{vector_at, twin_at, triangle_of, next_of, previous_of}
use Rattle.tri_core.specs.Triangulation.{IsTriangulation, IsTriangle, IsPaired, IsClosedUnderTwins}
use Rattle.tri_core.specs.Flips.{IsStrictlyConvex, IsFlip, number_after, AreApart}
use Rattle.tri_core.proofs.Moves.{number_before, number_forth, number_same, number_within, before_within, first_not_outer, second_not_outer, outer_or_not, outer_triangle, after_triangle}
use Rattle.tri_core.proofs.Quadrilaterals.{triple_first, triple_second, from_opposite}
use Rattle.tri_core.proofs.Triangles.{IsTripleAt, IsTripleOf, triple_at, triple_of, triple_along, side_next, side_previous}
use Rattle.tri_core.proofs.Leaves.{Leaves, leaves}

module _ (d : ℕ) (halves : List Half) (h : ℕ) (later : List Half) (valid : IsTriangulation d halves) (below : h < length halves) (convex : IsStrictlyConvex d halves h) (flip : IsFlip d halves h later) where
  abbrev g : ℕ
  g = twin_at halves h

  abbrev number : ℕ → ℕ
  number k = number_after h g k

  left : Leaves d halves h g later
  left = leaves d halves h later valid below flip g (λ i. g)

  apart : AreApart halves h g
  apart = left.apart

  number-h : number h ≡ h
  number-h = number_same h g h (first_not_outer h g apart.apart)

  number-g : number g ≡ g
  number-g = number_same h g g (second_not_outer h g apart.apart)

  back-g : twin_at halves g ≡ h
  back-g = (valid.paired h below).1

  -- the two new triangles
  triple-h : IsTripleAt d later h
  triple-h = rw (left.diagonal, left.at_next, left.at_previous) (triple_first d (vector_at halves (previous_of g)) (vector_at halves (next_of h)) convex.fourth)

  triple-g : IsTripleAt d later g
  triple-g =
      rw (left.opposite, left.diagonal, left.at_next_of_twin, left.at_previous_of_twin)
      (triple_second d (vector_at halves h) (vector_at halves g) (vector_at halves (next_of h)) (vector_at halves (previous_of h)) (vector_at halves (next_of g)) (vector_at halves (previous_of g))
      (valid.paired h below).2 (triple_at d halves h valid apart.first) (triple_at d halves g valid apart.second) convex.second)

  triple-elsewhere : (k : ℕ) → k < length halves → ¬ (triangle_of k ≡ triangle_of h) → ¬ (triangle_of k ≡ triangle_of g) → IsTripleAt d later k
  triple-elsewhere k inside a b =
      let whole = apart.count in
      rw (
        left.elsewhere k inside a b,
        left.elsewhere (next_of k) (omega arith) (λ e. a (sym (side_next k) ∙ e)) (λ e. b (sym (side_next k) ∙ e)),
        left.elsewhere (previous_of k) (omega arith) (λ e. a (sym (side_previous k) ∙ e)) (λ e. b (sym (side_previous k) ∙ e)),
      )
      (triple_at d halves k valid inside)

  -- every triangle
  triples : (t : ℕ) → IsTriangle later t → IsTripleOf d later t
  triples t inside =
      let first : triangle_of (3 * t) ≡ t = omega arith in
      triple_of d later t (elim (cases_eq (triangle_of h) t) [
        | inl e ↦ triple_along d later h (3 * t) (e ∙ sym first) triple-h
        | inr a ↦ elim (cases_eq (triangle_of g) t) [
          | inl e ↦ triple_along d later g (3 * t) (e ∙ sym first) triple-g
          | inr b ↦
              let e : triangle_of (3 * t) ≡ t = omega arith in
              triple-elsewhere (3 * t) (subst (λ (l : ℕ). 3 * t < l) flip.count inside) (λ same. a (sym same ∙ e)) (λ same. b (sym same ∙ e))
        ]
      ])

  -- twins are carried along
  paired-number : (k : ℕ) → k < length halves → IsPaired d later (number k)
  paired-number k inside_k =
      let twin = flip.twins k inside_k in
      let old = valid.paired k inside_k in
      let inside = number_within h g (twin_at halves k) (length halves) apart.count apart.first apart.second old.0 in (
        subst (λ (m : ℕ). m < length later) (sym twin) (subst (λ (l : ℕ). number (twin_at halves k) < l) (sym flip.count) inside),
        ap (twin_at later) twin ∙ flip.twins (twin_at halves k) old.0 ∙ ap number old.1,
        ap (vector_at later) twin ∙ opposite-number k inside_k,
      )
    where
      opposite-number : (k : ℕ) → k < length halves → vector_at later (number (twin_at halves k)) ≡ opposite_vector (quad_ops d) (vector_at later (number k))
      opposite-number k inside_k = elim (cases_eq k h) [
        | inl e ↦ ap (vector_at later) (ap (λ (m : ℕ). number (twin_at halves m)) e ∙ number-g) ∙ flip.opposite ∙ ap (λ (m : ℕ). opposite_vector (quad_ops d) (vector_at later m)) (sym number-h ∙ ap number (sym e))
        | inr a ↦ elim (cases_eq k g) [
          | inl e ↦ ap (vector_at later) (ap (λ (m : ℕ). number (twin_at halves m)) e ∙ ap number back-g ∙ number-h)
              ∙ from_opposite d (vector_at later h) (vector_at later g) flip.opposite
              ∙ ap (λ (m : ℕ). opposite_vector (quad_ops d) (vector_at later m)) (sym number-g ∙ ap number (sym e))
          | inr b ↦
              let old = valid.paired k inside_k in
              flip.vectors (twin_at halves k) old.0 (λ e. b (sym old.1 ∙ ap (twin_at halves) e)) (λ e. a (sym old.1 ∙ ap (twin_at halves) e ∙ back-g))
              ∙ old.2 ∙ ap (opposite_vector (quad_ops d)) (sym (flip.vectors k inside_k a b))
        ]
      ]

  paired : (m : ℕ) → m < length later → IsPaired d later m
  paired m inside_m =
      let inside : m < length halves = subst (λ (l : ℕ). m < l) flip.count inside_m in
      subst (IsPaired d later) (number_forth h g m apart.apart)
      (paired-number (number_before h g m) (before_within h g m (length halves) apart.count apart.first apart.second inside))

  module _ (set : ℕ → Bool) (closed : IsClosedUnderTwins later set) where
    -- the two triangles are both in the set, or both not
    to-g : set (triangle_of h) ≡ true → set (triangle_of g) ≡ true
    to-g is =
        let twin : twin_at later h ≡ g = ap (twin_at later) (sym number-h) ∙ flip.twins h below ∙ number-g in
        subst (λ (m : ℕ). set (triangle_of m) ≡ true) twin (closed h (subst (λ (l : ℕ). h < l) (sym flip.count) below) is)

    to-h : set (triangle_of g) ≡ true → set (triangle_of h) ≡ true
    to-h is =
        let twin : twin_at later g ≡ h = ap (twin_at later) (sym number-g) ∙ flip.twins g apart.second ∙ ap number back-g ∙ number-h in
        subst (λ (m : ℕ). set (triangle_of m) ≡ true) twin (closed g (subst (λ (l : ℕ). g < l) (sym flip.count) apart.second) is)

    between : (a b : ℕ) → (a ≡ triangle_of h) ⊎ (a ≡ triangle_of g) → (b ≡ triangle_of h) ⊎ (b ≡ triangle_of g) → set a ≡ true → set b ≡ true
    between a b first second is = elim first [
      | inl e ↦ elim second [
        | inl f ↦ ap set (f ∙ sym e) ∙ is
        | inr f ↦ ap set f ∙ to-g (ap set (sym e) ∙ is)
      ]
      | inr e ↦ elim second [
        | inl f ↦ ap set f ∙ to-h (ap set (sym e) ∙ is)
        | inr f ↦ ap set (f ∙ sym e) ∙ is
      ]
    ]

    -- so are the triangles of a half-edge before and after
    to-number : (k : ℕ) → set (triangle_of k) ≡ true → set (triangle_of (number k)) ≡ true
    to-number k is = elim (outer_or_not h g k) [
      | inl o ↦ between (triangle_of k) (triangle_of (number k)) (outer_triangle h g k o) (after_triangle h g k apart.apart o) is
      | inr none ↦ ap (λ (m : ℕ). set (triangle_of m)) (number_same h g k none) ∙ is
    ]

    from-number : (k : ℕ) → set (triangle_of (number k)) ≡ true → set (triangle_of k) ≡ true
    from-number k is = elim (outer_or_not h g k) [
      | inl o ↦ between (triangle_of (number k)) (triangle_of k) (after_triangle h g k apart.apart o) (outer_triangle h g k o) is
      | inr none ↦ ap (λ (m : ℕ). set (triangle_of m)) (sym (number_same h g k none)) ∙ is
    ]

    closed-before : IsClosedUnderTwins halves set
    closed-before k inside_k is =
        let inside : number k < length later = subst (λ (l : ℕ). number k < l) (sym flip.count) (number_within h g k (length halves) apart.count apart.first apart.second inside_k) in
        from-number (twin_at halves k) (subst (λ (m : ℕ). set (triangle_of m) ≡ true) (flip.twins k inside_k) (closed (number k) inside (to-number k is)))

  -- the flip is a triangulation
  pub triangulation-flip : IsTriangulation d later
  triangulation-flip = record {
    count = rw flip.count valid.count;
    closed = λ t inside. (triples t inside).closed;
    turns = λ t inside. (triples t inside).turns;
    paired = paired;
    joined = λ t inside set start closed. valid.joined t (subst (λ (l : ℕ). 3 * t < l) flip.count inside) set start (closed-before set closed);
  }
