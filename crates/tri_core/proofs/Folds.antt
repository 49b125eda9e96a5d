-- Flips one after another are flips at all members of a set, where no two of them share a triangle.
use Rattle.std.proofs.Common.{◌≡◌, ◌≢◌, ◌⊎◌, ℕ, zero, suc, ◌<◌, ◌≤◌, Bool, true, false, List, length, refl, sym, ap, ◌∙◌, subst, arith, inl, inr}
use Rattle.std.specs.Prelude.{◌||◌, ◌==◌, slice_index}
use Rattle.std.proofs.lemmas.Bool.{cases_Bool, cases_eq, true≢false, or_parts, or_from, or_left, or_right, or_cases, eqb-true, eqb-false, eq-eqb, ne_eqb, false_from_ne_true}
use Rattle.quad_field.specs.Quads.{quad_ops}
use Rattle.quad_field.proofs.CallerLemmas.{quad_ring}
use Rattle.plane.specs.Vectors.{vector_sum, opposite_vector}
use Rattle.tri_core.specs.declared.half.Half.{Half}
use Rattle.tri_core.specs.HalfEdges.{vector_at, twin_at, next_of, previous_of}
use Rattle.tri_core.specs.Triangulation.{IsTriangulation}
use Rattle.tri_core.specs.Flips.{IsFlip, number_after, IsOuter, AreApart}
use Rattle.tri_core.specs.SeveralFlips.{AfterFirst, is_either, is_among, IsSpread, number_after_all, AreFlipped}
use Rattle.tri_core.proofs.Moves.{cycled-first, cycled-second, cycled-third, cycled-fourth, number_same, outer_or_not}
use Rattle.tri_core.proofs.Stores.{AreSix, six}
use Rattle.tri_core.proofs.Quadrilaterals.{across}
use Rattle.tri_core.proofs.Triangles.{triple_at, half_apart, next_next, previous_previous, next_previous, previous_next}
use Rattle.tri_core.proofs.SeveralFlips.{number_following, number_preceding, number_staying}

-- true and false are two
clash : {X : Type 0} (b : Bool) → b ≡ true → b ≡ false → X
clash b e f = absurd (true≢false (sym e ∙ f))

-- one of two half-edges
pub either_first : (h g : ℕ) → is_either h g h ≡ true
either_first h g = or_left (h == h) (h == g) (eq-eqb h h refl)

pub either_second : (h g : ℕ) → is_either h g g ≡ true
either_second h g = or_right (g == h) (g == g) (eq-eqb g g refl)

pub either_cases : (h g k : ℕ) → is_either h g k ≡ true → (k ≡ h) ⊎ (k ≡ g)
either_cases h g k e = elim (or_cases (k == h) (k == g) e) [ inl f ↦ inl (eqb-true k h f) | inr f ↦ inr (eqb-true k g f) ]

pub neither : (h g k : ℕ) → k ≢ h → k ≢ g → is_either h g k ≡ false
neither h g k a b = or_from (k == h) (k == g) (ne_eqb k h a) (ne_eqb k g b)

pub neither_parts : (h g k : ℕ) → is_either h g k ≡ false → (k ≢ h) × (k ≢ g)
neither_parts h g k e = let p = or_parts (k == h) (k == g) e in (eqb-false k h p.0, eqb-false k g p.1)

-- ---- one flip more
module _ (d : ℕ) (halves : List Half) (valid : IsTriangulation d halves) (set : ℕ → Bool) (closed : (k : ℕ) → k < length halves → set (twin_at halves k) ≡ set k)
    (middle : List Half) (flips : AreFlipped d halves set middle) (h : ℕ) (below : h < length halves) (fresh : set h ≡ false)
    (spread : IsSpread halves (λ k. set k || is_either h (twin_at halves h) k)) (later : List Half) (flip : IsFlip d middle h later) where
  abbrev g : ℕ
  g = twin_at halves h

  abbrev union : ℕ → Bool
  union k = set k || is_either h g k

  inside_g : twin_at halves h < length halves
  inside_g = (valid.paired h below).0

  back_g : twin_at halves (twin_at halves h) ≡ h
  back_g = (valid.paired h below).1

  apart : AreApart halves h (twin_at halves h)
  apart = half_apart d halves h valid below

  s : AreSix (length halves) h (twin_at halves h) (next_of h) (previous_of h) (next_of (twin_at halves h)) (previous_of (twin_at halves h))
  s = six halves h (twin_at halves h) apart

  round_next : (k : ℕ) → k < length halves → next_of k < length halves
  round_next k inside = let whole = valid.count.0 in omega arith

  round_previous : (k : ℕ) → k < length halves → previous_of k < length halves
  round_previous k inside = let whole = valid.count.0 in omega arith

  -- members
  old_member : (k : ℕ) → set k ≡ true → union k ≡ true
  old_member k e = or_left (set k) (is_either h g k) e

  h_member : union h ≡ true
  h_member = or_right (set h) (is_either h g h) (either_first h g)

  g_member : union (twin_at halves h) ≡ true
  g_member = or_right (set g) (is_either h g g) (either_second h g)

  free_parts : (k : ℕ) → union k ≡ false → (set k ≡ false) × (k ≢ h) × (k ≢ twin_at halves h)
  free_parts k e = let p = or_parts (set k) (is_either h g k) e in let q = neither_parts h g k p.1 in (p.0, q.0, q.1)

  still_free : (k : ℕ) → set k ≡ false → k ≢ h → k ≢ twin_at halves h → union k ≡ false
  still_free k a b c = or_from (set k) (is_either h g k) a (neither h g k b c)

  fresh_g : set (twin_at halves h) ≡ false
  fresh_g = closed h below ∙ fresh

  -- no member of the first set in the triangle of k
  pub record IsClear (k : ℕ) : Type 0 where
    pub own : set k ≡ false
    pub after : set (next_of k) ≡ false
    pub before : set (previous_of k) ≡ false

  clear_h : IsClear h
  clear_h = record { own = fresh; after = (free_parts (next_of h) (spread.after h below h_member)).0; before = (free_parts (previous_of h) (spread.before h below h_member)).0 }

  clear_g : IsClear (twin_at halves h)
  clear_g = record { own = fresh_g; after = (free_parts (next_of g) (spread.after g inside_g g_member)).0; before = (free_parts (previous_of g) (spread.before g inside_g g_member)).0 }

  clear_next : (k : ℕ) → IsClear k → IsClear (next_of k)
  clear_next k c = record { own = c.after; after = ap set (next_next k) ∙ c.before; before = ap set (previous_next k) ∙ c.own }

  clear_previous : (k : ℕ) → IsClear k → IsClear (previous_of k)
  clear_previous k c = record { own = c.before; after = ap set (next_previous k) ∙ c.own; before = ap set (previous_previous k) ∙ c.after }

  clear_outer : (k : ℕ) → IsOuter h (twin_at halves h) k → IsClear k
  clear_outer k o = elim o [
    | inl e ↦ subst IsClear (sym e) (clear_next h clear_h)
    | inr o ↦ elim o [
      | inl e ↦ subst IsClear (sym e) (clear_previous h clear_h)
      | inr o ↦ elim o [
        | inl e ↦ subst IsClear (sym e) (clear_next g clear_g)
        | inr e ↦ subst IsClear (sym e) (clear_previous g clear_g)
      ]
    ]
  ]

  -- a clear half-edge number_staying, and keeps its vector
  clear_stays : (k : ℕ) → IsClear k → number_after_all halves set k ≡ k
  clear_stays k c = number_staying halves set k c.before c.after

  clear_vector : (k : ℕ) → k < length halves → IsClear k → vector_at middle k ≡ vector_at halves k
  clear_vector k inside c = ap (vector_at middle) (sym (clear_stays k c)) ∙ flips.vectors k inside c.own

  twin_middle : twin_at middle h ≡ twin_at halves h
  twin_middle = ap (twin_at middle) (sym (clear_stays h clear_h)) ∙ flips.twins h below ∙ clear_stays g clear_g

  -- where k goes in the flip, by the twin of the first triangulation
  after_middle : (k : ℕ) → number_after h (twin_at middle h) k ≡ number_after h (twin_at halves h) k
  after_middle k = ap (λ (m : ℕ). number_after h m k) twin_middle

  -- what isn't clear number_staying in the flip
  unclear_stays : (k : ℕ) → ¬ (IsClear k) → number_after h (twin_at middle h) k ≡ k
  unclear_stays k none = after_middle k ∙ number_same h g k (λ o. none (clear_outer k o))

  -- where k goes in all flips
  pub after_union : (k : ℕ) → k < length halves → number_after_all halves union k ≡ number_after h (twin_at middle h) (number_after_all halves set k)
  after_union k inside = elim (cases_Bool (set (previous_of k))) [
    | inl e ↦
        let there = next_of k in
        number_following halves union k (old_member (previous_of k) e)
        ∙ sym (ap (number_after h (twin_at middle h)) (number_following halves set k e) ∙ unclear_stays there (λ c. clash (set (next_of there)) (ap set (next_next k) ∙ e) c.after))
    | inr a ↦ elim (cases_Bool (set (next_of k))) [
      | inl e ↦
          let n = next_of k in
          let x = twin_at halves n in
          let there = next_of x in
          let member : set x ≡ true = closed n (round_next k inside) ∙ e in
          let none : union (previous_of k) ≡ false = ap union (sym (next_next k)) ∙ spread.after n (round_next k inside) (old_member n e) in
          number_preceding halves union k none (old_member n e)
          ∙ sym (ap (number_after h (twin_at middle h)) (number_preceding halves set k a e) ∙ unclear_stays there (λ c. clash (set (previous_of there)) (ap set (previous_next x) ∙ member) c.before))
      | inr b ↦ plain k inside a b ∙ sym (ap (number_after h (twin_at middle h)) (number_staying halves set k a b) ∙ after_middle k)
    ]
  ]
    where
      plain : (k : ℕ) → k < length halves → set (previous_of k) ≡ false → set (next_of k) ≡ false → number_after_all halves (λ k. set k || is_either h (twin_at halves h) k) k ≡ number_after h (twin_at halves h) k
      plain k inside a b = elim (outer_or_not h g k) [
        | inl o ↦ elim o [
          | inl e ↦
              number_following halves union k (ap union (ap previous_of e ∙ previous_next h) ∙ h_member) ∙ ap next_of e ∙ next_next h
              ∙ sym (cycled-first (next_of h) (previous_of h) (next_of g) (previous_of g) k e)
          | inr o ↦ elim o [
            | inl e ↦
                number_preceding halves union k (ap union (ap previous_of e ∙ previous_previous h) ∙ spread.after h below h_member) (ap union (ap next_of e ∙ next_previous h) ∙ h_member)
                ∙ ap (λ i. next_of (twin_at halves i)) (ap next_of e ∙ next_previous h)
                ∙ sym (cycled-second (next_of h) (previous_of h) (next_of g) (previous_of g) k s.four e)
            | inr o ↦ elim o [
              | inl e ↦
                  number_following halves union k (ap union (ap previous_of e ∙ previous_next g) ∙ g_member) ∙ ap next_of e ∙ next_next g
                  ∙ sym (cycled-third (next_of h) (previous_of h) (next_of g) (previous_of g) k s.four e)
              | inr e ↦
                  number_preceding halves union k (ap union (ap previous_of e ∙ previous_previous g) ∙ spread.after g inside_g g_member) (ap union (ap next_of e ∙ next_previous g) ∙ g_member)
                  ∙ ap (λ i. next_of (twin_at halves i)) (ap next_of e ∙ next_previous g) ∙ ap next_of back_g
                  ∙ sym (cycled-fourth (next_of h) (previous_of h) (next_of g) (previous_of g) k s.four e)
            ]
          ]
        ]
        | inr none ↦
            number_staying halves union k
            (still_free (previous_of k) a (λ e. none (inl (sym (next_previous k) ∙ ap next_of e))) (λ e. none (inr (inr (inl (sym (next_previous k) ∙ ap next_of e))))))
            (still_free (next_of k) b (λ e. none (inr (inl (sym (previous_next k) ∙ ap previous_of e)))) (λ e. none (inr (inr (inr (sym (previous_next k) ∙ ap previous_of e))))))
            ∙ sym (number_same h g k none)
      ]

  -- no other half-edge goes where h or its twin is
  after_not : (k m : ℕ) → k < length halves → IsClear m → ¬ (k ≡ m) → ¬ (number_after_all halves set k ≡ m)
  after_not k m inside c none e = elim (cases_Bool (set (previous_of k))) [
    | inl x ↦ clash (set (next_of m)) (ap set (ap next_of (sym e ∙ number_following halves set k x) ∙ next_next k) ∙ x) c.after
    | inr a ↦ elim (cases_Bool (set (next_of k))) [
      | inl x ↦
          let y : set (twin_at halves (next_of k)) ≡ true = closed (next_of k) (round_next k inside) ∙ x in
          clash (set (previous_of m)) (ap set (ap previous_of (sym e ∙ number_preceding halves set k a x) ∙ previous_next (twin_at halves (next_of k))) ∙ y) c.before
      | inr b ↦ none (sym (number_staying halves set k a b) ∙ e)
    ]
  ]

  after_inside : (k : ℕ) → k < length halves → number_after_all halves set k < length middle
  after_inside k inside = subst (λ l. number_after_all halves set k < l) (sym flips.count) (elim (cases_Bool (set (previous_of k))) [
    | inl x ↦ subst (λ m. m < length halves) (sym (number_following halves set k x)) (round_next k inside)
    | inr a ↦ elim (cases_Bool (set (next_of k))) [
      | inl x ↦
          subst (λ m. m < length halves) (sym (number_preceding halves set k a x))
          (round_next (twin_at halves (next_of k)) (valid.paired (next_of k) (round_next k inside)).0)
      | inr b ↦ subst (λ m. m < length halves) (sym (number_staying halves set k a b)) inside
    ]
  ])

  -- the new diagonals
  diagonal_h : vector_at later h ≡ opposite_vector (quad_ops d) (vector_sum (quad_ops d) (vector_at halves (previous_of (twin_at halves h))) (vector_at halves (next_of h)))
  diagonal_h =
      let O = quad_ops d in
      flip.diagonal ∙ ap (λ (m : ℕ). opposite_vector O (vector_sum O (vector_at middle (previous_of m)) (vector_at middle (next_of h)))) twin_middle
      ∙ (λ i. opposite_vector O (vector_sum O (clear_vector (previous_of g) s.r_in (clear_previous g clear_g) i) (clear_vector (next_of h) s.n_in (clear_next h clear_h) i)))

  diagonal_g : vector_at later (twin_at halves h)
      ≡ opposite_vector (quad_ops d) (vector_sum (quad_ops d) (vector_at halves (previous_of (twin_at halves (twin_at halves h)))) (vector_at halves (next_of (twin_at halves h))))
  diagonal_g =
      let O = quad_ops d in
      let L = quad_ring d in
      let own = triple_at d halves h valid below in
      let other = triple_at d halves g valid inside_g in
      ap (vector_at later) (sym twin_middle) ∙ flip.opposite ∙ ap (opposite_vector O) diagonal_h
      ∙ ap (opposite_vector O)
      (sym (across O L (vector_at halves h) (vector_at halves g) (vector_at halves (next_of h)) (vector_at halves (previous_of h)) (vector_at halves (next_of g)) (vector_at halves (previous_of g)) (valid.paired h below).2 own.closed
      other.closed))
      ∙ ap (λ (m : ℕ). opposite_vector O (vector_sum O (vector_at halves (previous_of m)) (vector_at halves (next_of g)))) (sym back_g)

  old_diagonal : (k : ℕ) → k < length halves → set k ≡ true
      → vector_at later k ≡ opposite_vector (quad_ops d) (vector_sum (quad_ops d) (vector_at halves (previous_of (twin_at halves k))) (vector_at halves (next_of k)))
  old_diagonal k inside member =
      ap (vector_at later) (sym (unclear_stays k (λ c. clash (set k) member c.own)))
      ∙ flip.vectors k (subst (λ l. k < l) (sym flips.count) inside) (λ e. clash (set k) member (ap set e ∙ fresh)) (λ e. clash (set k) member (ap set (e ∙ twin_middle) ∙ fresh_g))
      ∙ flips.diagonals k inside member

  -- one flip more
  pub one_more : AreFlipped d halves (λ k. set k || is_either h (twin_at halves h) k) later
  one_more = record {
    count = flip.count ∙ flips.count;
    diagonals = λ k inside member. elim (or_cases (set k) (is_either h g k) member) [
      | inl old ↦ old_diagonal k inside old
      | inr new ↦ elim (either_cases h g k new) [
        | inl e ↦
            subst (λ (m : ℕ). vector_at later m ≡ opposite_vector (quad_ops d) (vector_sum (quad_ops d) (vector_at halves (previous_of (twin_at halves m))) (vector_at halves (next_of m)))) (sym e) diagonal_h
        | inr e ↦
            subst (λ (m : ℕ). vector_at later m ≡ opposite_vector (quad_ops d) (vector_sum (quad_ops d) (vector_at halves (previous_of (twin_at halves m))) (vector_at halves (next_of m)))) (sym e) diagonal_g
      ]
    ];
    vectors = λ k inside free.
        let p = free_parts k free in
        ap (vector_at later) (after_union k inside)
        ∙ flip.vectors (number_after_all halves set k) (after_inside k inside) (after_not k h inside clear_h p.1) (λ e. after_not k g inside clear_g p.2 (e ∙ twin_middle))
        ∙ flips.vectors k inside p.0;
    twins = λ k inside.
        ap (twin_at later) (after_union k inside) ∙ flip.twins (number_after_all halves set k) (after_inside k inside) ∙ ap (number_after h (twin_at middle h)) (flips.twins k inside)
        ∙ sym (after_union (twin_at halves k) (valid.paired k inside).0);
  }

-- ---- all flips of a list
pub bool_equal : (a b : Bool) → (a ≡ true → b ≡ true) → (b ≡ true → a ≡ true) → a ≡ b
bool_equal a b f g = elim (cases_Bool a) [
  | inl e ↦ e ∙ sym (f e)
  | inr e ↦ e ∙ sym (false_from_ne_true b (λ x. clash a (g x) e))
]

module _ (halves : List Half) (edges : List ℕ) where
  -- what is among the first is among more
  pub among_more : (n m k : ℕ) → n ≤ m → is_among halves edges n k ≡ true → is_among halves edges m k ≡ true
  among_more n zero k less e = let none : n ≡ 0 = omega arith in subst (λ (i : ℕ). is_among halves edges i k ≡ true) none e
  among_more n (suc m) k less e = elim (cases_eq n (suc m)) [
    | inl same ↦ subst (λ (i : ℕ). is_among halves edges i k ≡ true) same e
    | inr ne ↦ or_left (is_among halves edges m k) (is_either (slice_index edges m) (twin_at halves (slice_index edges m)) k) (among_more n m k (omega arith) e)
  ]

  -- one of the first, or the twin of one
  pub among_cases : (n k : ℕ) → is_among halves edges n k ≡ true → (i : ℕ) × (i < n) × ((k ≡ slice_index edges i) ⊎ (k ≡ twin_at halves (slice_index edges i)))
  among_cases zero k e = absurd (true≢false (sym e))
  among_cases (suc n) k e = elim (or_cases (is_among halves edges n k) (is_either (slice_index edges n) (twin_at halves (slice_index edges n)) k) e) [
    | inl old ↦ let found = among_cases n k old in let less : found.0 < n = found.1 in (found.0, omega arith, found.2)
    | inr new ↦ (n, omega arith, either_cases (slice_index edges n) (twin_at halves (slice_index edges n)) k new)
  ]

  pub among_from : (n k i : ℕ) → i < n → (k ≡ slice_index edges i) ⊎ (k ≡ twin_at halves (slice_index edges i)) → is_among halves edges n k ≡ true
  among_from n k i less is =
      among_more (suc i) n k (omega arith)
      (or_right (is_among halves edges i k) (is_either (slice_index edges i) (twin_at halves (slice_index edges i)) k) (elim is [
        | inl e ↦ subst (λ (m : ℕ). is_either (slice_index edges i) (twin_at halves (slice_index edges i)) m ≡ true) (sym e) (either_first (slice_index edges i) (twin_at halves (slice_index edges i)))
        | inr e ↦ subst (λ (m : ℕ). is_either (slice_index edges i) (twin_at halves (slice_index edges i)) m ≡ true) (sym e) (either_second (slice_index edges i) (twin_at halves (slice_index edges i)))
      ]))

module _ (d : ℕ) (halves : List Half) (valid : IsTriangulation d halves) (edges : List ℕ) (inside : (i : ℕ) → i < length edges → slice_index edges i < length halves) where
  -- the set holds twins
  pub among_twin : (n k : ℕ) → n ≤ length edges → k < length halves → is_among halves edges n (twin_at halves k) ≡ is_among halves edges n k
  among_twin n k few below = bool_equal _ _ (λ e. back e) (λ e. turned k below e)
    where
      turned : (k : ℕ) → k < length halves → is_among halves edges n k ≡ true → is_among halves edges n (twin_at halves k) ≡ true
      turned k below e =
          let found = among_cases halves edges n k e in
          let less : found.0 < n = found.1 in
          among_from halves edges n (twin_at halves k) found.0 found.1 (elim found.2 [
            | inl same ↦ inr (ap (twin_at halves) same)
            | inr same ↦ inl (ap (twin_at halves) same ∙ (valid.paired (slice_index edges found.0) (inside found.0 (omega arith))).1)
          ])

      back : is_among halves edges n (twin_at halves k) ≡ true → is_among halves edges n k ≡ true
      back e = let paired = valid.paired k below in subst (λ (m : ℕ). is_among halves edges n m ≡ true) paired.1 (turned (twin_at halves k) paired.0 e)

  module _ (fresh : (i : ℕ) → i < length edges → is_among halves edges i (slice_index edges i) ≡ false) (spread : IsSpread halves (is_among halves edges (length edges))) where
    -- so has each first part of it
    spread_part : (n : ℕ) → n ≤ length edges → IsSpread halves (is_among halves edges n)
    spread_part n few = record {
      twin = λ k below. among_twin n k few below;
      after = λ k below e. false_from_ne_true _ (λ x. clash _ (among_more halves edges n (length edges) (next_of k) few x) (spread.after k below (among_more halves edges n (length edges) k few e)));
      before = λ k below e. false_from_ne_true _ (λ x. clash _ (among_more halves edges n (length edges) (previous_of k) few x) (spread.before k below (among_more halves edges n (length edges) k few e)));
    }

    -- flips at the first n edges, in their order, are flips at all of them
    pub all_first : (n : ℕ) (later : List Half) → n ≤ length edges → AfterFirst d edges n halves later → AreFlipped d halves (is_among halves edges n) later
    all_first zero later few same = subst (AreFlipped d halves (is_among halves edges 0)) (sym same) (record {
      count = refl;
      diagonals = λ k below e. absurd (true≢false (sym e));
      vectors = λ k below e. refl;
      twins = λ k below. refl;
    })
    all_first (suc n) later few after =
        let less : n < length edges = omega arith in
        one_more d halves valid (is_among halves edges n) (λ k below. among_twin n k (omega arith) below) after.0 (all_first n after.0 (omega arith) after.1) (slice_index edges n) (inside n less) (fresh n less)
        (spread_part (suc n) few) later after.2
