-- Flips at all members of a set, and the same once more: the first triangulation again, with the two triangles of each member exchanged.
use Rattle.std.proofs.Common.{◌≡◌, ℕ, ◌<◌, Bool, true, false, List, length, sym, ap, ◌∙◌, subst, inl, inr}
use Rattle.std.specs.Prelude.{if◌then◌else◌}
use Rattle.std.proofs.lemmas.Bool.{cases_Bool, true≢false}
use Rattle.rings.specs.Vectors.{vector_sum, opposite_vector}
use Rattle.quad_field.specs.Quads.{quad_ops}
use Rattle.tri_core.specs.declared.half.Half.{Half}
use Rattle.tri_core.specs.HalfEdges.{vector_at, twin_at, next_of, previous_of}
use Rattle.tri_core.specs.Triangulation.{IsTriangulation}
use Rattle.tri_core.specs.SeveralFlips.{IsSpread, number_after_all, AreFlipped}
use Rattle.tri_core.specs.Images.{AreTranslationEqual}
use Rattle.tri_core.proofs.CallerLemmas.{next_next, previous_previous, next_previous, previous_next, next_inside, previous_inside, twin_inside, own_is}
use Rattle.tri_core.proofs.CallerLemmas.{number_following, number_preceding, number_staying, translation_from}
use Rattle.wall_cross.proofs.AtOnce.{member_stays, member_twin, next_goes, previous_goes, at_previous, at_next_of_twin}

-- the half-edge that k corresponds to: a member its twin, and the other sides of a member's triangle those of the twin's
abbrev pub turned_over : List Half → (ℕ → Bool) → ℕ → ℕ
turned_over halves set k =
    if set k then twin_at halves k
    else if set (previous_of k) then next_of (twin_at halves (previous_of k))
    else if set (next_of k) then previous_of (twin_at halves (next_of k))
    else k

-- k is a member, the side after one, the side before one, or in a triangle with none
pub data Kind (halves : List Half) (set : ℕ → Bool) (k : ℕ) : Type 0 where
  member : set k ≡ true → Kind halves set k
  follows : (h : ℕ) → h < length halves → set h ≡ true → k ≡ next_of h → Kind halves set k
  precedes : (h : ℕ) → h < length halves → set h ≡ true → k ≡ previous_of h → Kind halves set k
  apart : set k ≡ false → set (previous_of k) ≡ false → set (next_of k) ≡ false → Kind halves set k

-- true and false are two
clash : {X : Type 0} (b : Bool) → b ≡ true → b ≡ false → X
clash b e f = absurd (true≢false (sym e ∙ f))

module _ (d : ℕ) (halves : List Half) (valid : IsTriangulation d halves) (set : ℕ → Bool) (spread : IsSpread halves set) where
  kind_of : (k : ℕ) → k < length halves → Kind halves set k
  kind_of k below = elim (cases_Bool (set k)) [
    | inl e ↦ member e
    | inr a ↦ elim (cases_Bool (set (previous_of k))) [
      | inl e ↦ follows (previous_of k) (previous_inside d halves k valid below) e (sym (next_previous k))
      | inr b ↦ elim (cases_Bool (set (next_of k))) [
        | inl e ↦ precedes (next_of k) (next_inside d halves k valid below) e (sym (previous_next k))
        | inr c ↦ apart a b c
      ]
    ]
  ]

  abbrev turn : ℕ → ℕ
  turn k = turned_over halves set k

  turn_member : (k : ℕ) → set k ≡ true → turned_over halves set k ≡ twin_at halves k
  turn_member k e =
      ap (λ (b : Bool). if b then twin_at halves k else if set (previous_of k) then next_of (twin_at halves (previous_of k)) else if set (next_of k) then previous_of (twin_at halves (next_of k)) else k) e

  turn_other : (k : ℕ) → set k ≡ false
      → turned_over halves set k ≡ (if set (previous_of k) then next_of (twin_at halves (previous_of k)) else if set (next_of k) then previous_of (twin_at halves (next_of k)) else k)
  turn_other k e =
      ap (λ (b : Bool). if b then twin_at halves k else if set (previous_of k) then next_of (twin_at halves (previous_of k)) else if set (next_of k) then previous_of (twin_at halves (next_of k)) else k) e

  turn_after : (k : ℕ) → set k ≡ false → set (previous_of k) ≡ true → turned_over halves set k ≡ next_of (twin_at halves (previous_of k))
  turn_after k e f =
      turn_other k e ∙ ap (λ (b : Bool). if b then next_of (twin_at halves (previous_of k)) else if set (next_of k) then previous_of (twin_at halves (next_of k)) else k) f

  turn_not_after : (k : ℕ) → set k ≡ false → set (previous_of k) ≡ false → turned_over halves set k ≡ (if set (next_of k) then previous_of (twin_at halves (next_of k)) else k)
  turn_not_after k e f =
      turn_other k e ∙ ap (λ (b : Bool). if b then next_of (twin_at halves (previous_of k)) else if set (next_of k) then previous_of (twin_at halves (next_of k)) else k) f

  turn_before : (k : ℕ) → set k ≡ false → set (previous_of k) ≡ false → set (next_of k) ≡ true → turned_over halves set k ≡ previous_of (twin_at halves (next_of k))
  turn_before k e f g = turn_not_after k e f ∙ ap (λ (b : Bool). if b then previous_of (twin_at halves (next_of k)) else k) g

  turn_else : (k : ℕ) → set k ≡ false → set (previous_of k) ≡ false → set (next_of k) ≡ false → turned_over halves set k ≡ k
  turn_else k e f g = turn_not_after k e f ∙ ap (λ (b : Bool). if b then previous_of (twin_at halves (next_of k)) else k) g

  -- the sides of a member's triangle
  turn_next : (h : ℕ) → h < length halves → set h ≡ true → turned_over halves set (next_of h) ≡ next_of (twin_at halves h)
  turn_next h below e = turn_after (next_of h) (spread.after h below e) (ap set (previous_next h) ∙ e) ∙ ap (λ (i : ℕ). next_of (twin_at halves i)) (previous_next h)

  turn_previous : (h : ℕ) → h < length halves → set h ≡ true → turned_over halves set (previous_of h) ≡ previous_of (twin_at halves h)
  turn_previous h below e =
      turn_before (previous_of h) (spread.before h below e) (ap set (previous_previous h) ∙ spread.after h below e) (ap set (next_previous h) ∙ e)
      ∙ ap (λ (i : ℕ). previous_of (twin_at halves i)) (next_previous h)

  there : (h : ℕ) → h < length halves → twin_at halves h < length halves
  there h below = twin_inside d halves h valid below

  also : (h : ℕ) → h < length halves → set h ≡ true → set (twin_at halves h) ≡ true
  also h below e = spread.twin h below ∙ e

  back : (h : ℕ) → h < length halves → twin_at halves (twin_at halves h) ≡ h
  back h below = (valid.paired h below).1

  turn_inside : (k : ℕ) → k < length halves → turned_over halves set k < length halves
  turn_inside k below = go (kind_of k below)
    where
      go : Kind halves set k → turned_over halves set k < length halves
      go (member e) = subst (λ (i : ℕ). i < length halves) (sym (turn_member k e)) (there k below)
      go (follows h at e is) = subst (λ (i : ℕ). i < length halves) (sym (ap turn is ∙ turn_next h at e)) (next_inside d halves (twin_at halves h) valid (there h at))
      go (precedes h at e is) = subst (λ (i : ℕ). i < length halves) (sym (ap turn is ∙ turn_previous h at e)) (previous_inside d halves (twin_at halves h) valid (there h at))
      go (apart a b c) = subst (λ (i : ℕ). i < length halves) (sym (turn_else k a b c)) below

  turn_twice : (k : ℕ) → k < length halves → turned_over halves set (turned_over halves set k) ≡ k
  turn_twice k below = go (kind_of k below)
    where
      go : Kind halves set k → turned_over halves set (turned_over halves set k) ≡ k
      go (member e) = ap turn (turn_member k e) ∙ turn_member (twin_at halves k) (also k below e) ∙ back k below
      go (follows h at e is) = ap turn (ap turn is ∙ turn_next h at e) ∙ turn_next (twin_at halves h) (there h at) (also h at e) ∙ ap next_of (back h at) ∙ sym is
      go (precedes h at e is) = ap turn (ap turn is ∙ turn_previous h at e) ∙ turn_previous (twin_at halves h) (there h at) (also h at e) ∙ ap previous_of (back h at) ∙ sym is
      go (apart a b c) = ap turn (turn_else k a b c) ∙ turn_else k a b c

  turn_keeps_next : (k : ℕ) → k < length halves → turned_over halves set (next_of k) ≡ next_of (turned_over halves set k)
  turn_keeps_next k below = go (kind_of k below)
    where
      go : Kind halves set k → turned_over halves set (next_of k) ≡ next_of (turned_over halves set k)
      go (member e) = turn_next k below e ∙ ap next_of (sym (turn_member k e))
      go (follows h at e is) =
          ap (λ (i : ℕ). turn (next_of i)) is ∙ ap turn (next_next h) ∙ turn_previous h at e ∙ sym (ap next_of (ap turn is ∙ turn_next h at e) ∙ next_next (twin_at halves h))
      go (precedes h at e is) =
          ap (λ (i : ℕ). turn (next_of i)) is ∙ ap turn (next_previous h) ∙ turn_member h e ∙ sym (ap next_of (ap turn is ∙ turn_previous h at e) ∙ next_previous (twin_at halves h))
      go (apart a b c) = turn_else (next_of k) c (ap set (previous_next k) ∙ a) (ap set (next_next k) ∙ b) ∙ ap next_of (sym (turn_else k a b c))

  -- ---- after both
  module _ (middle later : List Half) (first : AreFlipped d halves set middle) (second : AreFlipped d middle set later) where
    in_middle : (k : ℕ) → k < length halves → k < length middle
    in_middle k = subst (λ (l : ℕ). k < l) (sym first.count)

    -- where a half-edge that is no member goes in the first flips, and in both
    free_moved : (k : ℕ) → k < length halves → set k ≡ false
        → (set (number_after_all halves set k) ≡ false) × (number_after_all halves set k < length halves) × (number_after_all middle set (number_after_all halves set k) ≡ turned_over halves set k)
    free_moved k below free = go (kind_of k below)
      where
        go : Kind halves set k
            → (set (number_after_all halves set k) ≡ false) × (number_after_all halves set k < length halves) × (number_after_all middle set (number_after_all halves set k) ≡ turned_over halves set k)
        go (member e) = clash (set k) e free
        go (follows h at e is) =
            let to : number_after_all halves set k ≡ previous_of h = ap (number_after_all halves set) is ∙ next_goes d halves valid set spread middle first h at e in (
              ap set to ∙ spread.before h at e,
              subst (λ (i : ℕ). i < length halves) (sym to) (previous_inside d halves h valid at),
              ap (number_after_all middle set) to
                  ∙ number_preceding middle set (previous_of h) (ap set (previous_previous h) ∙ spread.after h at e) (ap set (next_previous h) ∙ e)
                  ∙ ap (λ (i : ℕ). next_of (twin_at middle i)) (next_previous h) ∙ ap next_of (member_twin d halves valid set spread middle first h at e)
                  ∙ sym (ap turn is ∙ turn_next h at e),
            )
        go (precedes h at e is) =
            let g = twin_at halves h in
            let to : number_after_all halves set k ≡ next_of (twin_at halves h) = ap (number_after_all halves set) is ∙ previous_goes d halves valid set spread middle first h at e in (
              ap set to ∙ spread.after g (there h at) (also h at e),
              subst (λ (i : ℕ). i < length halves) (sym to) (next_inside d halves g valid (there h at)),
              ap (number_after_all middle set) to ∙ number_following middle set (next_of g) (ap set (previous_next g) ∙ also h at e) ∙ next_next g
                  ∙ sym (ap turn is ∙ turn_previous h at e),
            )
        go (apart a b c) =
            let to = number_staying halves set k b c in (
              ap set to ∙ a,
              subst (λ (i : ℕ). i < length halves) (sym to) below,
              ap (number_after_all middle set) to ∙ number_staying middle set k b c ∙ sym (turn_else k a b c),
            )

    member_twice : (h : ℕ) → h < length halves → set h ≡ true → number_after_all middle set (number_after_all halves set h) ≡ h
    member_twice h below e =
        ap (number_after_all middle set) (member_stays d halves valid set spread middle first h below e) ∙ number_staying middle set h (spread.before h below e) (spread.after h below e)

    -- vectors
    member_vector : (h : ℕ) → h < length halves → set h ≡ true → vector_at later (twin_at halves h) ≡ vector_at halves h
    member_vector h below e =
        let O = quad_ops d in
        let g = twin_at halves h in
        let at_p = at_previous d halves valid set spread middle first h below e in
        let at_q = at_next_of_twin d halves valid set spread middle first h below e in
        second.diagonals g (in_middle g (there h below)) (also h below e)
        ∙ ap (λ (i : ℕ). opposite_vector O (vector_sum O (vector_at middle (previous_of i)) (vector_at middle (next_of g))))
        (member_twin d halves valid set spread middle first g (there h below) (also h below e) ∙ back h below)
        ∙ (λ i. opposite_vector O (vector_sum O (at_p i) (at_q i))) ∙ sym (own_is d halves h valid below)

    turn_keeps_vectors : (k : ℕ) → k < length halves → vector_at later (turned_over halves set k) ≡ vector_at halves k
    turn_keeps_vectors k below = elim (cases_Bool (set k)) [
      | inl e ↦ ap (vector_at later) (turn_member k e) ∙ member_vector k below e
      | inr free ↦
          let moved = free_moved k below free in
          ap (vector_at later) (sym moved.2) ∙ second.vectors (number_after_all halves set k) (in_middle (number_after_all halves set k) moved.1) moved.0 ∙ first.vectors k below free
    ]

    -- twins
    twins_twice : (k : ℕ) → k < length halves → number_after_all halves set k < length halves
        → twin_at later (number_after_all middle set (number_after_all halves set k)) ≡ number_after_all middle set (number_after_all halves set (twin_at halves k))
    twins_twice k below inside = second.twins (number_after_all halves set k) (in_middle (number_after_all halves set k) inside) ∙ ap (number_after_all middle set) (first.twins k below)

    turn_keeps_twin : (k : ℕ) → k < length halves → turned_over halves set (twin_at halves k) ≡ twin_at later (turned_over halves set k)
    turn_keeps_twin k below = elim (cases_Bool (set k)) [
      | inl e ↦
          let g = twin_at halves k in
          let at = there k below in
          let m = also k below e in
          turn_member g m
          ∙ sym (ap (twin_at later) (turn_member k e ∙ sym (member_twice g at m))
          ∙ twins_twice g at (subst (λ (i : ℕ). i < length halves) (sym (member_stays d halves valid set spread middle first g at m)) at)
          ∙ ap (λ (i : ℕ). number_after_all middle set (number_after_all halves set i)) (back k below) ∙ member_twice k below e ∙ sym (back k below))
      | inr free ↦
          let moved = free_moved k below free in
          sym (free_moved (twin_at halves k) (there k below) (spread.twin k below ∙ free)).2 ∙ sym (twins_twice k below moved.1) ∙ ap (twin_at later) moved.2
    ]

    -- two times the flips of one set give the first triangulation back, but for its numbering
    pub flipped_back : AreTranslationEqual d halves later
    flipped_back = (
      turned_over halves set,
      turned_over halves set,
      translation_from d halves later (turned_over halves set) (turned_over halves set) (second.count ∙ first.count)
          (record { forth_inside = turn_inside; back_inside = turn_inside; back_forth = turn_twice; forth_back = turn_twice })
          turn_keeps_next turn_keeps_twin turn_keeps_vectors,
    )
