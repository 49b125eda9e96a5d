-- Polygons in convex position, wherever their lists of sides begin.
use Rattle.std.proofs.Common.{◌≡◌, ℕ, zero, suc, ◌+◌, ◌-◌, ◌%◌, ◌<◌, ◌⊎◌, List, [], ◌∷◌, ◌++◌, length, get_or, take, drop, subst, sym, ap, ◌∙◌, refl, arith, inl, inr}
use Rattle.std.specs.List.{AllByRecursion}
use Rattle.std.proofs.lemmas.Bool.{cases_lt}
use Rattle.std.proofs.lemmas.List.{length-append, length-take-le, take-append-drop, get_or_at, get_or-append-add}
use Rattle.std.proofs.Math.Nat.{mod-eq_of_lt, add-mod_left, mod-lt}
use Rattle.rings.specs.Ring.{Ops, IsRing}
use Rattle.rings.specs.Order.{IsOrdered, Sign, is_zero, is_positive, is_negative}
use Rattle.rings.proofs.Ordered.{not_both_signs}
use Rattle.quad_field.specs.Quads.{quad_ops, IsPositive}
use Rattle.quad_field.specs.FieldNumber.{IsFieldNumber}
use Rattle.quad_field.specs.declared.quad.Quad.{Quad}
use Rattle.quad_field.proofs.CallerLemmas.{quad_ring, order_of}
use Rattle.plane.specs.Vectors.{Vector, det, vector_sum}
use Rattle.gluing.specs.Polygons.{no_vector, zero_of, side_at, side_after, corner, sum_of, IsProper}
use Rattle.ear_cut.specs.Cuttings.{HasPositiveCorner}
use Rattle.ear_cut.specs.Cuttable.{NeverTurnsRight, IsCuttable}
use Rattle.ear_cut.proofs.Rotations.{IsRotated, rotated_back, rotated_all}
use Rattle.ear_cut.proofs.Corners.{side_rotated, two_steps, positive_rotated}
use Rattle.rings.specs.Vectors.{IsUpper}
use Rattle.rings.proofs.Signs.{never_below, not_negative_or, not_zero}
use Rattle.ear_cut.proofs.Sorted.{NN, total, Chain}
use Rattle.ear_cut.proofs.ConvexPosition.{total_turned, InConvexPosition, convex_turned, Goes, chain_of, rising_convex}

-- the first place where F holds
pub record IsFirst (F : ℕ → Type 0) (n : ℕ) : Type 0 where
  pub place : ℕ
  pub below : place < n
  pub holds : F place
  pub before : (k : ℕ) → k < place → ¬ (F k)

-- the first place below n where F holds, or none
pub first_below : (F : ℕ → Type 0) → ((i : ℕ) → F i ⊎ ¬ (F i)) → (n : ℕ) → IsFirst F n ⊎ ((i : ℕ) → i < n → ¬ (F i))
first_below F decide zero = inr (λ i h. absurd (omega (arith, h)))
first_below F decide (suc n) = go (first_below F decide n) (decide n)
  where
    go : IsFirst F n ⊎ ((i : ℕ) → i < n → ¬ (F i)) → F n ⊎ ¬ (F n) → IsFirst F (suc n) ⊎ ((i : ℕ) → i < suc n → ¬ (F i))
    go (inl w) _ = inl (record { place = w.place; below = omega (arith, w.below); holds = w.holds; before = w.before })
    go (inr none) (inl f) = inl (record { place = n; below = omega arith; holds = f; before = none })
    go (inr none) (inr not) = inr (λ i h f. elim (cases_lt i n) [
      | inl below ↦ none i below f
      | inr over ↦ let same : i ≡ n = omega arith in not (subst F same f)
    ])

-- one round from place i + 1 on passes place i last
not_again : (i k n : ℕ) → i < n → k + 1 < n → ¬ ((suc i + k) % n ≡ i)
not_again i k n below short same =
    elim (cases_lt (suc i + k) n) [
      | inl inside ↦ let e : (suc i + k) % n ≡ suc i + k = mod-eq_of_lt inside in omega arith
      | inr outside ↦
          let j = suc i + k - n in
          let round : suc i + k ≡ n + j = omega arith in
          let e : (suc i + k) % n ≡ j = ap (λ m. m % n) round ∙ add-mod_left n j ∙ mod-eq_of_lt (omega arith) in
          omega arith
    ]

module _ (d : ℕ) (field : IsFieldNumber d) where
  abbrev pub O : Ops Quad
  O = quad_ops d

  pub ring : IsRing (quad_ops d)
  ring = quad_ring d

  pub order : IsOrdered (quad_ops d) (IsPositive d)
  order = order_of d field

  abbrev pub Vec : Type 0
  Vec = Vector Quad

  -- none of the vectors is zero
  abbrev pub AllNonzero : List Vec → Type 0
  AllNonzero l = AllByRecursion (λ v. ¬ (v ≡ no_vector d)) l

  -- in convex position
  abbrev pub Convex : List Vec → Type 0
  Convex l = InConvexPosition O ring order l

  not_negative : {x : Quad} → ¬ (IsPositive d (O.neg x)) → NN O ring order x
  not_negative {x} not = elim (not_negative_or O ring order x) [ inl h ↦ h | inr n ↦ absurd (not n) ]

  pub total_is : (l : List Vec) → total O ring order l ≡ sum_of d l
  total_is [] = refl
  total_is (v ∷ l) = ap (vector_sum O v) (total_is l)

  pub never_right : (l : List Vec) → Convex l → NeverTurnsRight d l
  never_right l convex a x y b e n =
      never_below O ring order _ (convex a x y b e) (subst (λ u. IsPositive d (O.neg (det O u (total O ring order y)))) (sym (total_is x))
      (subst (λ v. IsPositive d (O.neg (det O (sum_of d x) v))) (sym (total_is y)) n))

  pub convex_of : (l : List Vec) → NeverTurnsRight d l → Convex l
  convex_of l never a x y b e =
      not_negative (λ n. never a x y b e (subst (λ u. IsPositive d (O.neg (det O u (sum_of d y)))) (total_is x)
      (subst (λ v. IsPositive d (O.neg (det O (total O ring order x) v))) (total_is y) n)))

  -- ---- signs
  pub positive_or_not : (x : Quad) → IsPositive d x ⊎ ¬ (IsPositive d x)
  positive_or_not x = go (order.sign x)
    where
      go : Sign (quad_ops d) (IsPositive d) x → IsPositive d x ⊎ ¬ (IsPositive d x)
      go (is_zero e) = inr (λ p. order.zero_is_not (subst (IsPositive d) e p))
      go (is_positive p) = inl p
      go (is_negative n) = inr (λ p. not_both_signs O ring order x p n)

  -- not negative, and not zero
  pub positive_from : (x : Quad) → NN O ring order x → ¬ (x ≡ zero_of d) → IsPositive d x
  positive_from x (inl e) nonzero = absurd (nonzero e)
  positive_from x (inr p) nonzero = p

  pub zero_from : (x : Quad) → NN O ring order x → ¬ (IsPositive d x) → x ≡ zero_of d
  zero_from x (inl e) not = e
  zero_from x (inr p) not = absurd (not p)

  pub positive_nonzero : (x : Quad) → IsPositive d x → ¬ (x ≡ zero_of d)
  positive_nonzero x p = not_zero O ring order x p

  pub some_or_none : (l : List Vec) → HasPositiveCorner d l ⊎ ((i : ℕ) → i < length l → ¬ (IsPositive d (corner d l i)))
  some_or_none l = elim (first_below (λ i. IsPositive d (corner d l i)) (λ i. positive_or_not (corner d l i)) (length l)) [
    | inl first ↦ inl (first.place, first.below, first.holds)
    | inr none ↦ inr none
  ]

  -- ---- a polygon that is begun elsewhere
  pub total_rotated : (l m : List Vec) → IsRotated l m → total O ring order m ≡ total O ring order l
  total_rotated l m r = ap (total O ring order) r.turned ∙ total_turned O ring order r.front r.behind ∙ ap (total O ring order) (sym r.parts)

  pub convex_rotated : (l m : List Vec) → IsRotated l m → total O ring order l ≡ no_vector d → Convex l → Convex m
  convex_rotated l m r closed convex =
      subst Convex (sym r.turned)
      (convex_turned O ring order r.front r.behind (ap (total O ring order) (sym r.parts) ∙ closed) (subst Convex r.parts convex))

  pub cuttable_rotated : (l m : List Vec) → IsRotated l m → IsCuttable d l → IsCuttable d m
  cuttable_rotated l m r cuttable =
      let closed : total O ring order l ≡ no_vector d = total_is l ∙ cuttable.closed in
      record {
        closed = sym (total_is m) ∙ total_rotated l m r ∙ closed;
        nonzero = rotated_all (λ v. ¬ (v ≡ no_vector d)) l m r cuttable.nonzero;
        left = never_right m (convex_rotated l m r closed (convex_of l cuttable.left));
        some = positive_rotated d l m r cuttable.some;
      }

  -- ---- a proper polygon
  all_nonzero : (sides : List Vec) → ((i : ℕ) → i < length sides → ¬ (side_at d sides i ≡ no_vector d)) → AllNonzero sides
  all_nonzero [] h = tt
  all_nonzero (v ∷ sides) h = (h 0 (omega arith), all_nonzero sides (λ i inside. h (suc i) (omega (arith, inside))))

  module _ (sides : List Vec) (proper : IsProper d sides) where
    abbrev n : ℕ
    n = length sides

    -- where the half rises
    abbrev rise : ℕ
    rise = proper.convex.once.0

    closed : total O ring order sides ≡ no_vector d
    closed = total_is sides ∙ proper.closed

    nonzero : AllNonzero sides
    nonzero = all_nonzero sides proper.convex.sides_nonzero

    -- at every other corner the polygon goes on
    goes_at : (i : ℕ) → i < n → ¬ (i ≡ rise) → Goes O ring order (side_at d sides i) (side_after d sides i)
    goes_at i inside other = (
      not_negative (proper.convex.never_right i inside),
      λ rises. other (proper.convex.once.3 i inside (rises.0, rises.1)),
    )

    -- the polygon, begun behind the rise
    begun : List Vec
    begun = drop (suc rise) sides ++ take (suc rise) sides

    rotated : IsRotated sides begun
    unfolding begun
    rotated = record { front = take (suc rise) sides; behind = drop (suc rise) sides; parts = sym (take-append-drop (suc rise) sides); turned = refl }

    front_long : length rotated.front ≡ suc rise
    unfolding rotated
    front_long = length-take-le (suc rise) sides (omega (arith, proper.convex.once.1))

    goes_begun : (a b : List Vec) (u v : Vec) → begun ≡ a ++ (u ∷ v ∷ b) → Goes O ring order u v
    goes_begun a b u v e =
        let k = length a in
        let long : length begun ≡ n = rotated_long in
        let short : k + 1 < n = omega (arith, ap length e, length-append a (u ∷ v ∷ b)) in
        let first : u ≡ side_at d sides ((suc rise + k) % n) =
        sym (ap (λ l. get_or l k (no_vector d)) e ∙ get_or_at a u (v ∷ b) (no_vector d) k refl) ∙ side_is k (omega arith) in
        let second : v ≡ side_after d sides ((suc rise + k) % n) =
        sym (ap (λ l. get_or l (k + 1) (no_vector d)) e ∙ get_or-append-add a (u ∷ v ∷ b) 1 (no_vector d)) ∙ side_is (k + 1) short
        ∙ ap (λ m. side_at d sides ((suc rise + m) % n)) (sym (mod-eq_of_lt short)) ∙ ap (side_at d sides) (two_steps (suc rise) k n) in
        let there : (suc rise + k) % n < n = mod-lt (suc rise + k) (omega arith) in
        let goes = goes_at ((suc rise + k) % n) there (not_again rise k n proper.convex.once.1 short) in
        subst (λ x. Goes O ring order x v) (sym first) (subst (Goes O ring order (side_at d sides ((suc rise + k) % n))) (sym second) goes)
      where
        rotated_long : length begun ≡ n
        rotated_long = omega (arith, ap length rotated.parts, ap length rotated.turned, length-append rotated.front rotated.behind, length-append rotated.behind rotated.front)

        side_is : (j : ℕ) → j < n → side_at d begun j ≡ side_at d sides ((suc rise + j) % n)
        side_is j below = side_rotated d sides begun rotated j below ∙ ap (λ m. side_at d sides ((m + j) % n)) front_long

    convex_begun : (l : List Vec) → begun ≡ l → Convex begun
    convex_begun [] e = absurd (omega (arith, proper.convex.once.1, ap length e, ap length rotated.parts, ap length rotated.turned, length-append rotated.front rotated.behind, length-append rotated.behind rotated.front))
    convex_begun (x ∷ l) e =
        let zeroth : suc rise + 0 ≡ rise + 1 = omega arith in
        let first : x ≡ side_after d sides rise =
        sym (ap (λ m. side_at d m 0) e) ∙ side_rotated d sides begun rotated 0 (omega (arith, proper.convex.once.1))
        ∙ ap (λ m. side_at d sides ((m + 0) % n)) front_long ∙ ap (λ m. side_at d sides (m % n)) zeroth in
        let upper : IsUpper O (IsPositive d) x = subst (IsUpper O (IsPositive d)) (sym first) proper.convex.once.2.1 in
        let all : AllNonzero (x ∷ l) = subst AllNonzero e (rotated_all (λ v. ¬ (v ≡ no_vector d)) sides begun rotated nonzero) in
        let chain : Chain O ring order (Goes O ring order) (x ∷ l) = chain_of O ring order (Goes O ring order) (x ∷ l) (λ a u v b k. goes_begun a b u v (e ∙ k)) in
        subst Convex (sym e) (rising_convex O ring order x l upper all.1 chain (ap (total O ring order) (sym e) ∙ total_rotated sides begun rotated ∙ closed))

    -- a proper polygon is in convex position
    proper_convex : Convex sides
    proper_convex = convex_rotated begun sides (rotated_back sides begun rotated) (total_rotated sides begun rotated ∙ closed) (convex_begun begun refl)

    -- a proper polygon can be cut
    pub proper_cuttable : IsCuttable d sides
    proper_cuttable = record {
      closed = proper.closed;
      nonzero = nonzero;
      left = never_right sides proper_convex;
      some = elim (some_or_none sides) [
        | inl some ↦ some
        | inr none ↦ absurd (proper.not_flat (λ i inside. zero_from (corner d sides i) (not_negative (proper.convex.never_right i inside)) (none i inside)))
      ];
    }
