-- Convex polygons can be cut, ear by ear.
use Rattle.std.proofs.Common.{◌≡◌, ℕ, zero, suc, ◌+◌, ◌%◌, ◌<◌, ◌≤◌, ◌↔◌, ◌⊎◌, List, [], ◌∷◌, length, get_or, subst, sym, ap, ◌∙◌, refl, arith, inl, inr}
use Rattle.std.specs.Prelude.{pos}
use Rattle.std.specs.List.{AllByRecursion}
use Rattle.std.proofs.lemmas.Bool.{cases_lt}
use Rattle.std.proofs.Math.Nat.{mod-lt, mod-add-mod}
use Rattle.rings.specs.Ring.{Ops, IsRing, var, expr}
use Rattle.rings.specs.Order.{IsOrdered}
use Rattle.rings.proofs.Solver.{identity}
use Rattle.quad_field.specs.Quads.{quad_ops, IsPositive}
use Rattle.quad_field.specs.FieldNumber.{IsFieldNumber}
use Rattle.quad_field.specs.declared.quad.Quad.{Quad}
use Rattle.plane.specs.Vectors.{Vector, det, vector_sum}
use Rattle.gluing.specs.Polygons.{no_vector, zero_of, side_at, side_after, corner}
use Rattle.ear_cut.specs.Cuttings.{chord_at, replaced, HasPositiveCorner, IsEar, IsLeastEar}
use Rattle.ear_cut.specs.Cuttable.{IsCuttable}
use Rattle.ear_cut.specs.Steps.{chord_corner}
use Rattle.ear_cut.proofs.Rotations.{IsRotated, rotated_back, rotated-length, rotated_at, IsReplacedAt, replaced_at}
use Rattle.ear_cut.proofs.Replaced.{each_at}
use Rattle.ear_cut.proofs.Corners.{positive_rotated, positive_first}
use Rattle.rings.proofs.Turning.{det_closed_second, det_closed_third}
use Rattle.ear_cut.proofs.Sorted.{NN}
use Rattle.ear_cut.proofs.ConvexPosition.{total_merged, convex_merged}
use Rattle.ear_cut.proofs.Parallel.{Parallel, parallel_turned, parallel_trans, parallel_part, all_parallel}
use Rattle.ear_cut.proofs.Convex.{ring, order, Convex, total_is, never_right, convex_of, positive_or_not, positive_from, zero_from, positive_nonzero, some_or_none, first_below, cuttable_rotated}

module _ (d : ℕ) (field : IsFieldNumber d) where
  abbrev Vec : Type 0
  Vec = Vector Quad

  abbrev O : Ops Quad
  O = quad_ops d

  abbrev L : IsRing (quad_ops d)
  L = ring d field

  abbrev Q : IsOrdered (quad_ops d) (IsPositive d)
  Q = order d field

  -- ---- a polygon that can be cut, begun with two sides u and v that turn to the left
  module _ (u v : Vec) (rest : List Vec) (cuttable : IsCuttable d (u ∷ v ∷ rest)) (turns : IsPositive d (det (quad_ops d) u v)) where
    -- the chord
    abbrev w : Vec
    w = vector_sum O u v

    convex : Convex d field (u ∷ v ∷ rest)
    convex = convex_of d field (u ∷ v ∷ rest) cuttable.left

    -- u and v aren't opposite
    chord_nonzero : ¬ (w ≡ no_vector d)
    chord_nonzero e =
        positive_nonzero d field (det O u v) turns (
        identity O L (u.0 ∷ u.1 ∷ v.0 ∷ v.1 ∷ []) (det expr (var 0, var 1) (var 2, var 3)) (det expr (var 0, var 1) (expr.add (var 0) (var 2), expr.add (var 1) (var 3))) tt
        ∙ ap (det O u) e
        ∙ identity O L (u.0 ∷ u.1 ∷ []) (det expr (var 0, var 1) (expr.int (pos 0), expr.int (pos 0))) (expr.int (pos 0)) tt
        )

    left_convex : Convex d field (w ∷ rest)
    left_convex = convex_merged O L Q [] rest u v convex

    -- what is left can be cut, where some corner of it is positive
    pub left_cuttable : HasPositiveCorner d (w ∷ rest) → IsCuttable d (w ∷ rest)
    left_cuttable some = record {
      closed = sym (total_is d field (w ∷ rest)) ∙ sym (total_merged O L Q [] rest u v) ∙ total_is d field (u ∷ v ∷ rest) ∙ cuttable.closed;
      nonzero = (chord_nonzero, cuttable.nonzero.1.1);
      left = never_right d field (w ∷ rest) left_convex;
      some = some;
    }

  -- two vectors, one after the other, in a list in convex position
  next_not_right : (u v : Vec) (rest : List Vec) → Convex d field (u ∷ v ∷ rest) → NN O L Q (det O u v)
  next_not_right u v rest convex =
      subst (NN O L Q)
      (identity O L (u.0 ∷ u.1 ∷ v.0 ∷ v.1 ∷ []) (det expr (expr.add (var 0) (expr.int (pos 0)), expr.add (var 1) (expr.int (pos 0))) (expr.add (var 2) (expr.int (pos 0)), expr.add (var 3) (expr.int (pos 0))))
      (det expr (var 0, var 1) (var 2, var 3)) tt)
      (convex [] (u ∷ []) (v ∷ []) rest refl)

  -- a list of parallel vectors has no positive corner
  none_positive : (y : Vec) (l : List Vec) → ¬ (y ≡ no_vector d) → AllByRecursion (Parallel O L Q y) l → ¬ (HasPositiveCorner d l)
  none_positive y l nonzero all (i, below, positive) =
      let a = side_at d l i in
      let b = side_after d l i in
      let first : Parallel O L Q y a = each_at (Parallel O L Q y) l i (no_vector d) all below in
      let second : Parallel O L Q y b = each_at (Parallel O L Q y) l ((i + 1) % length l) (no_vector d) all (mod-lt (i + 1) (omega arith)) in
      positive_nonzero d field (corner d l i) positive (parallel_trans O L Q a y b nonzero (parallel_turned O L Q y a first) second)

  module _ (u v y : Vec) (rest : List Vec) (cuttable : IsCuttable d (u ∷ v ∷ y ∷ rest)) (turns : IsPositive d (det (quad_ops d) u v)) where
    abbrev chord : Vec
    chord = vector_sum O u v

    y_nonzero : ¬ (y ≡ no_vector d)
    y_nonzero = cuttable.nonzero.1.1.0

    all_convex : Convex d field (u ∷ v ∷ y ∷ rest)
    all_convex = convex_of d field (u ∷ v ∷ y ∷ rest) cuttable.left

    -- v turns to the right into the chord
    back : IsPositive d (O.neg (det O v chord))
    back =
        subst (IsPositive d) (identity O L (u.0 ∷ u.1 ∷ v.0 ∷ v.1 ∷ [])
        (det expr (var 0, var 1) (var 2, var 3)) (expr.neg (det expr (var 2, var 3) (expr.add (var 0) (var 2), expr.add (var 1) (var 3)))) tt) turns

    second_not_right : NN O L Q (det O v y)
    second_not_right =
        subst (NN O L Q)
        (identity O L (v.0 ∷ v.1 ∷ y.0 ∷ y.1 ∷ []) (det expr (expr.add (var 0) (expr.int (pos 0)), expr.add (var 1) (expr.int (pos 0))) (expr.add (var 2) (expr.int (pos 0)), expr.add (var 3) (expr.int (pos 0))))
        (det expr (var 0, var 1) (var 2, var 3)) tt)
        (all_convex (u ∷ []) (v ∷ []) (y ∷ []) rest refl)

    left_is_convex : Convex d field (chord ∷ y ∷ rest)
    left_is_convex = left_convex u v (y ∷ rest) cuttable turns

    -- where the chord doesn't turn to the left into the side behind it, all that is left is parallel
    flat : ¬ (IsPositive d (det O chord y)) → AllByRecursion (Parallel O L Q y) (chord ∷ y ∷ rest)
    flat not =
        all_parallel O L Q v chord y rest second_not_right back
        (zero_from d field (det O chord y) (next_not_right chord y rest left_is_convex) not) left_is_convex

    -- a positive corner is left exactly where the chord turns to the left into the side behind it
    pub chord_turns : HasPositiveCorner d (chord ∷ y ∷ rest) → IsPositive d (det O chord y)
    chord_turns some = elim (positive_or_not d field (det O chord y)) [
      | inl positive ↦ positive
      | inr not ↦ absurd (none_positive y (chord ∷ y ∷ rest) y_nonzero (flat not) some)
    ]

  -- else the next corner is an ear
  module _ (u v y z : Vec) (rest : List Vec) (cuttable : IsCuttable d (u ∷ v ∷ y ∷ z ∷ rest)) (turns : IsPositive d (det (quad_ops d) u v)) (not : ¬ (IsPositive d (det (quad_ops d) (vector_sum (quad_ops d) u v) y))) where
    abbrev merged : Vec
    merged = vector_sum O u v

    parallel : AllByRecursion (Parallel O L Q y) (merged ∷ y ∷ z ∷ rest)
    parallel = flat u v y (z ∷ rest) cuttable turns not

    -- a vector that is parallel to y isn't parallel to v
    not_parallel : (x : Vec) → ¬ (x ≡ no_vector d) → Parallel O L Q y x → ¬ (det O v x ≡ zero_of d)
    not_parallel x nonzero along e =
        positive_nonzero d field (det O u v) turns
        (parallel_part O L Q u v x nonzero
        (parallel_trans O L Q x y merged cuttable.nonzero.1.1.0 (parallel_turned O L Q y x along) parallel.0)
        (parallel_turned O L Q v x e))

    pub next_turns : IsPositive d (det O v y)
    next_turns =
        positive_from d field (det O v y) (second_not_right u v y (z ∷ rest) cuttable turns) (not_parallel y cuttable.nonzero.1.1.0 parallel.1.0)

    pub next_chord_turns : IsPositive d (det O (vector_sum O v y) z)
    next_chord_turns = positive_from d field (det O (vector_sum O v y) z) nn (λ e. not_parallel z cuttable.nonzero.1.1.1.0 parallel.1.1.0 (sym (same ∙ alone) ∙ e))
      where
        nn : NN O L Q (det O (vector_sum O v y) z)
        nn =
            subst (NN O L Q)
            (identity O L (v.0 ∷ v.1 ∷ y.0 ∷ y.1 ∷ z.0 ∷ z.1 ∷ [])
            (det expr (expr.add (var 0) (expr.add (var 2) (expr.int (pos 0))), expr.add (var 1) (expr.add (var 3) (expr.int (pos 0)))) (expr.add (var 4) (expr.int (pos 0)), expr.add (var 5) (expr.int (pos 0))))
            (det expr (expr.add (var 0) (var 2), expr.add (var 1) (var 3)) (var 4, var 5)) tt)
            (all_convex u v y (z ∷ rest) cuttable turns (u ∷ []) (v ∷ y ∷ []) (z ∷ []) rest refl)

        same : det O (vector_sum O v y) z ≡ O.add (det O v z) (det O y z)
        same = identity O L (v.0 ∷ v.1 ∷ y.0 ∷ y.1 ∷ z.0 ∷ z.1 ∷ [])
            (det expr (expr.add (var 0) (var 2), expr.add (var 1) (var 3)) (var 4, var 5))
            (expr.add (det expr (var 0, var 1) (var 4, var 5)) (det expr (var 2, var 3) (var 4, var 5))) tt

        alone : O.add (det O v z) (det O y z) ≡ det O v z
        alone = ap (O.add (det O v z)) parallel.1.1.0 ∙ identity O L (det O v z ∷ []) (expr.add (var 0) (expr.int (pos 0))) (var 0) tt

  -- ---- what the crate rests on
  module _ (sides : List Vec) (long : 4 ≤ length sides) (cuttable : IsCuttable d sides) where
    abbrev n : ℕ
    n = length sides

    abbrev S : ℕ → Vec
    S i = side_at d sides i

    -- the sides from side i on, round the end: two of them, and two more
    record AtCorner (i : ℕ) : Type 0 where
      third : Vec
      fourth : Vec
      rest : List Vec
      whole : IsRotated sides (S i ∷ side_after d sides i ∷ third ∷ fourth ∷ rest)
      left : IsRotated (replaced sides i (chord_at d sides i)) (chord_at d sides i ∷ third ∷ fourth ∷ rest)
      third_is : third ≡ side_after d sides ((i + 1) % n)
      fourth_is : fourth ≡ side_after d sides (((i + 1) % n + 1) % n)

    at_corner : (i : ℕ) → i < n → AtCorner i
    at_corner i below = split (replaced_at sides i (no_vector d) (chord_at d sides i) below (omega arith))
      where
        split : IsReplacedAt sides i (S i) (side_after d sides i) (chord_at d sides i) (replaced sides i (chord_at d sides i)) → AtCorner i
        split at = go at.parts.rest refl
          where
            long_rest : length at.parts.rest + 2 ≡ n
            long_rest = omega (arith, rotated-length sides _ at.parts.whole)

            -- element k + 2 of the list that begins at side i
            side_is : (r : List Vec) → at.parts.rest ≡ r → (k : ℕ) → k + 2 < n → get_or r k (no_vector d) ≡ S ((i + (k + 2)) % n)
            side_is r e k inside =
                let place : k + 2 ≡ suc (suc k) = omega arith in
                sym (ap (λ xs. get_or xs k (no_vector d)) e)
                ∙ ap (λ m. get_or (S i ∷ side_after d sides i ∷ at.parts.rest) m (no_vector d)) (sym place)
                ∙ rotated_at sides _ at.parts.whole (k + 2) (no_vector d) inside
                ∙ ap (λ m. S ((m + (k + 2)) % n)) at.place

            go : (r : List Vec) → at.parts.rest ≡ r → AtCorner i
            go [] e = absurd (omega (arith, long_rest, ap length e))
            go (y ∷ []) e = absurd (omega (arith, long_rest, ap length e))
            go (y ∷ z ∷ r) e =
                let first : i + (0 + 2) ≡ i + 1 + 1 = omega arith in
                let second : i + (1 + 2) ≡ i + 1 + 1 + 1 = omega arith in
                let two : (i + (0 + 2)) % n ≡ ((i + 1) % n + 1) % n = ap (λ m. m % n) first ∙ sym (mod-add-mod (i + 1) n 1) in
                let three : (i + (1 + 2)) % n ≡ (((i + 1) % n + 1) % n + 1) % n =
                ap (λ m. m % n) second ∙ sym (mod-add-mod (i + 1 + 1) n 1) ∙ ap (λ m. (m + 1) % n) (sym (mod-add-mod (i + 1) n 1)) in
                record {
                  third = y;
                  fourth = z;
                  rest = r;
                  whole = subst (λ xs. IsRotated sides (S i ∷ side_after d sides i ∷ xs)) e at.parts.whole;
                  left = subst (λ xs. IsRotated (replaced sides i (chord_at d sides i)) (chord_at d sides i ∷ xs)) e at.parts.left;
                  third_is = side_is (y ∷ z ∷ r) e 0 (omega arith) ∙ ap S two;
                  fourth_is = side_is (y ∷ z ∷ r) e 1 (omega arith) ∙ ap S three;
                }

    at_cuttable : (i : ℕ) (below : i < n) → (c : AtCorner i) → IsCuttable d (S i ∷ side_after d sides i ∷ c.third ∷ c.fourth ∷ c.rest)
    at_cuttable i below c = cuttable_rotated d field sides _ c.whole cuttable

    -- a corner that turns to the left is an ear exactly where its chord turns to the left into the side behind it
    pub ear_exactly : (i : ℕ) → i < n → IsPositive d (corner d sides i) → HasPositiveCorner d (replaced sides i (chord_at d sides i)) ↔ IsPositive d (chord_corner d sides i)
    ear_exactly i below turns =
        let c = at_corner i below in
        let here = at_cuttable i below c in
        let m = chord_at d sides i ∷ c.third ∷ c.fourth ∷ c.rest in
        let left = replaced sides i (chord_at d sides i) in (
          λ some. subst (λ x. IsPositive d (det O (chord_at d sides i) x)) c.third_is
              (chord_turns (S i) (side_after d sides i) c.third (c.fourth ∷ c.rest) here turns (positive_rotated d left m c.left some)),
          λ positive. positive_rotated d m left (rotated_back left m c.left)
              (positive_first d (chord_at d sides i) c.third (c.fourth ∷ c.rest) (subst (λ x. IsPositive d (det O (chord_at d sides i) x)) (sym c.third_is) positive)),
        )

    -- some corner is an ear
    pub some_ear : (i : ℕ) × IsEar d sides i
    some_ear = go cuttable.some.0 cuttable.some.1 cuttable.some.2
      where
        go : (i : ℕ) → i < n → IsPositive d (corner d sides i) → (i : ℕ) × IsEar d sides i
        go i below turns =
            let c = at_corner i below in
            let here = at_cuttable i below c in
            elim (positive_or_not d field (chord_corner d sides i)) [
              | inl positive ↦ (i, (below, turns, (ear_exactly i below turns).1 positive))
              | inr not ↦
                  let j = (i + 1) % n in
                  let under : j < n = mod-lt (i + 1) (omega arith) in
                  let not_third : ¬ (IsPositive d (det O (chord_at d sides i) c.third)) = λ p. not (subst (λ x. IsPositive d (det O (chord_at d sides i) x)) c.third_is p) in
                  let next : IsPositive d (corner d sides j) =
                  subst (λ x. IsPositive d (det O (S j) x)) c.third_is (next_turns (S i) (side_after d sides i) c.third c.fourth c.rest here turns not_third) in
                  let behind : IsPositive d (chord_corner d sides j) =
                  subst (λ x. IsPositive d (det O (vector_sum O (S j) x) (side_after d sides ((j + 1) % n)))) c.third_is
                  (subst (λ x. IsPositive d (det O (vector_sum O (S j) c.third) x)) c.fourth_is (next_chord_turns (S i) (side_after d sides i) c.third c.fourth c.rest here turns not_third)) in
                  (j, (under, next, (ear_exactly j under next).1 behind))
            ]

    -- what is left after an ear is cut off can be cut
    pub cuttable_left : (i : ℕ) → IsEar d sides i → IsCuttable d (replaced sides i (chord_at d sides i))
    cuttable_left i ear =
        let c = at_corner i ear.0 in
        let m = chord_at d sides i ∷ c.third ∷ c.fourth ∷ c.rest in
        let left = replaced sides i (chord_at d sides i) in
        cuttable_rotated d field m left (rotated_back left m c.left)
        (left_cuttable (S i) (side_after d sides i) (c.third ∷ c.fourth ∷ c.rest) (at_cuttable i ear.0 c) ear.1 (positive_rotated d left m c.left ear.2))

  -- a corner is an ear or not
  ear_decided : (sides : List Vec) (i : ℕ) → IsEar d sides i ⊎ ¬ (IsEar d sides i)
  ear_decided sides i =
      elim (cases_lt i (length sides)) [
        | inr outside ↦ inr (λ ear. omega (arith, ear.0))
        | inl below ↦ elim (positive_or_not d field (corner d sides i)) [
          | inr not ↦ inr (λ ear. not ear.1)
          | inl turns ↦ elim (some_or_none d field (replaced sides i (chord_at d sides i))) [
            | inl some ↦ inl (below, turns, some)
            | inr none ↦ inr (λ ear. none ear.2.0 ear.2.1 ear.2.2)
          ]
        ]
      ]

  -- there is a least ear
  pub some_least_ear : (sides : List Vec) → 4 ≤ length sides → IsCuttable d sides → (i : ℕ) × IsLeastEar d sides i
  some_least_ear sides long cuttable =
      let ear = some_ear sides long cuttable in
      elim (first_below (IsEar d sides) (ear_decided sides) (length sides)) [
        | inl first ↦ (first.place, (first.holds, first.before))
        | inr none ↦ absurd (none ear.0 ear.1.0 ear.1)
      ]

  -- ---- the last three sides
  -- they sum to zero
  pub last_closed : (u v w : Vec) → IsCuttable d (u ∷ v ∷ w ∷ []) → vector_sum O (vector_sum O u v) w ≡ no_vector d
  last_closed u v w cuttable =
      (λ i. (
        identity O L (u.0 ∷ v.0 ∷ w.0 ∷ []) (expr.add (expr.add (var 0) (var 1)) (var 2)) (expr.add (var 0) (expr.add (var 1) (expr.add (var 2) (expr.int (pos 0))))) tt i,
        identity O L (u.1 ∷ v.1 ∷ w.1 ∷ []) (expr.add (expr.add (var 0) (var 1)) (var 2)) (expr.add (var 0) (expr.add (var 1) (expr.add (var 2) (expr.int (pos 0))))) tt i,
      )) ∙ cuttable.closed

  -- and turn to the left
  pub last_turns : (u v w : Vec) → IsCuttable d (u ∷ v ∷ w ∷ []) → IsPositive d (det O u v)
  last_turns u v w cuttable = by_place cuttable.some.0 refl cuttable.some.1
    where
      at_place : (i : ℕ) → cuttable.some.0 ≡ i → IsPositive d (corner d (u ∷ v ∷ w ∷ []) i)
      at_place i e = subst (λ k. IsPositive d (corner d (u ∷ v ∷ w ∷ []) k)) e cuttable.some.2

      e : vector_sum O (vector_sum O u v) w ≡ no_vector d
      e = last_closed u v w cuttable

      by_place : (i : ℕ) → cuttable.some.0 ≡ i → cuttable.some.0 < 3 → IsPositive d (det O u v)
      by_place zero k _ = at_place 0 k
      by_place (suc zero) k _ = subst (IsPositive d) (det_closed_second O L u v w e) (at_place 1 k)
      by_place (suc (suc zero)) k _ = subst (IsPositive d) (det_closed_third O L u v w e) (at_place 2 k)
      by_place (suc (suc (suc i))) k inside = absurd (omega (arith, k, inside))
