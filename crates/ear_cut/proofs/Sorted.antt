-- Lists of vectors of one half of the plane in the order of their directions, and where they pass a vector of the other half.
use Rattle.std.proofs.Common.{◌≡◌, List, [], ◌∷◌, ◌++◌, subst, sym, ap, ◌∙◌}
use Rattle.std.specs.Prelude.{pos, ◌⊎◌, ⊤}
use Rattle.std.specs.List.{AllByRecursion}
use mathlib.Core.Logic.{inl, inr}
use Rattle.rings.specs.Ring.{Ops, IsRing, var, expr}
use Rattle.rings.specs.Order.{IsOrdered, Sign, is_zero, is_positive, is_negative, IsNotNegative}
use Rattle.rings.specs.Forms.{det as determinant}
use Rattle.rings.specs.Vectors.{Vector, zero_vector, vector_sum, opposite_vector, IsUpper}
use Rattle.rings.proofs.Solver.{identity}
use Rattle.rings.proofs.Ordered.{sum_not_negative}
use Rattle.rings.proofs.Turning.{opposite_twice, upper_sum, lower_sum, upper_not_right, lower_not_right, det_zero_left, det_zero_right, det_sum_left, det_sum_right, det_closed_second, det_closed_third}
use Rattle.ear_cut.proofs.Splits.{all_both, all_first, all_second}
open expr use {add as ◌+'◌, neg as neg', int as int'}

infixl 60 ◌+'◌
module _ {R : Type 0} (O : Ops R) (L : IsRing O) {P : R → Type 0} (Q : IsOrdered O P) where
  open O use {add as ◌⊕◌, neg as minus, int as num_of}

  infixl 60 ◌⊕◌
  -- the determinant of two vectors
  abbrev det : Vector R → Vector R → R
  det u v = determinant O u v

  -- u + v
  abbrev both : Vector R → Vector R → Vector R
  both u v = vector_sum O u v

  -- the zero vector
  abbrev none : Vector R
  none = zero_vector O

  abbrev Upper : Vector R → Type 0
  Upper v = IsUpper O P v

  abbrev Lower : Vector R → Type 0
  Lower v = IsUpper O P (opposite_vector O v)

  -- zero or positive
  abbrev pub NN : R → Type 0
  NN a = IsNotNegative O P a

  -- what a half is: directions in it are ordered, and it holds the sums of its vectors
  pub record IsHalf (H : Vector R → Type 0) : Type 0 where
    pub trans : (a b c : Vector R) → H a → H b → H c → NN (det a b) → NN (det b c) → NN (det a c)
    pub sum : (a b : Vector R) → H a → H b → H (both a b)

  pub upper_half : IsHalf Upper
  upper_half = record { trans = upper_not_right O L Q; sum = upper_sum O L Q }

  pub lower_half : IsHalf Lower
  lower_half = record { trans = lower_not_right O L Q; sum = lower_sum O L Q }

  -- the opposite of a vector is in the other half
  pub upper_flips : (v : Vector R) → Upper v → Lower (opposite_vector O v)
  upper_flips v h = subst Upper (sym (opposite_twice O L v)) h

  pub lower_flips : (v : Vector R) → Lower v → Upper (opposite_vector O v)
  lower_flips v h = h

  -- ---- sums of lists
  -- the sum of vectors
  abbrev pub total : List (Vector R) → Vector R
  total [] = none
  total (v ∷ l) = both v (total l)

  -- the sum of both parts of a list
  pub total_both : (x y : List (Vector R)) → total (x ++ y) ≡ both (total x) (total y)
  total_both [] y = λ i. (
    identity O L ((total y).0 ∷ []) (var 0) (int' (pos 0) +' var 0) tt i,
    identity O L ((total y).1 ∷ []) (var 0) (int' (pos 0) +' var 0) tt i,
  )
  total_both (v ∷ x) y = ap (both v) (total_both x y) ∙ λ i. (
    identity O L (v.0 ∷ (total x).0 ∷ (total y).0 ∷ []) (var 0 +' (var 1 +' var 2)) (var 0 +' var 1 +' var 2) tt i,
    identity O L (v.1 ∷ (total x).1 ∷ (total y).1 ∷ []) (var 0 +' (var 1 +' var 2)) (var 0 +' var 1 +' var 2) tt i,
  )

  -- a sum of vectors none of which turns to the right from v
  pub all_right : (v : Vector R) (l : List (Vector R)) → AllByRecursion (λ w. NN (det v w)) l → NN (det v (total l))
  all_right v [] h = inl (det_zero_right O L v)
  all_right v (w ∷ l) h = subst NN (sym (det_sum_right O L w (total l) v)) (sum_not_negative O L Q _ _ h.0 (all_right v l h.1))

  -- a sum of vectors from none of which v turns to the right
  pub all_left : (v : Vector R) (l : List (Vector R)) → AllByRecursion (λ w. NN (det w v)) l → NN (det (total l) v)
  all_left v [] h = inl (det_zero_left O L v)
  all_left v (w ∷ l) h = subst NN (sym (det_sum_left O L w (total l) v)) (sum_not_negative O L Q _ _ h.0 (all_left v l h.1))

  -- a list in the order of its directions: from no vector a later one turns to the right
  abbrev pub Sorted : List (Vector R) → Type 0
  Sorted [] = ⊤
  Sorted (v ∷ l) = AllByRecursion (λ w. NN (det v w)) l × Sorted l

  pub sorted_second : (x y : List (Vector R)) → Sorted (x ++ y) → Sorted y
  sorted_second [] y h = h
  sorted_second (v ∷ x) y h = sorted_second x y h.1

  pub sorted_first : (x y : List (Vector R)) → Sorted (x ++ y) → Sorted x
  sorted_first [] y h = tt
  sorted_first (v ∷ x) y h = (all_first (λ w. NN (det v w)) x y h.0, sorted_first x y h.1)

  -- from no vector of the first part a vector of the second turns to the right, so neither do the sums
  pub sorted_sums : (x y : List (Vector R)) → Sorted (x ++ y) → NN (det (total x) (total y))
  sorted_sums x y h = all_left (total y) x (go x h)
    where
      go : (x : List (Vector R)) → Sorted (x ++ y) → AllByRecursion (λ u. NN (det u (total y))) x
      go [] h = tt
      go (u ∷ x) h = (all_right u y (all_second (λ w. NN (det u w)) x y h.0), go x h.1)

  -- each vector and the next one are so related
  abbrev pub Chain : (Vector R → Vector R → Type 0) → List (Vector R) → Type 0
  Chain E [] = ⊤
  Chain E (u ∷ []) = ⊤
  Chain E (u ∷ v ∷ l) = E u v × Chain E (v ∷ l)

  -- a list of one half that never turns to the right is in the order of its directions
  pub chain_sorted : (H : Vector R → Type 0) → IsHalf H → (l : List (Vector R)) → AllByRecursion H l → Chain (λ u v. NN (det u v)) l → Sorted l
  chain_sorted H half [] all chain = tt
  chain_sorted H half (u ∷ []) all chain = (tt, tt)
  chain_sorted H half (u ∷ v ∷ l) all chain =
      let rest : Sorted (v ∷ l) = chain_sorted H half (v ∷ l) all.1 chain.1 in
      ((chain.0, go l all.1.1 rest.0), rest)
    where
      go : (l' : List (Vector R)) → AllByRecursion H l' → AllByRecursion (λ w. NN (det v w)) l' → AllByRecursion (λ w. NN (det u w)) l'
      go [] h k = tt
      go (w ∷ l') h k = (half.trans u v w all.0 all.1.0 h.0 chain.0 k.0, go l' h.1 k.1)

  -- the sum of vectors of one half, of which there is one, is in that half
  pub half_total : (H : Vector R → Type 0) → IsHalf H → (v : Vector R) (l : List (Vector R)) → H v → AllByRecursion H l → H (total (v ∷ l))
  half_total H half v [] h all =
      subst H (λ i. (identity O L (v.0 ∷ []) (var 0) (var 0 +' int' (pos 0)) tt i, identity O L (v.1 ∷ []) (var 0) (var 0 +' int' (pos 0)) tt i)) h
  half_total H half v (w ∷ l) h all = half.sum v (total (w ∷ l)) h (half_total H half w l all.0 all.1)

  -- ---- where a direction is passed
  -- det(y, w) ≥ 0, that is det(w, y) ≤ 0
  abbrev Before : Vector R → Vector R → Type 0
  Before y w = NN (det y w)

  abbrev After : Vector R → Vector R → Type 0
  After y w = NN (det w y)

  -- the determinant in the other order
  det_turned : (u v : Vector R) → det v u ≡ minus (det u v)
  det_turned u v =
      identity O L (u.0 ∷ u.1 ∷ v.0 ∷ v.1 ∷ []) (determinant expr (var 2, var 3) (var 0, var 1)) (neg' (determinant expr (var 0, var 1) (var 2, var 3))) tt

  -- det(w, y) isn't negative, or det(y, w) isn't
  either_side : (w y : Vector R) → After y w ⊎ Before y w
  either_side w y = go (Q.sign (det w y))
    where
      go : Sign O P (det w y) → After y w ⊎ Before y w
      go (is_zero e) = inl (inl e)
      go (is_positive p) = inl (inr p)
      go (is_negative n) = inr (inr (subst P (sym (det_turned w y)) n))

  -- of a sorted list of one half, and a vector y of the other: all vectors of the first part lie before y, or all of the second after it
  pub passes : (H : Vector R → Type 0) → IsHalf H → (y : Vector R) → H (opposite_vector O y) → (p q : List (Vector R)) → AllByRecursion H (p ++ q) → Sorted (p ++ q)
      → AllByRecursion (Before y) p ⊎ AllByRecursion (After y) q
  passes H half y other [] q all sorted = inl tt
  passes H half y other (w ∷ p) q all sorted = go (either_side w y) (passes H half y other p q all.1 sorted.1)
    where
      later : After y w → (l : List (Vector R)) → AllByRecursion H l → AllByRecursion (λ v. NN (det w v)) l → AllByRecursion (After y) l
      later h [] hs ks = tt
      later h (v ∷ l) hs ks = (
        subst NN (turn v) (half.trans (opposite_vector O y) w v other all.0 hs.0 (subst NN (sym (turn w)) h) ks.0),
        later h l hs.1 ks.1,
      )
        where
          turn : (u : Vector R) → det (opposite_vector O y) u ≡ det u y
          turn u = identity O L (u.0 ∷ u.1 ∷ y.0 ∷ y.1 ∷ []) (determinant expr (neg' (var 2), neg' (var 3)) (var 0, var 1)) (determinant expr (var 0, var 1) (var 2, var 3)) tt

      go : After y w ⊎ Before y w → AllByRecursion (Before y) p ⊎ AllByRecursion (After y) q → AllByRecursion (Before y) (w ∷ p) ⊎ AllByRecursion (After y) q
      go (inl h) rest = inr (later h q (all_second H p q all.1) (all_second (λ v. NN (det w v)) p q sorted.0))
      go (inr h) (inl before) = inl (h, before)
      go (inr h) (inr after) = inr after

  -- ---- stretches of a closed list
  -- a, x, y in one half and then y', b in the other: x and y with y' don't turn to the right
  pub turn_after : (H G : Vector R → Type 0) → IsHalf H → IsHalf G → ((v : Vector R) → H v → G (opposite_vector O v))
      → (a x y y' b : List (Vector R))
      → AllByRecursion H (a ++ (x ++ y)) → Sorted (a ++ (x ++ y)) → AllByRecursion G (y' ++ b) → Sorted (y' ++ b)
      → both (both (total x) (both (total y) (total y'))) (both (total b) (total a)) ≡ none
      → NN (det (total x) (both (total y) (total y')))
  turn_after H G half other flip a [] y y' b all sorted all' sorted' closed = inl (det_zero_left O L (both (total y) (total y')))
  turn_after H G half other flip a (v ∷ x) y y' b all sorted all' sorted' closed = go (passes G other X (flip X in_half) y' b all' sorted')
    where
      X : Vector R
      X = total (v ∷ x)

      own : AllByRecursion H (v ∷ x)
      own = all_first H (v ∷ x) y (all_second H a ((v ∷ x) ++ y) all)

      in_half : H (total (v ∷ x))
      in_half = half_total H half v x own.0 own.1

      a_x : NN (det (total a) (total (v ∷ x)))
      a_x = all_left (total (v ∷ x)) a (go a sorted)
        where
          go : (l : List (Vector R)) → Sorted (l ++ ((v ∷ x) ++ y)) → AllByRecursion (λ u. NN (det u (total (v ∷ x)))) l
          go [] h = tt
          go (u ∷ l) h = (all_right u (v ∷ x) (all_first (λ w. NN (det u w)) (v ∷ x) y (all_second (λ w. NN (det u w)) l ((v ∷ x) ++ y) h.0)), go l h.1)

      x_y : NN (det (total (v ∷ x)) (total y))
      x_y = sorted_sums (v ∷ x) y (sorted_second a ((v ∷ x) ++ y) sorted)

      go : AllByRecursion (Before X) y' ⊎ AllByRecursion (After X) b → NN (det (total (v ∷ x)) (both (total y) (total y')))
      go (inl before) = subst NN (sym (det_sum_right O L (total y) (total y') X)) (sum_not_negative O L Q _ _ x_y (all_right X y' before))
      go (inr after) =
          subst NN (det_closed_third O L X (both (total y) (total y')) (both (total b) (total a)) closed)
          (subst NN (sym (det_sum_left O L (total b) (total a) X)) (sum_not_negative O L Q _ _ (all_left X b after) a_x))

  -- a, x in one half and then x', y, b in the other: x with x' and y don't turn to the right
  pub turn_before : (H G : Vector R → Type 0) → IsHalf H → IsHalf G → ((v : Vector R) → G v → H (opposite_vector O v))
      → (a x x' y b : List (Vector R))
      → AllByRecursion H (a ++ x) → Sorted (a ++ x) → AllByRecursion G (x' ++ (y ++ b)) → Sorted (x' ++ (y ++ b))
      → both (both (both (total x) (total x')) (total y)) (both (total b) (total a)) ≡ none
      → NN (det (both (total x) (total x')) (total y))
  turn_before H G half other flip a x x' [] b all sorted all' sorted' closed = inl (det_zero_right O L (both (total x) (total x')))
  turn_before H G half other flip a x x' (v ∷ y) b all sorted all' sorted' closed = go (passes H half Y (flip Y in_half) a x all sorted)
    where
      Y : Vector R
      Y = total (v ∷ y)

      own : AllByRecursion G (v ∷ y)
      own = all_first G (v ∷ y) b (all_second G x' ((v ∷ y) ++ b) all')

      in_half : G (total (v ∷ y))
      in_half = half_total G other v y own.0 own.1

      x'_y : NN (det (total x') (total (v ∷ y)))
      x'_y = sorted_sums x' (v ∷ y) (go x' sorted')
        where
          go : (l : List (Vector R)) → Sorted (l ++ ((v ∷ y) ++ b)) → Sorted (l ++ (v ∷ y))
          go [] h = sorted_first (v ∷ y) b h
          go (u ∷ l) h = (
            all_both (λ w. NN (det u w)) l (v ∷ y) (all_first (λ w. NN (det u w)) l ((v ∷ y) ++ b) h.0)
                (all_first (λ w. NN (det u w)) (v ∷ y) b (all_second (λ w. NN (det u w)) l ((v ∷ y) ++ b) h.0)),
            go l h.1,
          )

      y_b : NN (det (total (v ∷ y)) (total b))
      y_b = sorted_sums (v ∷ y) b (sorted_second x' ((v ∷ y) ++ b) sorted')

      go : AllByRecursion (Before Y) a ⊎ AllByRecursion (After Y) x → NN (det (both (total x) (total x')) (total (v ∷ y)))
      go (inl before) =
          subst NN (det_closed_second O L (both (total x) (total x')) Y (both (total b) (total a)) closed)
          (subst NN (sym (det_sum_right O L (total b) (total a) Y)) (sum_not_negative O L Q _ _ y_b (all_right Y a before)))
      go (inr after) = subst NN (sym (det_sum_left O L (total x) (total x') Y)) (sum_not_negative O L Q _ _ (all_left Y x after) x'_y)
