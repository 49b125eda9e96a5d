-- Vectors that are parallel, and lists of them.
use Rattle.std.proofs.Common.{◌≡◌, List, [], ◌∷◌, ◌++◌, ap, sym, subst, ◌∙◌, refl}
use Rattle.std.specs.Prelude.{pos, ◌⊎◌}
use Rattle.std.specs.List.{AllByRecursion}
use mathlib.Core.Logic.{inl, inr}
use Rattle.rings.specs.Ring.{Ops, IsRing, var, expr}
use Rattle.rings.specs.Order.{IsOrdered}
use Rattle.rings.specs.Forms.{det}
use Rattle.rings.proofs.Solver.{identity}
use Rattle.std.proofs.lemmas.List.{append_assoc}
use Rattle.rings.proofs.Ordered.{no_divisors, product_negative, product_not_negative}
use Rattle.rings.specs.Vectors.{Vector, zero_vector, vector_sum}
use Rattle.rings.proofs.Signs.{never_below}
use Rattle.ear_cut.proofs.Sorted.{NN, total, total_both}
use Rattle.ear_cut.proofs.ConvexPosition.{InConvexPosition}
open expr use {add as ◌+'◌, sub as ◌-'◌, mul as ◌*'◌, neg as neg', int as int'}

infixl 60 ◌+'◌
infixl 60 ◌-'◌
infixl 70 ◌*'◌
module _ {R : Type 0} (O : Ops R) (L : IsRing O) {P : R → Type 0} (Q : IsOrdered O P) where
  open O use {add as ◌⊕◌, sub as ◌⊖◌, mul as ◌⊗◌, neg as minus, int as num_of}

  infixl 60 ◌⊕◌
  infixl 60 ◌⊖◌
  infixl 70 ◌⊗◌
  -- their determinant is zero
  abbrev pub Parallel : Vector R → Vector R → Type 0
  Parallel u v = det O u v ≡ num_of (pos 0)

  pub parallel_turned : (u v : Vector R) → Parallel u v → Parallel v u
  parallel_turned u v h =
      identity O L (u.0 ∷ u.1 ∷ v.0 ∷ v.1 ∷ []) (det expr (var 2, var 3) (var 0, var 1)) (neg' (det expr (var 0, var 1) (var 2, var 3))) tt
      ∙ ap minus h ∙ identity O L [] (neg' (int' (pos 0))) (int' (pos 0)) tt

  -- two vectors that are parallel to a nonzero one are parallel
  pub parallel_trans : (a b c : Vector R) → ¬ (b ≡ zero_vector O) → Parallel a b → Parallel b c → Parallel a c
  parallel_trans a b c nonzero h k = go (no_divisors O L Q (det O a c) b.0 first) (no_divisors O L Q (det O a c) b.1 second)
    where
      nil : (x y : R) → num_of (pos 0) ⊗ x ⊕ num_of (pos 0) ⊗ y ≡ num_of (pos 0)
      nil x y = identity O L (x ∷ y ∷ []) (int' (pos 0) *' var 0 +' int' (pos 0) *' var 1) (int' (pos 0)) tt

      first : det O a c ⊗ b.0 ≡ num_of (pos 0)
      first =
          identity O L (a.0 ∷ a.1 ∷ b.0 ∷ b.1 ∷ c.0 ∷ c.1 ∷ [])
          (det expr (var 0, var 1) (var 4, var 5) *' var 2)
          (det expr (var 0, var 1) (var 2, var 3) *' var 4 +' det expr (var 2, var 3) (var 4, var 5) *' var 0) tt
          ∙ ap (λ t. t ⊗ c.0 ⊕ det O b c ⊗ a.0) h ∙ ap (λ t. num_of (pos 0) ⊗ c.0 ⊕ t ⊗ a.0) k ∙ nil c.0 a.0

      second : det O a c ⊗ b.1 ≡ num_of (pos 0)
      second =
          identity O L (a.0 ∷ a.1 ∷ b.0 ∷ b.1 ∷ c.0 ∷ c.1 ∷ [])
          (det expr (var 0, var 1) (var 4, var 5) *' var 3)
          (det expr (var 0, var 1) (var 2, var 3) *' var 5 +' det expr (var 2, var 3) (var 4, var 5) *' var 1) tt
          ∙ ap (λ t. t ⊗ c.1 ⊕ det O b c ⊗ a.1) h ∙ ap (λ t. num_of (pos 0) ⊗ c.1 ⊕ t ⊗ a.1) k ∙ nil c.1 a.1

      go : (det O a c ≡ num_of (pos 0)) ⊎ (b.0 ≡ num_of (pos 0)) → (det O a c ≡ num_of (pos 0)) ⊎ (b.1 ≡ num_of (pos 0)) → Parallel a c
      go (inl e) _ = e
      go (inr e) (inl g) = g
      go (inr e) (inr g) = absurd (nonzero (λ i. (e i, g i)))

  pub parallel_self : (a : Vector R) → Parallel a a
  parallel_self a = identity O L (a.0 ∷ a.1 ∷ []) (det expr (var 0, var 1) (var 0, var 1)) (int' (pos 0)) tt

  -- u is parallel to v where one of them is to their sum
  pub parallel_part : (u v w : Vector R) → ¬ (w ≡ zero_vector O) → Parallel w (u.0 ⊕ v.0, u.1 ⊕ v.1) → Parallel w v → Parallel u v
  parallel_part u v w nonzero h k =
      let both : Parallel (u.0 ⊕ v.0, u.1 ⊕ v.1) v = parallel_trans (u.0 ⊕ v.0, u.1 ⊕ v.1) w v nonzero (parallel_turned w (u.0 ⊕ v.0, u.1 ⊕ v.1) h) k in
      identity O L (u.0 ∷ u.1 ∷ v.0 ∷ v.1 ∷ []) (det expr (var 0, var 1) (var 2, var 3)) (det expr (var 0 +' var 2, var 1 +' var 3) (var 2, var 3)) tt
      ∙ both

  -- ---- a list in convex position that begins with two parallel vectors
  -- z is parallel to y where the sums of what stands before z, with z and without it, are
  parallel_next : (y z : Vector R) (p : List (Vector R)) → Parallel y (total O L Q p) → Parallel y (total O L Q (p ++ (z ∷ []))) → Parallel y z
  parallel_next y z p h k =
      let s = total O L Q p in
      identity O L (y.0 ∷ y.1 ∷ z.0 ∷ z.1 ∷ s.0 ∷ s.1 ∷ [])
      (det expr (var 0, var 1) (var 2, var 3))
      (det expr (var 0, var 1) (var 4 +' (var 2 +' int' (pos 0)), var 5 +' (var 3 +' int' (pos 0))) -' det expr (var 0, var 1) (var 4, var 5)) tt
      ∙ ap (λ t. det O y t ⊖ det O y s) (sym (total_both O L Q p (z ∷ [])))
      ∙ ap (λ t. t ⊖ det O y s) k ∙ ap (λ t. num_of (pos 0) ⊖ t) h
      ∙ identity O L [] (int' (pos 0) -' int' (pos 0)) (int' (pos 0)) tt

  -- w and y are parallel, v turns to the right into w and not into y: then y and z are parallel where none of w and y turns to the right into z
  parallel_third : (v w y z : Vector R) → NN O L Q (det O v y) → P (minus (det O v w)) → Parallel w y → NN O L Q (det O w z) → NN O L Q (det O y z) → Parallel y z
  parallel_third v w y z h n flat k (inl e) = e
  parallel_third v w y z h n flat k (inr p) =
      never_below O L Q (det O v y ⊗ det O w z) (product_not_negative O L Q (det O v y) (det O w z) h k)
      (subst (λ t. P (minus t)) same (product_negative O L Q (det O v w) (det O y z) n p))
    where
      same : det O v w ⊗ det O y z ≡ det O v y ⊗ det O w z
      same =
          identity O L (v.0 ∷ v.1 ∷ w.0 ∷ w.1 ∷ y.0 ∷ y.1 ∷ z.0 ∷ z.1 ∷ [])
          (det expr (var 0, var 1) (var 2, var 3) *' det expr (var 4, var 5) (var 6, var 7))
          (det expr (var 0, var 1) (var 4, var 5) *' det expr (var 2, var 3) (var 6, var 7) -' det expr (var 2, var 3) (var 4, var 5) *' det expr (var 0, var 1) (var 6, var 7)) tt
          ∙ ap (λ t. det O v y ⊗ det O w z ⊖ t ⊗ det O v z) flat
          ∙ (let a = det O v y ⊗ det O w z in identity O L (a ∷ det O v z ∷ []) (var 0 -' int' (pos 0) *' var 1) (var 0) tt)

  -- a fact of each element of a list, wherever it is split
  each_split : {X : Type 0} (F : X → Type 0) (l : List X) → ((p : List X) (z : X) (q : List X) → l ≡ p ++ (z ∷ q) → F z) → AllByRecursion F l
  each_split F [] f = tt
  each_split F (z ∷ l) f = (f [] z l refl, each_split F l (λ p x q e. f (z ∷ p) x q (ap (λ s. z ∷ s) e)))

  -- so all that follows is parallel to y
  pub all_parallel : (v w y : Vector R) (rest : List (Vector R)) → NN O L Q (det O v y) → P (minus (det O v w)) → Parallel w y → InConvexPosition O L Q (w ∷ y ∷ rest) → AllByRecursion (Parallel y) (w ∷ y ∷ rest)
  all_parallel v w y rest h n flat convex = (
    parallel_turned w y flat,
    (
      parallel_self y,
      each_split (Parallel y) rest (λ p z q e.
          parallel_next y z p (stretch p (z ∷ q) e) (stretch (p ++ (z ∷ [])) q (e ∙ sym (append_assoc p (z ∷ []) q)))),
    ),
  )
    where
      from_first : (s : Vector R) → det O (vector_sum O w (zero_vector O)) (vector_sum O y s) ≡ det O w s
      from_first s =
          identity O L (w.0 ∷ w.1 ∷ y.0 ∷ y.1 ∷ s.0 ∷ s.1 ∷ [])
          (det expr (var 0 +' int' (pos 0), var 1 +' int' (pos 0)) (var 2 +' var 4, var 3 +' var 5))
          (det expr (var 0, var 1) (var 2, var 3) +' det expr (var 0, var 1) (var 4, var 5)) tt
          ∙ ap (λ t. t ⊕ det O w s) flat ∙ identity O L (det O w s ∷ []) (int' (pos 0) +' var 0) (var 0) tt

      from_second : (s : Vector R) → det O (vector_sum O y (zero_vector O)) s ≡ det O y s
      from_second s =
          identity O L (y.0 ∷ y.1 ∷ s.0 ∷ s.1 ∷ []) (det expr (var 0 +' int' (pos 0), var 1 +' int' (pos 0)) (var 2, var 3)) (det expr (var 0, var 1) (var 2, var 3)) tt

      -- the sum of what stands first behind y is parallel to y
      stretch : (p q : List (Vector R)) → rest ≡ p ++ q → Parallel y (total O L Q p)
      stretch p q e =
          parallel_third v w y (total O L Q p) h n flat
          (subst (NN O L Q) (from_first (total O L Q p)) (convex [] (w ∷ []) (y ∷ p) q (ap (λ s. w ∷ y ∷ s) e)))
          (subst (NN O L Q) (from_second (total O L Q p)) (convex (w ∷ []) (y ∷ []) p q (ap (λ s. w ∷ y ∷ s) e)))
