-- Vectors that turn to the left, in the upper and the lower half of the plane.
use Rattle.std.proofs.Common.{◌≡◌, ℕ, zero, suc, [], ◌∷◌, subst, sym, ap, ◌∙◌}
use mathlib.Core.Logic.{inl, inr}
use Rattle.rings.specs.Ring.{Ops, IsRing, var, expr}
use Rattle.rings.specs.Order.{IsOrdered}
use Rattle.rings.specs.Forms.{det}
use Rattle.rings.specs.Vectors.{Vector, zero_vector, vector_sum, opposite_vector, IsUpper}
use Rattle.rings.proofs.Solver.{identity}
use Rattle.rings.proofs.Turning.{opposite_zero, det_opposite, det_self, det_closed_second, det_closed_third, zero_not_upper, upper_or_lower, upper_sum, lower_sum, turning_some, upper_turns_left}

module _ {R : Type 0} (O : Ops R) (L : IsRing O) {P : R → Type 0} (Q : IsOrdered O P) where
  abbrev Upper : Vector R → Type 0
  Upper v = IsUpper O P v

  abbrev Lower : Vector R → Type 0
  Lower v = IsUpper O P (opposite_vector O v)

  upper_round : (v : ℕ → Vector R) → ((i : ℕ) → Upper (v i)) → ((i : ℕ) → P (det O (v i) (v (suc i)))) → (p : ℕ) → P (det O (v 0) (v (suc p)))
  upper_round v up left zero = left 0
  upper_round v up left (suc p) =
      upper_turns_left O L Q (v 0) (v (suc p)) (v (suc (suc p))) (up 0) (up (suc p)) (up (suc (suc p))) (upper_round v up left p) (left (suc p))

  -- vectors that come back, with a turn to the left from each to the next, are not all upper
  pub no_upper_round : (v : ℕ → Vector R) → ((i : ℕ) → Upper (v i)) → ((i : ℕ) → P (det O (v i) (v (suc i)))) → (p : ℕ) → ¬ (v (suc p) ≡ v 0)
  no_upper_round v up left p e = Q.zero_is_not (subst P (ap (det O (v 0)) e ∙ det_self O L (v 0)) (upper_round v up left p))

  -- nor all lower
  pub no_lower_round : (v : ℕ → Vector R) → ((i : ℕ) → Lower (v i)) → ((i : ℕ) → P (det O (v i) (v (suc i)))) → (p : ℕ) → ¬ (v (suc p) ≡ v 0)
  no_lower_round v low left p e =
      no_upper_round (λ i. opposite_vector O (v i)) low (λ i. subst P (sym (det_opposite O L (v i) (v (suc i)))) (left i)) p (ap (opposite_vector O) e)

  -- a vector from which another turns to the left is lower, where it isn't upper
  pub lower_of : (v w : Vector R) → P (det O v w) → ¬ (Upper v) → Lower v
  lower_of v w turn low = elim (upper_or_lower O L Q v (turning_some O L Q v w turn)) [ inl up ↦ absurd (low up) | inr down ↦ down ]

  -- ---- triangles
  -- the sides of a triangle are not all upper
  pub not_all_upper : (a b c : Vector R) → vector_sum O (vector_sum O a b) c ≡ zero_vector O → Upper a → Upper b → ¬ (Upper c)
  not_all_upper a b c e ua ub uc = zero_not_upper O L Q (subst Upper e (upper_sum O L Q (vector_sum O a b) c (upper_sum O L Q a b ua ub) uc))

  -- nor all lower
  pub not_all_lower : (a b c : Vector R) → vector_sum O (vector_sum O a b) c ≡ zero_vector O → Lower a → Lower b → ¬ (Lower c)
  not_all_lower a b c e la lb lc =
      zero_not_upper O L Q (subst Upper (ap (opposite_vector O) e ∙ opposite_zero O L) (lower_sum O L Q (vector_sum O a b) c (lower_sum O L Q a b la lb) lc))

  -- det(u, -v) = det(v, u)
  det_back : (u v : Vector R) → det O u (opposite_vector O v) ≡ det O v u
  det_back u v =
      identity O L (u.0 ∷ u.1 ∷ v.0 ∷ v.1 ∷ []) (det expr (var 0, var 1) (opposite_vector expr (var 2, var 3))) (det expr (var 2, var 3) (var 0, var 1)) tt

  -- from each side of a triangle the opposite of the side before it turns as the second side from the first
  pub first_corner : (a b c : Vector R) → vector_sum O (vector_sum O a b) c ≡ zero_vector O → P (det O a b) → P (det O a (opposite_vector O c))
  first_corner a b c e p = subst P (sym (det_back a c ∙ det_closed_third O L a b c e)) p

  pub second_corner : (a b c : Vector R) → vector_sum O (vector_sum O a b) c ≡ zero_vector O → P (det O a b) → P (det O b (opposite_vector O a))
  second_corner a b c e p = subst P (sym (det_back b a)) p

  pub third_corner : (a b c : Vector R) → vector_sum O (vector_sum O a b) c ≡ zero_vector O → P (det O a b) → P (det O c (opposite_vector O b))
  third_corner a b c e p = subst P (sym (det_back c b ∙ det_closed_second O L a b c e)) p
