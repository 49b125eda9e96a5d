-- Turns of vectors, and the upper and the lower half of the plane, in every commutative ring and every ordered one.
use Rattle.std.proofs.Common.{◌≡◌, [], ◌∷◌, subst, sym, ap, ◌∙◌}
use Rattle.std.specs.Prelude.{pos, ◌⊎◌}
use mathlib.Core.Logic.{inl, inr}
use Rattle.rings.specs.Ring.{Ops, IsRing, Expr, var, expr}
use Rattle.rings.specs.Order.{IsOrdered, Sign, is_zero, is_positive, is_negative, IsNotNegative}
use Rattle.rings.specs.Forms.{det}
use Rattle.rings.specs.Vectors.{Vector, zero_vector, vector_sum, opposite_vector, IsUpper}
use Rattle.rings.proofs.Solver.{identity}
use Rattle.rings.proofs.Ordered.{not_both_signs, sum_more, sum_not_negative, product_not_negative, factor}
use Rattle.rings.proofs.Signs.{minus_zero, never_below, never_positive, factor_not_negative}
open expr use {add as ◌+'◌, sub as ◌-'◌, mul as ◌*'◌, neg as neg', int as int'}

infixl 60 ◌+'◌
infixl 60 ◌-'◌
infixl 70 ◌*'◌
-- three vectors of variables
abbrev a' : Vector Expr
a' = (var 0, var 1)

-- the second
abbrev b' : Vector Expr
b' = (var 2, var 3)

-- the third
abbrev c' : Vector Expr
c' = (var 4, var 5)

module _ {R : Type 0} (O : Ops R) (L : IsRing O) where
  open O use {add as ◌⊕◌, sub as ◌⊖◌, mul as ◌⊗◌, neg as minus, int as num_of}

  infixl 60 ◌⊕◌
  infixl 60 ◌⊖◌
  infixl 70 ◌⊗◌
  -- ---- opposites, sums and zero
  -- -(-v) = v
  pub opposite_twice : (v : Vector R) → opposite_vector O (opposite_vector O v) ≡ v
  opposite_twice v i = (identity O L (v.0 ∷ []) (neg' (neg' (var 0))) (var 0) tt i, identity O L (v.1 ∷ []) (neg' (neg' (var 0))) (var 0) tt i)

  -- -(u + v) = -u + -v
  pub opposite_sum : (u v : Vector R) → opposite_vector O (vector_sum O u v) ≡ vector_sum O (opposite_vector O u) (opposite_vector O v)
  opposite_sum u v i = (
    identity O L (u.0 ∷ v.0 ∷ []) (neg' (var 0 +' var 1)) (neg' (var 0) +' neg' (var 1)) tt i,
    identity O L (u.1 ∷ v.1 ∷ []) (neg' (var 0 +' var 1)) (neg' (var 0) +' neg' (var 1)) tt i,
  )

  -- -0 = 0
  pub opposite_zero : opposite_vector O (zero_vector O) ≡ zero_vector O
  opposite_zero i = (identity O L [] (neg' (int' (pos 0))) (int' (pos 0)) tt i, identity O L [] (neg' (int' (pos 0))) (int' (pos 0)) tt i)

  -- ---- determinants
  -- det(-u, -v) = det(u, v)
  pub det_opposite : (u v : Vector R) → det O (opposite_vector O u) (opposite_vector O v) ≡ det O u v
  det_opposite u v = identity O L (u.0 ∷ u.1 ∷ v.0 ∷ v.1 ∷ []) (det expr (opposite_vector expr a') (opposite_vector expr b')) (det expr a' b') tt

  -- det(v, v) = 0
  pub det_self : (v : Vector R) → det O v v ≡ num_of (pos 0)
  det_self v = identity O L (v.0 ∷ v.1 ∷ []) (det expr a' a') (int' (pos 0)) tt

  -- det(0, v) = 0
  pub det_zero_left : (v : Vector R) → det O (zero_vector O) v ≡ num_of (pos 0)
  det_zero_left v = identity O L (v.0 ∷ v.1 ∷ []) (det expr (zero_vector expr) a') (int' (pos 0)) tt

  -- det(v, 0) = 0
  pub det_zero_right : (v : Vector R) → det O v (zero_vector O) ≡ num_of (pos 0)
  det_zero_right v = identity O L (v.0 ∷ v.1 ∷ []) (det expr a' (zero_vector expr)) (int' (pos 0)) tt

  -- det(u + v, w) = det(u, w) + det(v, w)
  pub det_sum_left : (u v w : Vector R) → det O (vector_sum O u v) w ≡ det O u w ⊕ det O v w
  det_sum_left u v w =
      identity O L (u.0 ∷ u.1 ∷ v.0 ∷ v.1 ∷ w.0 ∷ w.1 ∷ []) (det expr (vector_sum expr a' b') c') (det expr a' c' +' det expr b' c') tt

  -- det(w, u + v) = det(w, u) + det(w, v)
  pub det_sum_right : (u v w : Vector R) → det O w (vector_sum O u v) ≡ det O w u ⊕ det O w v
  det_sum_right u v w =
      identity O L (u.0 ∷ u.1 ∷ v.0 ∷ v.1 ∷ w.0 ∷ w.1 ∷ []) (det expr c' (vector_sum expr a' b')) (det expr c' a' +' det expr c' b') tt

  -- ---- triangles: of three vectors that sum to zero every two in their order have one determinant
  pub det_closed_second : (x y z : Vector R) → vector_sum O (vector_sum O x y) z ≡ zero_vector O → det O y z ≡ det O x y
  det_closed_second x y z e =
      identity O L (x.0 ∷ x.1 ∷ y.0 ∷ y.1 ∷ z.0 ∷ z.1 ∷ []) (det expr b' c') (det expr a' b' +' det expr b' (vector_sum expr (vector_sum expr a' b') c')) tt
      ∙ ap (λ v. det O x y ⊕ det O y v) e ∙ ap (λ t. det O x y ⊕ t) (det_zero_right y)
      ∙ identity O L (det O x y ∷ []) (var 0 +' int' (pos 0)) (var 0) tt

  pub det_closed_third : (x y z : Vector R) → vector_sum O (vector_sum O x y) z ≡ zero_vector O → det O z x ≡ det O x y
  det_closed_third x y z e =
      identity O L (x.0 ∷ x.1 ∷ y.0 ∷ y.1 ∷ z.0 ∷ z.1 ∷ []) (det expr c' a') (det expr a' b' +' det expr (vector_sum expr (vector_sum expr a' b') c') a') tt
      ∙ ap (λ v. det O x y ⊕ det O v x) e ∙ ap (λ t. det O x y ⊕ t) (det_zero_left x)
      ∙ identity O L (det O x y ∷ []) (var 0 +' int' (pos 0)) (var 0) tt

  module _ {P : R → Type 0} (Q : IsOrdered O P) where
    -- ---- the halves: a vector is upper, and it is lower where its opposite is upper
    abbrev Upper : Vector R → Type 0
    Upper v = IsUpper O P v

    abbrev Lower : Vector R → Type 0
    Lower v = IsUpper O P (opposite_vector O v)

    abbrev NotNegative : R → Type 0
    NotNegative a = IsNotNegative O P a

    -- an upper vector isn't below
    pub upper_not_below : (v : Vector R) → Upper v → NotNegative v.1
    upper_not_below v (inl p) = inr p
    upper_not_below v (inr h) = inl h.0

    -- zero isn't upper
    pub zero_not_upper : ¬ (Upper (zero_vector O))
    zero_not_upper (inl p) = Q.zero_is_not p
    zero_not_upper (inr h) = Q.zero_is_not h.1

    -- every other vector is upper or lower
    pub upper_or_lower : (v : Vector R) → ¬ (v ≡ zero_vector O) → Upper v ⊎ Lower v
    upper_or_lower v nonzero = go (Q.sign v.1) (Q.sign v.0)
      where
        go : Sign O P v.1 → Sign O P v.0 → Upper v ⊎ Lower v
        go (is_positive p) _ = inl (inl p)
        go (is_negative n) _ = inr (inl n)
        go (is_zero e) (is_positive p) = inl (inr (e, p))
        go (is_zero e) (is_negative n) = inr (inr (ap minus e ∙ minus_zero O L Q, n))
        go (is_zero e) (is_zero k) = absurd (nonzero (λ i. (k i, e i)))

    -- and not both
    pub upper_once : (v : Vector R) → Upper v → ¬ (Lower v)
    upper_once v (inl p) (inl q) = not_both_signs O L Q v.1 p q
    upper_once v (inl p) (inr q) = never_below O L Q (minus v.1) (inl q.0) (subst P (identity O L (v.1 ∷ []) (var 0) (neg' (neg' (var 0))) tt) p)
    upper_once v (inr p) (inl q) = never_below O L Q v.1 (inl p.0) q
    upper_once v (inr p) (inr q) = not_both_signs O L Q v.0 p.1 q.1

    -- whether a vector is upper
    pub upper_decided : (v : Vector R) → Upper v ⊎ ¬ (Upper v)
    upper_decided v = go (Q.sign v.1)
      where
        level : v.1 ≡ num_of (pos 0) → Sign O P v.0 → Upper v ⊎ ¬ (Upper v)
        level e (is_zero f) = inr (λ up. elim up [ inl p ↦ never_positive O L Q v.1 e p | inr h ↦ never_positive O L Q v.0 f h.1 ])
        level e (is_positive p) = inl (inr (e, p))
        level e (is_negative n) = inr (λ up. elim up [ inl p ↦ never_positive O L Q v.1 e p | inr h ↦ not_both_signs O L Q v.0 h.1 n ])

        go : Sign O P v.1 → Upper v ⊎ ¬ (Upper v)
        go (is_zero e) = level e (Q.sign v.0)
        go (is_positive p) = inl (inl p)
        go (is_negative n) = inr (λ up. never_below O L Q v.1 (upper_not_below v up) n)

    -- the sum of two upper vectors is upper
    pub upper_sum : (u v : Vector R) → Upper u → Upper v → Upper (vector_sum O u v)
    upper_sum u v (inl p) (inl q) = inl (Q.sum u.1 v.1 p q)
    upper_sum u v (inl p) (inr q) = inl (subst P (identity O L (u.1 ∷ []) (var 0) (var 0 +' int' (pos 0)) tt ∙ ap (λ t. u.1 ⊕ t) (sym q.0)) p)
    upper_sum u v (inr p) (inl q) = inl (subst P (identity O L (v.1 ∷ []) (var 0) (int' (pos 0) +' var 0) tt ∙ ap (λ t. t ⊕ v.1) (sym p.0)) q)
    upper_sum u v (inr p) (inr q) =
        inr (ap (λ t. t ⊕ v.1) p.0 ∙ ap (λ t. num_of (pos 0) ⊕ t) q.0 ∙ identity O L [] (int' (pos 0) +' int' (pos 0)) (int' (pos 0)) tt, Q.sum u.0 v.0 p.1 q.1)

    -- the sum of two lower vectors is lower
    pub lower_sum : (u v : Vector R) → Lower u → Lower v → Lower (vector_sum O u v)
    lower_sum u v lu lv = subst Upper (sym (opposite_sum u v)) (upper_sum (opposite_vector O u) (opposite_vector O v) lu lv)

    -- a vector from which another turns to the left isn't zero
    pub turning_some : (u v : Vector R) → P (det O u v) → ¬ (u ≡ zero_vector O)
    turning_some u v turn e = Q.zero_is_not (subst P (ap (λ (w : Vector R). det O w v) e ∙ det_zero_left v) turn)

    -- ---- turns within a half
    -- det(a, b)·c.t + det(b, c)·a.t = det(a, c)·b.t
    middle_turn : (a b c : Vector R) → det O a b ⊗ c.1 ⊕ det O b c ⊗ a.1 ≡ det O a c ⊗ b.1
    middle_turn a b c =
        identity O L (a.0 ∷ a.1 ∷ b.0 ∷ b.1 ∷ c.0 ∷ c.1 ∷ []) (det expr a' b' *' c'.1 +' det expr b' c' *' a'.1) (det expr a' c' *' b'.1) tt

    -- no turn to the right from a to b and from b to c: none from a to c, where all are upper
    pub upper_not_right : (a b c : Vector R) → Upper a → Upper b → Upper c → NotNegative (det O a b) → NotNegative (det O b c) → NotNegative (det O a c)
    upper_not_right a b c ua (inl p) uc h k =
        factor_not_negative O L Q (det O a c) b.1 (subst NotNegative (middle_turn a b c)
        (sum_not_negative O L Q _ _ (product_not_negative O L Q (det O a b) c.1 h (upper_not_below c uc)) (product_not_negative O L Q (det O b c) a.1 k (upper_not_below a ua)))) p
    upper_not_right a b c ua (inr level) uc h k = go ua
      where
        go : Upper a → NotNegative (det O a c)
        go (inl p) =
            never_below O L Q (det O a b) h (subst P
            (identity O L (a.0 ∷ a.1 ∷ b.0 ∷ []) (var 1 *' var 2) (neg' (var 0 *' int' (pos 0) -' var 1 *' var 2)) tt
            ∙ ap (λ t. minus (a.0 ⊗ t ⊖ a.1 ⊗ b.0)) (sym level.0))
            (Q.product a.1 b.0 p level.1))
        go (inr side) =
            subst NotNegative
            (identity O L (a.0 ∷ c.0 ∷ c.1 ∷ []) (var 0 *' var 2) (var 0 *' var 2 -' int' (pos 0) *' var 1) tt
            ∙ ap (λ t. a.0 ⊗ c.1 ⊖ t ⊗ c.0) (sym side.0))
            (product_not_negative O L Q a.0 c.1 (inr side.1) (upper_not_below c uc))

    -- the same where all are lower
    pub lower_not_right : (a b c : Vector R) → Lower a → Lower b → Lower c → NotNegative (det O a b) → NotNegative (det O b c) → NotNegative (det O a c)
    lower_not_right a b c la lb lc h k =
        subst NotNegative (det_opposite a c)
        (upper_not_right (opposite_vector O a) (opposite_vector O b) (opposite_vector O c) la lb lc (subst NotNegative (sym (det_opposite a b)) h) (subst NotNegative (sym (det_opposite b c)) k))

    -- to the left of an upper vector no upper vector is level
    pub upper_left : (u v : Vector R) → Upper u → Upper v → P (det O u v) → P v.1
    upper_left u v uu (inl p) turn = p
    upper_left u v uu (inr level) turn =
        never_below O L Q (u.1 ⊗ v.0) (product_not_negative O L Q u.1 v.0 (upper_not_below u uu) (inr level.1))
        (subst P (ap (λ t. u.0 ⊗ t ⊖ u.1 ⊗ v.0) level.0
        ∙ identity O L (u.0 ∷ u.1 ∷ v.0 ∷ []) (var 0 *' int' (pos 0) -' var 1 *' var 2) (neg' (var 1 *' var 2)) tt) turn)

    -- turns to the left from a to b and from b to c: one from a to c, where all are upper
    pub upper_turns_left : (a b c : Vector R) → Upper a → Upper b → Upper c → P (det O a b) → P (det O b c) → P (det O a c)
    upper_turns_left a b c ua ub uc h k =
        factor O L Q (det O a c) b.1 (subst P (middle_turn a b c)
        (sum_more O L Q _ _ (Q.product (det O a b) c.1 h (upper_left b c ub uc k)) (product_not_negative O L Q (det O b c) a.1 (inr k) (upper_not_below a ua))))
        (upper_left a b ua ub h)
