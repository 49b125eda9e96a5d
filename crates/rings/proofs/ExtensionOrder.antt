-- The numbers a + b·√D over an ordered ring are an ordered ring, where √D is positive and irrational.
use Rattle.std.proofs.Common.{◌≡◌, ℕ, [], ◌∷◌, ◌∙◌, ap, subst}
use mathlib.Core.Path.{ap₂}
use mathlib.Core.Logic.{inl, inr}
use Rattle.std.specs.Prelude.{pos, ◌⊎◌, T}
use Rattle.rings.specs.Ring.{Ops, IsRing, Expr, var, expr, look, eval}
use Rattle.rings.specs.Order.{IsOrdered, Sign, is_zero, is_positive, is_negative}
use Rattle.rings.specs.NormalForm.{same}
use Rattle.rings.proofs.Solver.{solve}
use Rattle.rings.proofs.Ordered.{clash, square, sum_more, product_not_negative, factor, larger}
use Rattle.rings.specs.Extension.{extended, norm}
open expr use {add as ◌+'◌, mul as ◌*'◌, neg as neg', int as int'}

infixl 60 ◌+'◌
infixl 70 ◌*'◌
-- the expression of D
abbrev d' : Expr
d' = var 0

-- the expression of x
abbrev X : Expr × Expr
X = (var 1, var 2)

-- the expression of y
abbrev Y : Expr × Expr
Y = (var 3, var 4)

-- the operations of the expressions of the extension
abbrev ext' : Ops (Expr × Expr)
ext' = extended expr d'

-- the expression of the norm
abbrev N' : Expr × Expr → Expr
N' x = norm expr d' x

module _ {R : Type 0} (O : Ops R) (L : IsRing O) {P : R → Type 0} (Q : IsOrdered O P) (D : R) (large : P D) (irr : (a b : R) → O.mul a a ≡ O.mul D (O.mul b b) → (a ≡ O.int (pos 0)) × (b ≡ O.int (pos 0))) where
  open O use {add as ◌⊕◌, mul as ◌⊗◌, neg as minus, int as num_of}

  infixl 60 ◌⊕◌
  infixl 70 ◌⊗◌
  -- the operations of the extension
  abbrev ext : Ops (R × R)
  ext = extended O D

  -- the norm
  abbrev N : R × R → R
  N x = norm O D x

  -- the zero of the ring below
  abbrev zero_r : R
  zero_r = num_of (pos 0)

  -- the positive numbers: by the sign of the norm, that of one part
  abbrev pub Positive : R × R → Type 0
  Positive x = (P (N x) × P x.0) ⊎ (P (minus (N x)) × P x.1)

  -- the values of D and of the parts of x and y
  abbrev values : R × R → R × R → ℕ → R
  values x y = look D (D ∷ x.0 ∷ x.1 ∷ y.0 ∷ y.1 ∷ [])

  -- from one form of a value to another
  turn : (x y : R × R) (l r : Expr) → T (same l r) → P (eval O (values x y) l) → P (eval O (values x y) r)
  turn x y l r t p = subst P (solve O L (values x y) l r t) p

  -- two forms of one value
  same_of : (x y : R × R) (l r : Expr) → T (same l r) → eval O (values x y) l ≡ eval O (values x y) r
  same_of x y l r t = solve O L (values x y) l r t

  -- |D·b·d| < a·c
  over : (x y : R × R) → P (N x) → P x.0 → P (N y) → P y.0 → P (x.0 ⊗ y.0 ⊕ D ⊗ (x.1 ⊗ y.1))
  over x y nx px ny py = larger O L Q (x.0 ⊗ y.0) (D ⊗ (x.1 ⊗ y.1)) (Q.product _ _ px py)
      (turn x y (N' X *' (Y.0 *' Y.0) +' (d' *' (X.1 *' X.1)) *' N' Y) ((X.0 *' Y.0) *' (X.0 *' Y.0) +' neg' ((d' *' (X.1 *' Y.1)) *' (d' *' (X.1 *' Y.1)))) tt
      (sum_more O L Q _ _ (Q.product _ _ nx (Q.product _ _ py py)) (product_not_negative O L Q _ _ (product_not_negative O L Q _ _ (inr large) (square O L Q x.1)) (inr ny))))

  -- |a·c| < D·b·d
  under : (x y : R × R) → P (minus (N x)) → P x.1 → P (minus (N y)) → P y.1 → P (D ⊗ (x.1 ⊗ y.1) ⊕ x.0 ⊗ y.0)
  under x y nx px ny py = larger O L Q (D ⊗ (x.1 ⊗ y.1)) (x.0 ⊗ y.0) (Q.product _ _ large (Q.product _ _ px py))
      (turn x y (neg' (N' X) *' (d' *' (Y.1 *' Y.1)) +' (X.0 *' X.0) *' neg' (N' Y)) ((d' *' (X.1 *' Y.1)) *' (d' *' (X.1 *' Y.1)) +' neg' ((X.0 *' Y.0) *' (X.0 *' Y.0))) tt
      (sum_more O L Q _ _ (Q.product _ _ nx (Q.product _ _ large (Q.product _ _ py py))) (product_not_negative O L Q _ _ (square O L Q x.0) (inr ny))))

  -- |b·c| < a·d
  across : (x y : R × R) → P (N x) → P x.0 → P (minus (N y)) → P y.1 → P (x.0 ⊗ y.1 ⊕ x.1 ⊗ y.0)
  across x y nx px ny py = larger O L Q (x.0 ⊗ y.1) (x.1 ⊗ y.0) (Q.product _ _ px py)
      (factor O L Q _ D
      (turn x y ((X.0 *' X.0) *' neg' (N' Y) +' (Y.0 *' Y.0) *' N' X) (((X.0 *' Y.1) *' (X.0 *' Y.1) +' neg' ((X.1 *' Y.0) *' (X.1 *' Y.0))) *' d') tt
      (sum_more O L Q _ _ (Q.product _ _ (Q.product _ _ px px) ny) (product_not_negative O L Q _ _ (square O L Q y.0) (inr nx))))
      large)

  -- a product of positive numbers
  pub positive_product : (x y : R × R) → Positive x → Positive y → Positive (ext.mul x y)
  positive_product x y (inl p) (inl q) = inl (turn x y (N' X *' N' Y) (N' (ext'.mul X Y)) tt (Q.product _ _ p.0 q.0), over x y p.0 p.1 q.0 q.1)
  positive_product x y (inl p) (inr q) = inr (turn x y (N' X *' neg' (N' Y)) (neg' (N' (ext'.mul X Y))) tt (Q.product _ _ p.0 q.0), across x y p.0 p.1 q.0 q.1)
  positive_product x y (inr p) (inl q) = inr (
    turn x y (neg' (N' X) *' N' Y) (neg' (N' (ext'.mul X Y))) tt (Q.product _ _ p.0 q.0),
    turn x y (Y.0 *' X.1 +' Y.1 *' X.0) (ext'.mul X Y).1 tt (across y x q.0 q.1 p.0 p.1),
  )
  positive_product x y (inr p) (inr q) = inl (
    turn x y (neg' (N' X) *' neg' (N' Y)) (N' (ext'.mul X Y)) tt (Q.product _ _ p.0 q.0),
    turn x y (d' *' (X.1 *' Y.1) +' X.0 *' Y.0) (ext'.mul X Y).0 tt (under x y p.0 p.1 q.0 q.1),
  )

  -- sums of two numbers of one kind
  both_over : (x y : R × R) → P (N x) → P x.0 → P (N y) → P y.0 → P (N (ext.add x y))
  both_over x y nx px ny py =
      let t = over x (y.0, minus y.1) nx px (turn x y (N' Y) (N' (Y.0, neg' Y.1)) tt ny) py in
      let t' : Expr = X.0 *' Y.0 +' d' *' (X.1 *' neg' Y.1) in
      turn x y ((N' X +' N' Y) +' (t' +' t')) (N' (ext'.add X Y)) tt (Q.sum _ _ (Q.sum _ _ nx ny) (Q.sum _ _ t t))

  -- a sum of two numbers whose root parts prevail
  both_under : (x y : R × R) → P (minus (N x)) → P x.1 → P (minus (N y)) → P y.1 → P (minus (N (ext.add x y)))
  both_under x y nx px ny py =
      let t = under x (minus y.0, y.1) nx px (turn x y (neg' (N' Y)) (neg' (N' (neg' Y.0, Y.1))) tt ny) py in
      let t' : Expr = d' *' (X.1 *' Y.1) +' X.0 *' neg' Y.0 in
      turn x y ((neg' (N' X) +' neg' (N' Y)) +' (t' +' t')) (neg' (N' (ext'.add X Y))) tt (Q.sum _ _ (Q.sum _ _ nx ny) (Q.sum _ _ t t))

  -- a positive norm has a first part that is not zero, and a negative one a second part
  first_not_zero : {A : Type 0} (x : R × R) → P (N x) → x.0 ≡ zero_r → A
  first_not_zero x n e =
      absurd (Q.zero_is_not (subst P (same_of x x (N' X +' d' *' (X.1 *' X.1)) (X.0 *' X.0) tt ∙ ap (λ u. u ⊗ u) e ∙ same_of x x (int' (pos 0) *' int' (pos 0)) (int' (pos 0)) tt)
      (sum_more O L Q _ _ n (product_not_negative O L Q _ _ (inr large) (square O L Q x.1)))))

  -- a negative norm has a second part that is not zero
  second_not_zero : {A : Type 0} (x : R × R) → P (minus (N x)) → x.1 ≡ zero_r → A
  second_not_zero x n e =
      absurd (Q.zero_is_not (subst P (same_of x x (neg' (N' X) +' X.0 *' X.0) (d' *' (X.1 *' X.1)) tt ∙ ap (λ u. D ⊗ (u ⊗ u)) e ∙ same_of x x (d' *' (int' (pos 0) *' int' (pos 0))) (int' (pos 0)) tt)
      (sum_more O L Q _ _ n (square O L Q x.0))))

  -- a norm of zero
  zero_norm : (x : R × R) → N x ≡ zero_r → (x.0 ≡ zero_r) × (x.1 ≡ zero_r)
  zero_norm x e = irr x.0 x.1 (same_of x x (X.0 *' X.0) (N' X +' d' *' (X.1 *' X.1)) tt ∙ ap (λ u. u ⊕ D ⊗ (x.1 ⊗ x.1)) e ∙ L.zero-add _)

  -- a sum of two numbers of different kinds
  module _ (x y : R × R) (nx : P (N x)) (px : P x.0) (ny : P (minus (N y))) (py : P y.1) where
    -- its norm is not zero
    mixed_zero : {A : Type 0} → N (ext.add x y) ≡ zero_r → A
    mixed_zero e =
        let z = zero_norm (ext.add x y) e in
        clash O L Q (N x) (minus (N y))
        (same_of x y (N' X +' neg' (N' Y)) ((X.0 +' Y.0) *' (X.0 +' neg' Y.0) +' neg' (d' *' ((X.1 +' Y.1) *' (X.1 +' neg' Y.1)))) tt
        ∙ ap₂ (λ u v. u ⊗ (x.0 ⊕ minus y.0) ⊕ minus (D ⊗ (v ⊗ (x.1 ⊕ minus y.1)))) z.0 z.1
        ∙ same_of x y (int' (pos 0) *' (X.0 +' neg' Y.0) +' neg' (d' *' (int' (pos 0) *' (X.1 +' neg' Y.1)))) (int' (pos 0)) tt)
        nx ny

    -- where its norm is positive, so is its first part
    mixed_first : P (N (ext.add x y)) → Sign O P (x.0 ⊕ y.0) → P (x.0 ⊕ y.0)
    mixed_first n (is_zero e) = first_not_zero (ext.add x y) n e
    mixed_first n (is_positive p) = p
    mixed_first n (is_negative p) =
        let z : R × R = ext.neg (ext.add x y) in
        clash O L Q (N (ext.add x z)) (minus (N y)) (same_of x y (N' (ext'.add X (ext'.neg (ext'.add X Y))) +' neg' (N' Y)) (int' (pos 0)) tt)
        (both_over x z nx px (turn x y (N' (ext'.add X Y)) (N' (ext'.neg (ext'.add X Y))) tt n) p) ny

    -- where its norm is negative, its second part is positive
    mixed_second : P (minus (N (ext.add x y))) → Sign O P (x.1 ⊕ y.1) → P (x.1 ⊕ y.1)
    mixed_second n (is_zero e) = second_not_zero (ext.add x y) n e
    mixed_second n (is_positive p) = p
    mixed_second n (is_negative p) =
        let z : R × R = ext.neg (ext.add x y) in
        clash O L Q (N x) (minus (N (ext.add y z))) (same_of x y (N' X +' neg' (N' (ext'.add Y (ext'.neg (ext'.add X Y))))) (int' (pos 0)) tt)
        nx (both_under y z ny py (turn x y (neg' (N' (ext'.add X Y))) (neg' (N' (ext'.neg (ext'.add X Y)))) tt n) p)

    -- by the sign of its norm
    mixed_by : Sign O P (N (ext.add x y)) → Positive (ext.add x y)
    mixed_by (is_zero e) = mixed_zero e
    mixed_by (is_positive n) = inl (n, mixed_first n (Q.sign _))
    mixed_by (is_negative n) = inr (n, mixed_second n (Q.sign _))

    -- it is positive
    mixed : Positive (ext.add x y)
    mixed = mixed_by (Q.sign _)

  -- a sum of positive numbers
  pub positive_sum : (x y : R × R) → Positive x → Positive y → Positive (ext.add x y)
  positive_sum x y (inl p) (inl q) = inl (both_over x y p.0 p.1 q.0 q.1, Q.sum _ _ p.1 q.1)
  positive_sum x y (inl p) (inr q) = mixed x y p.0 p.1 q.0 q.1
  positive_sum x y (inr p) (inl q) = subst Positive (λ i. (L.add_comm y.0 x.0 i, L.add_comm y.1 x.1 i)) (mixed y x q.0 q.1 p.0 p.1)
  positive_sum x y (inr p) (inr q) = inr (both_under x y p.0 p.1 q.0 q.1, Q.sum _ _ p.1 q.1)

  -- the sign of a number of positive norm
  sign_over : (x : R × R) → P (N x) → Sign O P x.0 → Sign ext Positive x
  sign_over x n (is_zero e) = first_not_zero x n e
  sign_over x n (is_positive p) = is_positive (inl (n, p))
  sign_over x n (is_negative p) = is_negative (inl (turn x x (N' X) (N' (ext'.neg X)) tt n, p))

  -- the sign of a number of negative norm
  sign_under : (x : R × R) → P (minus (N x)) → Sign O P x.1 → Sign ext Positive x
  sign_under x n (is_zero e) = second_not_zero x n e
  sign_under x n (is_positive p) = is_positive (inr (n, p))
  sign_under x n (is_negative p) = is_negative (inr (turn x x (neg' (N' X)) (neg' (N' (ext'.neg X))) tt n, p))

  -- the sign of a number by that of its norm
  sign_by : (x : R × R) → Sign O P (N x) → Sign ext Positive x
  sign_by x (is_zero e) = let z = zero_norm x e in is_zero (λ i. (z.0 i, z.1 i))
  sign_by x (is_positive n) = sign_over x n (Q.sign x.0)
  sign_by x (is_negative n) = sign_under x n (Q.sign x.1)

  -- zero is not positive
  pub zero_not_positive : ¬ (Positive (ext.int (pos 0)))
  zero_not_positive (inl p) = Q.zero_is_not p.1
  zero_not_positive (inr p) = Q.zero_is_not p.1

  -- the extension is an ordered ring
  pub extended_order : IsOrdered ext Positive
  extended_order = record {
    sum = positive_sum;
    product = positive_product;
    sign = λ x. sign_by x (Q.sign (N x));
    zero_is_not = zero_not_positive;
  }
