-- A solver for polynomial identities in commutative rings.
use Rattle.std.proofs.Common.{◌≡◌, ℕ, zero, suc, refl, sym, ap, ◌∙◌, Bool, true, false}
use mathlib.Core.Path.{◌≡⟨◌⟩◌, ◌∎, ap₂}
use Rattle.std.specs.Prelude.{ℤ, pos, negsuc, T, List, ◌&&◌}
use Rattle.rings.specs.Ring.{Ops, IsRing, Expr, var, int, add, sub, mul, neg, eval, look}
use Rattle.rings.specs.NormalForm.{Poly, none, number, horner, plus_number, plus, scaled, each, times, variable, normal, is_zero_number, is_zero_poly, same}

-- a conjunction has both its parts
both : (a b : Bool) → T (a && b) → T a × T b
both true b t = (tt, t)
both false b t = absurd t

module _ {R : Type 0} (O : Ops R) (L : IsRing O) where
  open O use {add as ◌⊕◌, mul as ◌⊗◌, neg as minus, int as num_of}
  open L use {add_assoc, add_comm, zero-add, add-neg, sub_is, mul_assoc, mul_comm, one-mul, add-mul, int-add, int-mul}

  infixl 60 ◌⊕◌
  infixl 70 ◌⊗◌
  -- a + 0 = a
  add-zero : (a : R) → a ⊕ num_of (pos 0) ≡ a
  add-zero a = add_comm a (num_of (pos 0)) ∙ zero-add a

  -- a number that is its own double is zero
  zero_from : (a : R) → a ⊕ a ≡ a → a ≡ num_of (pos 0)
  zero_from a e =
      a ≡⟨ sym (add-zero a) ⟩
      a ⊕ num_of (pos 0) ≡⟨ ap (λ x. a ⊕ x) (sym (add-neg a)) ⟩
      a ⊕ (a ⊕ minus a) ≡⟨ sym (add_assoc a a (minus a)) ⟩
      a ⊕ a ⊕ minus a ≡⟨ ap (λ x. x ⊕ minus a) e ⟩
      a ⊕ minus a ≡⟨ add-neg a ⟩
      num_of (pos 0) ∎

  -- 0·a = 0
  zero-mul : (a : R) → num_of (pos 0) ⊗ a ≡ num_of (pos 0)
  zero-mul a = zero_from (num_of (pos 0) ⊗ a) (sym (add-mul (num_of (pos 0)) (num_of (pos 0)) a) ∙ ap (λ x. x ⊗ a) (zero-add (num_of (pos 0))))

  -- a·0 = 0
  mul-zero : (a : R) → a ⊗ num_of (pos 0) ≡ num_of (pos 0)
  mul-zero a = mul_comm a (num_of (pos 0)) ∙ zero-mul a

  -- a·(b + c) = a·b + a·c
  mul-add : (a b c : R) → a ⊗ (b ⊕ c) ≡ a ⊗ b ⊕ a ⊗ c
  mul-add a b c = mul_comm a (b ⊕ c) ∙ add-mul b c a ∙ ap₂ ◌⊕◌ (mul_comm b a) (mul_comm c a)

  -- the inner two of four terms change places
  four : (a b c d : R) → (a ⊕ b) ⊕ (c ⊕ d) ≡ (a ⊕ c) ⊕ (b ⊕ d)
  four a b c d =
      add_assoc a b (c ⊕ d) ∙ ap (λ x. a ⊕ x) (sym (add_assoc b c d) ∙ ap (λ x. x ⊕ d) (add_comm b c) ∙ add_assoc c b d) ∙ sym (add_assoc a c (b ⊕ d))

  -- a·(b·c) = b·(a·c)
  left_comm : (a b c : R) → a ⊗ (b ⊗ c) ≡ b ⊗ (a ⊗ c)
  left_comm a b c = sym (mul_assoc a b c) ∙ ap (λ x. x ⊗ c) (mul_comm a b) ∙ mul_assoc b a c

  -- a + b ≡ 0 makes b the negative of a
  minus_from : (a b : R) → a ⊕ b ≡ num_of (pos 0) → minus a ≡ b
  minus_from a b e =
      minus a ≡⟨ sym (add-zero (minus a)) ⟩
      minus a ⊕ num_of (pos 0) ≡⟨ ap (λ x. minus a ⊕ x) (sym e) ⟩
      minus a ⊕ (a ⊕ b) ≡⟨ sym (add_assoc (minus a) a b) ⟩
      minus a ⊕ a ⊕ b ≡⟨ ap (λ x. x ⊕ b) (add_comm (minus a) a ∙ add-neg a) ⟩
      num_of (pos 0) ⊕ b ≡⟨ zero-add b ⟩
      b ∎

  -- -a = (-1)·a
  minus_is : (a : R) → minus a ≡ num_of (negsuc 0) ⊗ a
  minus_is a = minus_from a (num_of (negsuc 0) ⊗ a)
      (ap (λ x. x ⊕ num_of (negsuc 0) ⊗ a) (sym (one-mul a)) ∙ sym (add-mul (num_of (pos 1)) (num_of (negsuc 0)) a)
      ∙ ap (λ x. x ⊗ a) (sym (int-add (pos 1) (negsuc 0))) ∙ zero-mul a)

  -- the value of a polynomial where v gives the variables' values
  value : (ℕ → R) → Poly → R
  value v none = num_of (pos 0)
  value v (number c) = num_of c
  value v (horner a p) = value (λ i. v (suc i)) a ⊕ v 0 ⊗ value v p

  -- the value of c + p
  value-plus_number : (c : ℤ) (p : Poly) (v : ℕ → R) → value v (plus_number c p) ≡ num_of c ⊕ value v p
  unfolding value
  value-plus_number c none v = sym (add-zero (num_of c))
  value-plus_number c (number d) v = int-add c d
  value-plus_number c (horner a p) v = ap (λ x. x ⊕ v 0 ⊗ value v p) (value-plus_number c a (λ i. v (suc i))) ∙ add_assoc _ _ _

  -- the value of p + q
  value-plus : (p q : Poly) (v : ℕ → R) → value v (plus p q) ≡ value v p ⊕ value v q
  unfolding value
  value-plus none q v = sym (zero-add (value v q))
  value-plus (number c) q v = value-plus_number c q v
  value-plus (horner a p) none v = sym (add-zero _)
  value-plus (horner a p) (number d) v = value-plus_number d (horner a p) v ∙ add_comm _ _
  value-plus (horner a p) (horner b q) v =
      ap₂ ◌⊕◌ (value-plus a b (λ i. v (suc i))) (ap (λ x. v 0 ⊗ x) (value-plus p q v) ∙ mul-add (v 0) (value v p) (value v q))
      ∙ four (value (λ i. v (suc i)) a) (value (λ i. v (suc i)) b) (v 0 ⊗ value v p) (v 0 ⊗ value v q)

  -- the value of c·p
  value-scaled : (c : ℤ) (p : Poly) (v : ℕ → R) → value v (scaled c p) ≡ num_of c ⊗ value v p
  unfolding value
  value-scaled c none v = sym (mul-zero (num_of c))
  value-scaled c (number d) v = int-mul c d
  value-scaled c (horner a p) v =
      ap₂ ◌⊕◌ (value-scaled c a (λ i. v (suc i))) (ap (λ x. v 0 ⊗ x) (value-scaled c p v) ∙ left_comm (v 0) (num_of c) (value v p))
      ∙ sym (mul-add (num_of c) (value (λ i. v (suc i)) a) (v 0 ⊗ value v p))

  -- the value of a polynomial whose coefficients are multiplied by m
  value-each : (f : Poly → Poly) (v : ℕ → R) (m : R) → ((b : Poly) → value (λ i. v (suc i)) (f b) ≡ m ⊗ value (λ i. v (suc i)) b) → (q : Poly) → value v (each f q) ≡ m ⊗ value v q
  unfolding value
  value-each f v m h none = sym (mul-zero m)
  value-each f v m h (number d) = ap₂ ◌⊕◌ (h (number d)) (mul-zero (v 0)) ∙ add-zero _
  value-each f v m h (horner b q) =
      ap₂ ◌⊕◌ (h b) (ap (λ x. v 0 ⊗ x) (value-each f v m h q) ∙ left_comm (v 0) m (value v q))
      ∙ sym (mul-add m (value (λ i. v (suc i)) b) (v 0 ⊗ value v q))

  -- the value of p·q
  value-times : (p q : Poly) (v : ℕ → R) → value v (times p q) ≡ value v p ⊗ value v q
  unfolding value
  value-times none q v = sym (zero-mul (value v q))
  value-times (number c) q v = value-scaled c q v
  value-times (horner a p) q v =
      value-plus (each (times a) q) (horner none (times p q)) v
      ∙ ap₂ ◌⊕◌ (value-each (times a) v (value (λ i. v (suc i)) a) (λ b. value-times a b (λ i. v (suc i))) q)
      (zero-add (v 0 ⊗ value v (times p q)) ∙ ap (λ x. v 0 ⊗ x) (value-times p q v) ∙ sym (mul_assoc (v 0) (value v p) (value v q)))
      ∙ sym (add-mul (value (λ i. v (suc i)) a) (v 0 ⊗ value v p) (value v q))

  -- the value of a variable
  value-variable : (i : ℕ) (v : ℕ → R) → value v (variable i) ≡ v i
  unfolding value
  value-variable zero v = zero-add _ ∙ mul_comm _ _ ∙ one-mul (v 0)
  value-variable (suc i) v = ap₂ ◌⊕◌ (value-variable i (λ j. v (suc j))) (mul-zero (v 0)) ∙ add-zero _

  -- a normal form has the value of its expression
  value-normal : (e : Expr) (v : ℕ → R) → value v (normal e) ≡ eval O v e
  unfolding value
  value-normal (var i) v = value-variable i v
  value-normal (int z) v = refl
  value-normal (add a b) v = value-plus (normal a) (normal b) v ∙ ap₂ ◌⊕◌ (value-normal a v) (value-normal b v)
  value-normal (sub a b) v =
      value-plus (normal a) (scaled (negsuc 0) (normal b)) v
      ∙ ap₂ ◌⊕◌ (value-normal a v) (value-scaled (negsuc 0) (normal b) v ∙ ap (λ x. num_of (negsuc 0) ⊗ x) (value-normal b v) ∙ sym (minus_is (eval O v b)))
      ∙ sym (sub_is (eval O v a) (eval O v b))
  value-normal (mul a b) v = value-times (normal a) (normal b) v ∙ ap₂ ◌⊗◌ (value-normal a v) (value-normal b v)
  value-normal (neg a) v = value-scaled (negsuc 0) (normal a) v ∙ ap (λ x. num_of (negsuc 0) ⊗ x) (value-normal a v) ∙ sym (minus_is (eval O v a))

  -- a number that is zero
  number-is_zero : (c : ℤ) → T (is_zero_number c) → num_of c ≡ num_of (pos 0)
  number-is_zero (pos zero) t = refl
  number-is_zero (pos (suc n)) t = absurd t
  number-is_zero (negsuc n) t = absurd t

  -- a polynomial that is zero has the value zero
  value-is_zero : (p : Poly) (v : ℕ → R) → T (is_zero_poly p) → value v p ≡ num_of (pos 0)
  unfolding value
  value-is_zero none v t = refl
  value-is_zero (number c) v t = number-is_zero c t
  value-is_zero (horner a p) v t =
      let h : T (is_zero_poly a) × T (is_zero_poly p) = both (is_zero_poly a) (is_zero_poly p) t in
      ap₂ ◌⊕◌ (value-is_zero a (λ i. v (suc i)) h.0) (ap (λ x. v 0 ⊗ x) (value-is_zero p v h.1) ∙ mul-zero (v 0)) ∙ zero-add (num_of (pos 0))

  -- a difference of zero
  equal_from : (a b : R) → a ⊕ num_of (negsuc 0) ⊗ b ≡ num_of (pos 0) → a ≡ b
  equal_from a b e =
      a ≡⟨ sym (add-zero a) ⟩
      a ⊕ num_of (pos 0) ≡⟨ ap (λ x. a ⊕ x) (sym (add_comm (minus b) b ∙ add-neg b)) ⟩
      a ⊕ (minus b ⊕ b) ≡⟨ sym (add_assoc a (minus b) b) ⟩
      a ⊕ minus b ⊕ b ≡⟨ ap (λ x. x ⊕ b) (ap (λ x. a ⊕ x) (minus_is b) ∙ e) ⟩
      num_of (pos 0) ⊕ b ≡⟨ zero-add b ⟩
      b ∎

  -- two expressions with one normal form have one value
  pub solve : (v : ℕ → R) (l r : Expr) → T (same l r) → eval O v l ≡ eval O v r
  unfolding value
  solve v l r t = equal_from (eval O v l) (eval O v r)
      (sym (ap₂ (λ x y. x ⊕ num_of (negsuc 0) ⊗ y) (value-normal l v) (value-normal r v))
      ∙ sym (ap (λ x. value v (normal l) ⊕ x) (value-scaled (negsuc 0) (normal r) v))
      ∙ sym (value-plus (normal l) (scaled (negsuc 0) (normal r)) v)
      ∙ value-is_zero (plus (normal l) (scaled (negsuc 0) (normal r))) v t)

  -- the same, with the values of the variables as a list
  pub identity : (xs : List R) (l r : Expr) → T (same l r) → eval O (look (num_of (pos 0)) xs) l ≡ eval O (look (num_of (pos 0)) xs) r
  identity xs l r t = solve (look (num_of (pos 0)) xs) l r t
