-- The cofactors of two whole numbers.
use Rattle.std.proofs.Common.{◌≡◌, ℕ, zero, suc, ◌+◌, ◌-◌, ◌*◌, ◌/◌, ◌<◌, ◌≤◌, sym, ◌∙◌, ap, subst, arith, inl, inr}
use Rattle.std.specs.Prelude.{ℤ, pos, ◌*ℤ◌, unsigned_abs}
use Prim.Native.Nat.{◌∣◌}
use Rattle.std.proofs.Math.Nat.{dvd-mul_right, mul_comm, mul-add, add-mul, mul-div_cancel_left}
use Rattle.std.proofs.lemmas.Bool.{cases_lt, cases_eq}
use Rattle.std.proofs.lemmas.Int.{unsigned_abs-mul}
use Rattle.quad_field.specs.declared.quad.Quad.{Quad}
use Rattle.quad_field.specs.Content.{DividesParts}
use Rattle.quad_field.specs.Quads.{scaled}

-- the cofactors of two whole numbers: wherever g·a = k·b, they divide a and b
pub record Cofactors (g k : ℕ) : Type 0 where
  pub first : ℕ
  pub second : ℕ
  pub cross : g * second ≡ k * first
  pub divide : (a b : ℕ) → g * a ≡ k * b → (t : ℕ) × (a ≡ second * t) × (b ≡ first * t)

cancel : (g a b : ℕ) → 1 ≤ g → g * a ≡ g * b → a ≡ b
cancel g a b some e =
    let more : 0 < g = omega arith in
    sym (mul-div_cancel_left a more) ∙ ap (λ x. x / g) e ∙ mul-div_cancel_left b more

swapped : (g k : ℕ) → Cofactors g k → Cofactors k g
swapped g k c = record {
  first = c.second;
  second = c.first;
  cross = sym c.cross;
  divide = λ a b e. let t = c.divide b a (sym e) in (t.0, t.2, t.1);
}

same : (g k : ℕ) → 1 ≤ g → g ≡ k → Cofactors g k
same g k some e = record {
  first = 1;
  second = 1;
  cross = omega arith;
  divide = λ a b f. (a, omega arith, cancel g b a some (subst (λ x. x * b ≡ g * a) (sym e) (sym f)) ∙ omega arith);
}

-- g·a = (g + j)·b gives g·(a - b) = j·b, with a ≥ b
shorter : (g j a b : ℕ) → 1 ≤ g → g * a ≡ (g + j) * b → (c : ℕ) × (a ≡ b + c) × (g * c ≡ j * b)
shorter g j a b some e = elim (cases_lt a b) [
  | inl less ↦
      let c : ℕ = b - suc a in
      let is : b ≡ a + suc c = omega arith in
      let wide : (g + j) * b ≡ g * b + j * b = add-mul g j b in
      let more : g * b ≡ g * a + g * suc c = ap (λ x. g * x) is ∙ mul-add g a (suc c) in
      let again : g * suc c ≡ g + g * c = omega arith in
      absurd (omega arith)
  | inr more ↦
      let c : ℕ = a - b in
      let is : a ≡ b + c = omega arith in
      let wide : (g + j) * b ≡ g * b + j * b = add-mul g j b in
      let long : g * a ≡ g * b + g * c = ap (λ x. g * x) is ∙ mul-add g b c in
      (c, is, omega arith)
]

longer : (g j : ℕ) → 1 ≤ g → Cofactors g j → Cofactors g (g + j)
longer g j some c = record {
  first = c.first;
  second = c.first + c.second;
  cross = mul-add g c.first c.second ∙ (let e = c.cross in let f = add-mul g j c.first in omega arith);
  divide = λ a b e.
      let s = shorter g j a b some e in
      let t = c.divide s.0 b s.2 in
      (t.0, s.1 ∙ ap (λ x. x + s.0) t.2 ∙ ap (λ x. c.first * t.0 + x) t.1 ∙ sym (add-mul c.first c.second t.0), t.2);
}

-- two whole numbers above 0 have cofactors
pub cofactors : (fuel g k : ℕ) → g + k ≤ fuel → 1 ≤ g → 1 ≤ k → Cofactors g k
cofactors zero g k enough some more = absurd (omega arith)
cofactors (suc fuel) g k enough some more = elim (cases_lt g k) [
  | inl less ↦ subst (λ x. Cofactors g x) (omega arith) (longer g (k - g) some (cofactors fuel g (k - g) (omega arith) some (omega arith)))
  | inr other ↦ elim (cases_eq g k) [
    | inl e ↦ same g k some e
    | inr apart ↦
        let less : k < g = omega arith in
        subst (λ x. Cofactors x k) (omega arith) (swapped k (k + (g - k)) (longer k (g - k) more (cofactors fuel k (g - k) (omega arith) more (omega arith))))
  ]
]

module _ (g k : ℕ) (c : Cofactors g k) where
  part : (m n : ℤ) → m *ℤ pos g ≡ n *ℤ pos k → (c.first ∣ unsigned_abs n) × (c.second ∣ unsigned_abs m)
  part m n e =
      let a : ℕ = unsigned_abs m in
      let b : ℕ = unsigned_abs n in
      let is : a * g ≡ b * k = sym (unsigned_abs-mul m (pos g)) ∙ ap unsigned_abs e ∙ unsigned_abs-mul n (pos k) in
      let t = c.divide a b (mul_comm g a ∙ is ∙ mul_comm b k) in
      (subst (λ x. c.first ∣ x) (sym t.2) (dvd-mul_right c.first t.0), subst (λ x. c.second ∣ x) (sym t.1) (dvd-mul_right c.second t.0))

  -- g·x = k·y: the first cofactor divides both parts of y, and the second those of x
  pub parts : (x y : Quad) → scaled (pos g) x ≡ scaled (pos k) y → DividesParts c.first y × DividesParts c.second x
  parts x y e =
      let a = part x.a y.a (ap (λ (z : Quad). z.a) e) in
      let b = part x.b y.b (ap (λ (z : Quad). z.b) e) in
      ((a.0, b.0), (a.1, b.1))
