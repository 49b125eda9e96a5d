-- What is left of a triple when its greatest common divisor is taken out is unique.
use Rattle.std.proofs.Common.{◌≡◌, ℕ, zero, suc, ◌+◌, ◌-◌, ◌*◌, ◌/◌, ◌<◌, ◌≤◌, [], ◌∷◌, sym, ◌∙◌, ap, subst, arith, inl, inr, get_or}
use Rattle.std.specs.Prelude.{ℤ, pos, ◌*ℤ◌, unsigned_abs}
use Prim.Native.Nat.{◌∣◌}
use Rattle.std.proofs.Math.Nat.{dvd-mul_right, mul_comm, mul-add, mul-one, add-mul, mul-div_cancel_left}
use Rattle.std.proofs.lemmas.Bool.{cases_lt, cases_eq}
use Rattle.std.proofs.lemmas.Int.{unsigned_abs-mul}
use Rattle.rings.proofs.Factors.{cancel_triple}
use Rattle.quad_field.specs.declared.quad.Quad.{Quad}
use Rattle.quad_field.specs.FieldNumber.{IsFieldNumber}
use Rattle.quad_field.specs.Content.{DividesParts}
use Rattle.quad_field.specs.Quads.{quad, quad_ops, scaled}
use Rattle.quad_field.proofs.CallerLemmas.{quad_ring, order_of, natural_positive}
use Rattle.hinge_form.specs.Triples.{Triple, zeros, times, HasNoDivisor, IsReduced}
use Rattle.hinge_form.proofs.Multiples.{times_is, divisor_some}

-- the cofactors of two whole numbers: wherever g·a = k·b, they divide a and b
record Cofactors (g k : ℕ) : Type 0 where
  first : ℕ
  second : ℕ
  cross : g * second ≡ k * first
  divide : (a b : ℕ) → g * a ≡ k * b → (t : ℕ) × (a ≡ second * t) × (b ≡ first * t)

cancel : (g a b : ℕ) → 1 ≤ g → g * a ≡ g * b → a ≡ b
cancel g a b some e =
    let more : 0 < g = omega arith in
    sym (mul-div_cancel_left a more) ∙ ap (λ x. x / g) e ∙ mul-div_cancel_left b more

swapped : (g k : ℕ) → Cofactors g k → Cofactors k g
swapped g k c = record {
  first = c.second;
  second = c.first;
  cross = sym c.cross;
  divide = λ a b e. let t = c.divide b a (sym e) in (t.0, t.2, t.1);
}

same : (g k : ℕ) → 1 ≤ g → g ≡ k → Cofactors g k
same g k some e = record {
  first = 1;
  second = 1;
  cross = omega arith;
  divide = λ a b f. (a, omega arith, cancel g b a some (subst (λ x. x * b ≡ g * a) (sym e) (sym f)) ∙ omega arith);
}

-- g·a = (g + j)·b gives g·(a - b) = j·b, with a ≥ b
shorter : (g j a b : ℕ) → 1 ≤ g → g * a ≡ (g + j) * b → (c : ℕ) × (a ≡ b + c) × (g * c ≡ j * b)
shorter g j a b some e = elim (cases_lt a b) [
  | inl less ↦
      let c : ℕ = b - suc a in
      let is : b ≡ a + suc c = omega arith in
      let wide : (g + j) * b ≡ g * b + j * b = add-mul g j b in
      let more : g * b ≡ g * a + g * suc c = ap (λ x. g * x) is ∙ mul-add g a (suc c) in
      let again : g * suc c ≡ g + g * c = omega arith in
      absurd (omega arith)
  | inr more ↦
      let c : ℕ = a - b in
      let is : a ≡ b + c = omega arith in
      let wide : (g + j) * b ≡ g * b + j * b = add-mul g j b in
      let long : g * a ≡ g * b + g * c = ap (λ x. g * x) is ∙ mul-add g b c in
      (c, is, omega arith)
]

longer : (g j : ℕ) → 1 ≤ g → Cofactors g j → Cofactors g (g + j)
longer g j some c = record {
  first = c.first;
  second = c.first + c.second;
  cross = mul-add g c.first c.second ∙ (let e = c.cross in let f = add-mul g j c.first in omega arith);
  divide = λ a b e.
      let s = shorter g j a b some e in
      let t = c.divide s.0 b s.2 in
      (t.0, s.1 ∙ ap (λ x. x + s.0) t.2 ∙ ap (λ x. c.first * t.0 + x) t.1 ∙ sym (add-mul c.first c.second t.0), t.2);
}

-- two whole numbers above 0 have cofactors
cofactors : (fuel g k : ℕ) → g + k ≤ fuel → 1 ≤ g → 1 ≤ k → Cofactors g k
cofactors zero g k enough some more = absurd (omega arith)
cofactors (suc fuel) g k enough some more = elim (cases_lt g k) [
  | inl less ↦ subst (λ x. Cofactors g x) (omega arith) (longer g (k - g) some (cofactors fuel g (k - g) (omega arith) some (omega arith)))
  | inr other ↦ elim (cases_eq g k) [
    | inl e ↦ same g k some e
    | inr apart ↦
        let less : k < g = omega arith in
        subst (λ x. Cofactors x k) (omega arith) (swapped k (k + (g - k)) (longer k (g - k) more (cofactors fuel k (g - k) (omega arith) more (omega arith))))
  ]
]

-- a list of three
three : (P : Quad → Type 0) (x y z : Quad) → P x → P y → P z → (i : ℕ) (d : Quad) → i < 3 → P (get_or (x ∷ y ∷ z ∷ []) i d)
three P x y z p q r zero d h = p
three P x y z p q r (suc zero) d h = q
three P x y z p q r (suc (suc zero)) d h = r
three P x y z p q r (suc (suc (suc i))) d h = absurd (omega arith)

module _ (g k : ℕ) (c : Cofactors g k) where
  part : (m n : ℤ) → m *ℤ pos g ≡ n *ℤ pos k → (c.first ∣ unsigned_abs n) × (c.second ∣ unsigned_abs m)
  part m n e =
      let a : ℕ = unsigned_abs m in
      let b : ℕ = unsigned_abs n in
      let is : a * g ≡ b * k = sym (unsigned_abs-mul m (pos g)) ∙ ap unsigned_abs e ∙ unsigned_abs-mul n (pos k) in
      let t = c.divide a b (mul_comm g a ∙ is ∙ mul_comm b k) in
      (subst (λ x. c.first ∣ x) (sym t.2) (dvd-mul_right c.first t.0), subst (λ x. c.second ∣ x) (sym t.1) (dvd-mul_right c.second t.0))

  parts : (x y : Quad) → scaled (pos g) x ≡ scaled (pos k) y → DividesParts c.first y × DividesParts c.second x
  parts x y e =
      let a = part x.a y.a (ap (λ z. z.a) e) in
      let b = part x.b y.b (ap (λ z. z.b) e) in
      ((a.0, b.0), (a.1, b.1))

  -- two reduced triples of which one multiple of each is the same have one multiple
  one_divisor : (l m : Triple) → HasNoDivisor l → HasNoDivisor m → times g l ≡ times k m → g ≡ k
  one_divisor l m fl fm e =
      let x = parts l.0 m.0 (ap (λ t. t.0) e) in
      let y = parts l.1 m.1 (ap (λ t. t.1) e) in
      let z = parts l.2 m.2 (ap (λ t. t.2) e) in
      let first : c.first ≡ 1 = fm c.first (three (DividesParts c.first) m.0 m.1 m.2 x.0 y.0 z.0) in
      let second : c.second ≡ 1 = fl c.second (three (DividesParts c.second) l.0 l.1 l.2 x.1 y.1 z.1) in
      sym (mul-one g) ∙ ap (λ n. g * n) (sym second) ∙ c.cross ∙ ap (λ n. k * n) first ∙ mul-one k

-- a triple that isn't zero is reduced in one way
pub one_reduced : (d : ℕ) → IsFieldNumber d → (full l m : Triple) → ¬ (full ≡ zeros) → IsReduced full l → IsReduced full m → l ≡ m
one_reduced d field full l m some first second =
    let g = first.divisor in
    let k = second.divisor in
    let gs : 1 ≤ g = divisor_some g full l first.taken_out some in
    let ks : 1 ≤ k = divisor_some k full m second.taken_out some in
    let e : times g l ≡ times k m = sym first.taken_out ∙ second.taken_out in
    let same : g ≡ k = one_divisor g k (cofactors (g + k) g k (omega arith) gs ks) l m first.reduced second.reduced e in
    cancel_triple (quad_ops d) (quad_ring d) (order_of d field) (quad (pos g) (pos 0)) l m (natural_positive d g gs)
    (sym (times_is d g l) ∙ e ∙ ap (λ n. times n m) (sym same) ∙ times_is d g m)
