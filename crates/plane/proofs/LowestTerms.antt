-- Matrices in lowest terms: their fields, and that there is one for each value.
use Rattle.std.proofs.Common.{◌≡◌, ℕ, zero, suc, ◌+◌, ◌*◌, ◌<◌, [], ◌∷◌, sym, ◌∙◌, ap, subst, arith, refl, Bool, ◌&&◌, int_eq, get_or, length}
use Rattle.std.specs.Bool.{Decides}
use Rattle.std.specs.Cmp.Lexicographic.{pointwise}
use Rattle.std.proofs.lemmas.Bool.{and_parts, and_from}
use Rattle.std.proofs.lemmas.Bool.Decides.{Decides-int_eq}
use Rattle.std.proofs.lemmas.Slice.Eq.{slice_eq-Decides}
use Rattle.std.specs.Prelude.{ℤ, pos, negsuc, ◌*ℤ◌, ◌<ℤ◌, List, map, unsigned_abs}
use Prim.Native.Nat.{◌∣◌}
use Rattle.std.proofs.lemmas.Int.{ints}
use Rattle.std.proofs.Math.Nat.{dvd-mul_right, one-dvd, mul_comm, mul-one}
use Rattle.std.proofs.lemmas.Nat.Gcd.{dvd_antisymm}
use Rattle.rings.specs.Ring.{whole_ops}
use Rattle.rings.specs.Matrices.{Matrix}
use Rattle.rings.proofs.WholeNumbers.{whole_ring, whole_order}
use Rattle.rings.proofs.Factors.{cancel_positive}
use Rattle.quad_field.specs.declared.quad.Quad.{Quad}
use Rattle.quad_field.specs.Content.{DividesAll, DividesParts, IsCancelled}
use Rattle.quad_field.specs.Quads.{quad, scaled}
use Rattle.plane.specs.Matrices.{FieldMatrix, identity, rows_of, entries_of, scaled_matrix, IsInLowestTerms, IsReducedTo, HaveOneValue}
use Rattle.plane.proofs.Cofactors.{cofactors, parts}

-- a list of four
four : (P : Quad → Type 0) (n : Matrix Quad) → P n.0 → P n.1 → P n.2 → P n.3 → (i : ℕ) (d : Quad) → i < 4 → P (get_or (entries_of n) i d)
four P n p q r s zero d h = p
four P n p q r s (suc zero) d h = q
four P n p q r s (suc (suc zero)) d h = r
four P n p q r s (suc (suc (suc zero))) d h = s
four P n p q r s (suc (suc (suc (suc i)))) d h = absurd (omega arith)

dividing : (k n t : ℕ) → n ≡ k * t → k ∣ n
dividing k n t e = subst (λ (m : ℕ). k ∣ m) (sym e) (dvd-mul_right k t)

-- k·x = k·y gives x = y where k is above zero
pub cancelled : (k : ℕ) (x y : Quad) → 0 < k → scaled (pos k) x ≡ scaled (pos k) y → x ≡ y
cancelled k x y some e i = quad (part x.a y.a (ap (λ (z : Quad). z.a) e) i) (part x.b y.b (ap (λ (z : Quad). z.b) e) i)
  where
    part : (m n : ℤ) → m *ℤ pos k ≡ n *ℤ pos k → m ≡ n
    part m n e = cancel_positive whole_ops whole_ring whole_order (pos k) m n (omega (arith, ints)) (whole_ring.mul_comm (pos k) m ∙ e ∙ whole_ring.mul_comm n (pos k))

-- ---- the fields of a matrix
-- `==` of numbers
abbrev pub quad_eq : Quad → Quad → Bool
quad_eq x y = int_eq x.a y.a && int_eq x.b y.b

quads_decide : (x y : Quad) → Decides (quad_eq x y) (x ≡ y)
quads_decide x y = (
  (λ same.
      let parts = and_parts (int_eq x.a y.a) (int_eq x.b y.b) same in
      λ i. quad ((Decides-int_eq x.a y.a).0 parts.0 i) ((Decides-int_eq x.b y.b).0 parts.1 i)),
  (λ e.
      and_from (int_eq x.a y.a) (int_eq x.b y.b) ((Decides-int_eq x.a y.a).1 (ap (λ (z : Quad). z.a) e)) ((Decides-int_eq x.b y.b).1 (ap (λ (z : Quad). z.b) e))),
)

-- a list of four numbers is that of its rows
pub four_entries : (n : List Quad) → length n ≡ 4 → entries_of (rows_of n) ≡ n
four_entries [] e = absurd (omega arith)
four_entries (x ∷ []) e = absurd (omega arith)
four_entries (x ∷ y ∷ []) e = absurd (omega arith)
four_entries (x ∷ y ∷ z ∷ []) e = absurd (omega arith)
four_entries (x ∷ y ∷ z ∷ w ∷ []) e = refl
four_entries (x ∷ y ∷ z ∷ w ∷ v ∷ n) e = absurd (omega arith)

-- a whole number above zero is its absolute value
pub absolute : (n : ℤ) → pos 0 <ℤ n → pos (unsigned_abs n) ≡ n
absolute (pos n) h = refl
absolute (negsuc n) h = absurd (omega (arith, ints, h))

pub absolute_some : (n : ℤ) → pos 0 <ℤ n → 0 < unsigned_abs n
absolute_some n h = omega (arith, ints)

-- numbers over a denominator that have nothing in common are in lowest terms
pub lowest_terms : (n : List Quad) (den : ℤ) → length n ≡ 4 → pos 0 <ℤ den → ((k : ℕ) → DividesAll k n → k ∣ unsigned_abs den → k ≡ 1)
    → IsInLowestTerms (record { rows = rows_of n; denominator = unsigned_abs den })
lowest_terms n den e h alone = record {
  positive = absolute_some den h;
  alone = λ k all of_den. alone k (subst (DividesAll k) (four_entries n e) all) of_den;
}

-- what is cancelled from a list is cancelled from its rows
pub reduced_rows : (n m : List Quad) (d e : ℤ) → length m ≡ 4 → pos 0 <ℤ e → IsCancelled n d m e
    → IsReducedTo (rows_of n) d (record { rows = rows_of m; denominator = unsigned_abs e })
reduced_rows n m d e four h c = (
  unsigned_abs c.0,
  absolute_some c.0 c.1,
  ap rows_of c.2 ∙ ap (λ (l : List Quad). rows_of (map (scaled c.0) l)) (sym (four_entries m four)) ∙ ap (λ (k : ℤ). scaled_matrix k (rows_of m)) (sym (absolute c.0 c.1)),
  c.3 ∙ whole_ring.mul_comm e c.0 ∙ sym (absolute_product c.0 e c.1 h),
)
  where
    absolute_product : (a b : ℤ) → pos 0 <ℤ a → pos 0 <ℤ b → pos (unsigned_abs a * unsigned_abs b) ≡ a *ℤ b
    absolute_product (pos a) (pos b) h k = refl
    absolute_product (pos a) (negsuc b) h k = absurd (omega (arith, ints, k))
    absolute_product (negsuc a) b h k = absurd (omega (arith, ints, h))

-- j·(k·x) = (k·j)·x
scaled_twice : (j k : ℤ) (x : Quad) → scaled j (scaled k x) ≡ scaled (k *ℤ j) x
scaled_twice j k x i = quad (whole_ring.mul_assoc x.a k j i) (whole_ring.mul_assoc x.b k j i)

-- what a matrix is reduced to has its value
pub reduced_value : (n : Matrix Quad) (den : ℤ) (m c : FieldMatrix) → n ≡ m.rows → den ≡ pos m.denominator → IsReducedTo n den c → HaveOneValue m c
reduced_value n den m c rows denominator reduced i = (
  entry m.rows.0 c.rows.0 (ap (λ (o : Matrix Quad). o.0) is) i,
  entry m.rows.1 c.rows.1 (ap (λ (o : Matrix Quad). o.1) is) i,
  entry m.rows.2 c.rows.2 (ap (λ (o : Matrix Quad). o.2) is) i,
  entry m.rows.3 c.rows.3 (ap (λ (o : Matrix Quad). o.3) is) i,
)
  where
    is : m.rows ≡ scaled_matrix (pos reduced.0) c.rows
    is = sym rows ∙ reduced.2

    entry : (x y : Quad) → x ≡ scaled (pos reduced.0) y → scaled (pos c.denominator) x ≡ scaled (pos m.denominator) y
    entry x y e =
        ap (scaled (pos c.denominator)) e ∙ scaled_twice (pos c.denominator) (pos reduced.0) y ∙ ap (λ (k : ℤ). scaled k y) (sym reduced.3 ∙ denominator)

-- two such matrices are equal exactly where their numbers and denominators are
pub fields_decide : (x y : List Quad) (d e : ℤ) (a b : FieldMatrix) (r : Bool) → entries_of (rows_of x) ≡ x → entries_of (rows_of y) ≡ y
    → record { rows = rows_of x; denominator = unsigned_abs d } ≡ a → record { rows = rows_of y; denominator = unsigned_abs e } ≡ b
    → d ≡ e → r ≡ pointwise quad_eq x y → Decides r (a ≡ b)
fields_decide x y d e a b r ex ey ea eb same is =
    let one = slice_eq-Decides quads_decide x y r is in
    let fields : x ≡ y → a ≡ b = λ s. sym ea ∙ (λ i. record { rows = rows_of (s i); denominator = unsigned_abs (same i) }) ∙ eb in
    let lists : a ≡ b → x ≡ y = λ s. sym ex ∙ ap (λ (m : FieldMatrix). entries_of m.rows) (ea ∙ s ∙ sym eb) ∙ ey in
    (λ yes. fields (one.0 yes), λ s. one.1 (lists s))

one_alone : (k : ℕ) → k ∣ 1 → k ≡ 1
one_alone k h = dvd_antisymm h (one-dvd k)

pub identity_lowest : IsInLowestTerms identity
identity_lowest = record { positive = omega arith; alone = λ k all of_den. one_alone k of_den }

-- ---- one matrix for each value
module _ (a b : FieldMatrix) (low : IsInLowestTerms a) (lowest : IsInLowestTerms b) (e : HaveOneValue a b) where
  same_denominator : b.denominator ≡ a.denominator
  same_denominator =
      let g : ℕ = b.denominator in
      let k : ℕ = a.denominator in
      let c = cofactors (g + k) g k (omega arith) (omega (arith, lowest.positive)) (omega (arith, low.positive)) in
      let n = a.rows in
      let m = b.rows in
      let w = parts g k c n.0 m.0 (ap (λ (o : Matrix Quad). o.0) e) in
      let x = parts g k c n.1 m.1 (ap (λ (o : Matrix Quad). o.1) e) in
      let y = parts g k c n.2 m.2 (ap (λ (o : Matrix Quad). o.2) e) in
      let z = parts g k c n.3 m.3 (ap (λ (o : Matrix Quad). o.3) e) in
      let t = c.divide k g (mul_comm g k) in
      let first : c.first ≡ 1 = lowest.alone c.first (four (DividesParts c.first) m w.0 x.0 y.0 z.0) (dividing c.first g t.0 t.2) in
      let second : c.second ≡ 1 = low.alone c.second (four (DividesParts c.second) n w.1 x.1 y.1 z.1) (dividing c.second k t.0 t.1) in
      sym (mul-one g) ∙ ap (λ n. g * n) (sym second) ∙ c.cross ∙ ap (λ n. k * n) first ∙ mul-one k

  same_entry : (x y : Quad) → scaled (pos b.denominator) x ≡ scaled (pos a.denominator) y → x ≡ y
  same_entry x y f = cancelled a.denominator x y low.positive (ap (λ n. scaled (pos n) x) (sym same_denominator) ∙ f)

  -- two matrices in lowest terms that have one value are equal
  pub one_value : a ≡ b
  one_value i = record {
    rows = (
      same_entry a.rows.0 b.rows.0 (ap (λ (o : Matrix Quad). o.0) e) i,
      same_entry a.rows.1 b.rows.1 (ap (λ (o : Matrix Quad). o.1) e) i,
      same_entry a.rows.2 b.rows.2 (ap (λ (o : Matrix Quad). o.2) e) i,
      same_entry a.rows.3 b.rows.3 (ap (λ (o : Matrix Quad). o.3) e) i,
    );
    denominator = sym same_denominator i;
  }
