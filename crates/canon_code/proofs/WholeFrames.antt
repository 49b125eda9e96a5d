-- A start whose scale is at least a known one.
use Rattle.std.proofs.Common.{◌≡◌, ℕ, ◌+◌, ◌*◌, ◌/◌, ◌<◌, ◌≤◌, List, [], ◌∷◌, length, refl, sym, ap, ◌∙◌, subst, inl, inr, arith}
use mathlib.Core.Path.{ap₂, subst₂}
use Prim.Native.Nat.{◌∣◌}
use native.Mathlib.Nat.{dvd_refl, dvd_trans, dvd-mul_left, dvd_of_mul-dvd-mul_left, le_of_dvd}
use Rattle.std.proofs.Math.Nat.{mul_comm}
use Rattle.std.specs.Prelude.{ℤ, pos, negsuc, neg_ℤ, ◌*ℤ◌, ◌<ℤ◌, unsigned_abs}
use Rattle.std.proofs.lemmas.Bool.{cases_eq, cases_lt}
use Rattle.std.proofs.lemmas.Int.{ints, unsigned_abs-mul}
use Rattle.std.specs.Ordering.{int_cmp}
use Rattle.std.specs.Cmp.Lexicographic.{slice_cmp}
use Rattle.std.specs.declared.cmp.Ordering.TheVariants.{Equal, Greater}
use Rattle.rings.specs.Ring.{Ops, var, expr}
use Rattle.rings.proofs.Solver.{identity}
use Rattle.rings.proofs.Factors.{cancel_positive}
use Rattle.quad_field.specs.declared.quad.Quad.{Quad}
use Rattle.quad_field.specs.FieldNumber.{IsFieldNumber}
use Rattle.quad_field.specs.Quads.{quad, quad_ops, scaled, IsPositive}
use Rattle.quad_field.proofs.CallerLemmas.{quad_ring, order_of, scaled_is, whole_positive}
use Rattle.plane.specs.Vectors.{Vector, vector, det, vector_sum, opposite_vector}
use Rattle.plane.specs.declared.vec2.Vec2.{Vec2}
use Rattle.tri_core.specs.declared.half.Half.{Half}
use Rattle.tri_core.specs.HalfEdges.{half_at, vector_at, twin_at, next_of, previous_of}
use Rattle.tri_core.specs.Triangulation.{IsTriangulation}
use Rattle.tri_core.proofs.CallerLemmas.{triple_at}
use Rattle.canon_code.specs.declared.coordinates.Frame.{Frame}
use Rattle.canon_code.specs.declared.whole.Scaled.{Scaled}
use Rattle.canon_code.specs.Serials.{row, rows, IsWritten, IsScale, IsSerial}
use Rattle.canon_code.specs.Codes.{IsBefore}
use Rattle.canon_code.specs.Coordinates.{pair_at, AreCoordinates}
use Rattle.canon_code.specs.Canonical.{number_at}
use Rattle.canon_code.specs.Numberings.{IsNumbering}
use Rattle.canon_code.specs.Search.{IsSearch}
use Rattle.canon_code.specs.Numbered.{entry, IsUnderWay}
use Rattle.canon_code.specs.WholeFrames.{IsFrameOf, IsDivisorOf, IsScaleBound, IsScaledBy, numbers_at, IsWhole, IsNotWhole, IsWholeAt, IsWholeRow, HasNoWhole}
use Rattle.canon_code.proofs.Frames.{written_once, written_closed}
use Rattle.canon_code.proofs.Numberings.{IsBeginning, beginning_of, begun_place, begun_number}
use Rattle.canon_code.proofs.NumberLists.{beginning_from, found_few}
use Rattle.canon_code.proofs.Serials.{twins_inside, turn_at}
use Rattle.canon_code.proofs.Least.{before_from_greater, equal_from_tie}
use Rattle.canon_code.proofs.CodeExists.{before_from_number}
use Rattle.canon_code.proofs.ScaleExists.{some_serial}

-- a list that begins with these two numbers, and a serial with the same first number and a greater second one
pub greater_scale : (best serial : List ℤ) (n m : ℕ) (scale : ℤ) (rest : List ℤ) → 1 < length best → number_at best 0 ≡ pos n → number_at best 1 ≡ scale → serial ≡ pos n ∷ pos m ∷ rest → scale <ℤ pos m
    → IsBefore best serial
greater_scale [] serial n m scale rest long first second is more = absurd (omega (arith, long))
greater_scale (x ∷ []) serial n m scale rest long first second is more = absurd (omega (arith, long))
greater_scale (x ∷ y ∷ best) serial n m scale rest long first second is more =
    subst (IsBefore (x ∷ y ∷ best)) (sym is)
    (before_from_number (x ∷ y ∷ best) (pos n ∷ pos m ∷ rest) 1 (omega arith) (omega arith) (ap (λ (z : ℤ). z ∷ []) first) (subst (λ z. z <ℤ pos m) (sym second) more))

-- both vectors that triangle t lists are whole
abbrev pub IsWholeIn : ℕ → List Half → Scaled → (ℕ → ℕ) → ℕ → Type 0
IsWholeIn d halves start place t = (u : Vector Quad) × (v : Vector Quad) × IsWholeAt d halves start place (3 * t) u × IsWholeAt d halves start place (3 * t + 1) v

-- both vectors that each of the first triangles lists are whole
abbrev pub AreWholeTo : ℕ → List Half → Scaled → (ℕ → ℕ) → ℕ → Type 0
AreWholeTo d halves start place n = (t : ℕ) → t < n → IsWholeIn d halves start place t

-- one triangle more
pub whole_more : (d : ℕ) (halves : List Half) (start : Scaled) (place : ℕ → ℕ) (n : ℕ) → AreWholeTo d halves start place n → IsWholeIn d halves start place n → AreWholeTo d halves start place (n + 1)
whole_more d halves start place n own last t less = elim (cases_lt t n) [
  | inl below ↦ own t below
  | inr above ↦ let same : t ≡ n = omega (arith, less, above) in subst (IsWholeIn d halves start place) (sym same) last
]

-- a number above zero is its size
pub size_is : (n : ℤ) → pos 0 <ℤ n → pos (unsigned_abs n) ≡ n
size_is (pos n) some = refl
size_is (negsuc n) some = absurd (omega (arith, ints, some))

module _ (d : ℕ) (field : IsFieldNumber d) (halves : List Half) (valid : IsTriangulation d halves) (m : ℤ) (start : Scaled) (is : IsScaledBy d halves m start) where
  abbrev O : Ops Quad
  O = quad_ops d

  abbrev δ : Quad
  δ = det (quad_ops d) (vector start.frame.e) (vector start.frame.g)

  abbrev κ : Quad
  κ = start.frame.conjugate

  -- the norm is m·g
  norm_is : O.mul (O.int m) (O.int start.divisor) ≡ O.mul δ κ
  norm_is = sym ((quad_ring d).int-mul m start.divisor) ∙ ap O.int (sym is.norm) ∙ is.frame.norm

  norm_positive : IsPositive d (O.mul δ κ)
  norm_positive = subst (IsPositive d) norm_is ((order_of d field).product (O.int m) (O.int start.divisor) (whole_positive d m is.some) (whole_positive d start.divisor is.positive))

  -- where δ·y = m·x, the number x·κ is g·y
  whole_is : (x y : Quad) → O.mul δ y ≡ O.mul (O.int m) x → O.mul x κ ≡ scaled start.divisor y
  whole_is x y p =
      cancel_positive O (quad_ring d) (order_of d field) (O.int m) (O.mul x κ) (scaled start.divisor y) (whole_positive d m is.some)
      (identity O (quad_ring d) (O.int m ∷ x ∷ κ ∷ []) (expr.mul (var 0) (expr.mul (var 1) (var 2))) (expr.mul (var 2) (expr.mul (var 0) (var 1))) tt
      ∙ ap (O.mul κ) (sym p)
      ∙ identity O (quad_ring d) (δ ∷ κ ∷ y ∷ []) (expr.mul (var 1) (expr.mul (var 0) (var 2))) (expr.mul (expr.mul (var 0) (var 1)) (var 2)) tt
      ∙ ap (λ (n : Quad). O.mul n y) (sym norm_is)
      ∙ (quad_ring d).mul_assoc (O.int m) (O.int start.divisor) y
      ∙ ap (O.mul (O.int m)) (sym (scaled_is d start.divisor y)))

  -- and back
  number_is : (x y : Quad) → O.mul x κ ≡ scaled start.divisor y → O.mul δ y ≡ O.mul (O.int m) x
  number_is x y q =
      cancel_positive O (quad_ring d) (order_of d field) (O.mul δ κ) (O.mul δ y) (O.mul (O.int m) x) norm_positive
      (identity O (quad_ring d) (δ ∷ κ ∷ y ∷ []) (expr.mul (expr.mul (var 0) (var 1)) (expr.mul (var 0) (var 2))) (expr.mul (var 0) (expr.mul (expr.mul (var 0) (var 1)) (var 2))) tt
      ∙ ap (λ (n : Quad). O.mul δ (O.mul n y)) (sym norm_is)
      ∙ ap (O.mul δ) ((quad_ring d).mul_assoc (O.int m) (O.int start.divisor) y ∙ ap (O.mul (O.int m)) (sym (scaled_is d start.divisor y) ∙ sym q))
      ∙ identity O (quad_ring d) (δ ∷ κ ∷ O.int m ∷ x ∷ []) (expr.mul (var 0) (expr.mul (var 2) (expr.mul (var 3) (var 1)))) (expr.mul (expr.mul (var 0) (var 1)) (expr.mul (var 2) (var 3))) tt)

  abbrev e₀ : Vector Quad
  e₀ = vector_at halves start.h

  abbrev g₀ : Vector Quad
  g₀ = vector_at halves (next_of start.h)

  at_frame : (v w : Vector Quad) → IsWhole d start.frame start.divisor v w → IsWritten O (O.int m) e₀ g₀ v w
  at_frame v w whole =
      subst₂ (λ (a b : Vector Quad). IsWritten O (O.int m) a b v w) is.frame.e is.frame.g
      (number_is (det O v (vector start.frame.g)) w.0 whole.0, number_is (det O (vector start.frame.e) v) w.1 whole.1)

  from_frame : (v w : Vector Quad) → IsWritten O (O.int m) e₀ g₀ v w → IsWhole d start.frame start.divisor v w
  from_frame v w written =
      let there = subst₂ (λ (a b : Vector Quad). IsWritten O (O.int m) a b v w) (sym is.frame.e) (sym is.frame.g) written in
      (whole_is (det O v (vector start.frame.g)) w.0 there.0, whole_is (det O (vector start.frame.e) v) w.1 there.1)

  -- where all are whole they are the coordinates over m
  pub whole_coordinates : (list : List Quad) → length list ≡ 2 * length halves → ((k : ℕ) → k < length halves → IsWhole d start.frame start.divisor (vector_at halves k) (pair_at list k))
      → AreCoordinates d halves start.h (unsigned_abs m) list
  whole_coordinates list long whole = record {
    as_many = long;
    least = ((omega (arith, ints, is.some), λ k less. (pair_at list k, written k less)), is.least);
    written = written;
  }
    where
      written : (k : ℕ) → k < length halves → IsWritten O (O.int (pos (unsigned_abs m))) e₀ g₀ (vector_at halves k) (pair_at list k)
      written k less =
          subst (λ (n : ℤ). IsWritten O (O.int n) e₀ g₀ (vector_at halves k) (pair_at list k)) (sym (size_is m is.some)) (at_frame (vector_at halves k) (pair_at list k) (whole k less))

  module _ (place number : ℕ → ℕ) (num : IsNumbering halves start.h place number) where
    abbrev Written : ℕ → Type 0
    Written k = (w : Vector Quad) × IsWritten O (O.int m) e₀ g₀ (vector_at halves (place k)) w

    module _ (all : AreWholeTo d halves start place (length halves / 3)) where
      -- the third vectors too
      third : (t : ℕ) → 3 * t + 2 < length halves → Written (3 * t + 2)
      third t inside =
          let r = all t (omega (arith, inside, valid.count.0)) in
          let first : 3 * t < length halves = omega (arith, inside) in
          let one : next_of (3 * t) ≡ 3 * t + 1 = omega arith in
          let two : next_of (3 * t + 1) ≡ 3 * t + 2 = omega arith in
          let second : next_of (place (3 * t)) ≡ place (3 * t + 1) = sym (num.next (3 * t) first) ∙ ap place one in
          let last : previous_of (place (3 * t)) ≡ place (3 * t + 2) =
          twice (place (3 * t)) ∙ ap next_of second ∙ sym (num.next (3 * t + 1) (omega (arith, inside))) ∙ ap place two in (
            opposite_vector O (vector_sum O r.0 r.1),
            written_closed O (quad_ring d) (order_of d field) (O.int m) e₀ g₀
                (vector_at halves (place (3 * t))) (vector_at halves (place (3 * t + 1))) (vector_at halves (place (3 * t + 2))) r.0 r.1
                (ap₂ (λ (p q : ℕ). vector_sum O (vector_sum O (vector_at halves (place (3 * t))) (vector_at halves p)) (vector_at halves q)) (sym second) (sym last)
                ∙ (triple_at d halves (place (3 * t)) valid (num.each_once.forth_inside (3 * t) first)).closed)
                (at_frame (vector_at halves (place (3 * t))) r.0 r.2) (at_frame (vector_at halves (place (3 * t + 1))) r.1 r.3),
          )
        where
          twice : (k : ℕ) → previous_of k ≡ next_of (next_of k)
          twice k = omega arith

      written_to : (k : ℕ) → k < length halves → Written k
      written_to k less =
          let t : ℕ = k / 3 in
          let r = all t (omega (arith, less, valid.count.0)) in
          elim (cases_eq k (3 * t)) [
            | inl e ↦ subst Written (sym e) (r.0, at_frame (vector_at halves (place (3 * t))) r.0 r.2)
            | inr other ↦ elim (cases_eq k (3 * t + 1)) [
              | inl e ↦ subst Written (sym e) (r.1, at_frame (vector_at halves (place (3 * t + 1))) r.1 r.3)
              | inr another ↦ let e : k ≡ 3 * t + 2 = omega (arith, other, another) in subst Written (sym e) (third t (subst (λ n. n < length halves) e less))
            ]
          ]

      -- so m is a scale
      scale_is : IsScale d halves start.h (unsigned_abs m)
      scale_is = (
        omega (arith, ints, is.some),
        λ j less.
            let w = written_to (number j) (num.each_once.back_inside j less) in (
              w.0,
              subst₂ (λ (n : ℤ) (p : ℕ). IsWritten O (O.int n) e₀ g₀ (vector_at halves p) w.0) (sym (size_is m is.some)) (num.each_once.forth_back j less) w.1,
            ),
      )

  module _ (serial : List ℤ) (s : IsSerial d halves start.h serial) where
    -- a row of a search that looked at the triangle is one of the numbering
    pub row_in_serial : (places numbers : List ℕ) (t : ℕ) → IsUnderWay halves start.h places numbers (3 * (t + 1)) → (numbers_are : List ℤ) → IsWholeRow d halves start (entry places) (entry numbers) t numbers_are
        → IsWholeRow d halves start s.place s.number t numbers_are
    row_in_serial places numbers t w numbers_are r =
        let a = one (3 * t) (omega arith) in
        let b = one (3 * t + 1) (omega arith) in
        let c = one (3 * t + 2) (omega arith) in (
          r.0,
          r.1,
          subst (λ (p : ℕ). IsWhole d start.frame start.divisor (vector_at halves p) r.0) a r.2,
          subst (λ (p : ℕ). IsWhole d start.frame start.divisor (vector_at halves p) r.1) b r.3,
          r.4 ∙ λ i.
              r.0.0.a ∷ r.0.0.b ∷ r.0.1.a ∷ r.0.1.b ∷ r.1.0.a ∷ r.1.0.b ∷ r.1.1.a ∷ r.1.1.b
              ∷ pos (twin (3 * t) (omega arith) i) ∷ pos (twin (3 * t + 1) (omega arith) i) ∷ pos (twin (3 * t + 2) (omega arith) i) ∷ [],
        )
      where
        search : IsSearch halves (entry places 0) (entry places) (entry numbers) (length places) (3 * (t + 1))
        search = w.search.search

        few : length places ≤ length halves
        few = found_few halves places numbers (3 * (t + 1)) w.search

        begun : IsBeginning halves start.h (entry places) (entry numbers) (length places)
        begun = beginning_from halves places numbers start.h (3 * (t + 1)) w

        whole : IsBeginning halves start.h s.place s.number (length places)
        whole = beginning_of halves start.h s.place s.number (length places) s.numbering search.triples few

        one : (k : ℕ) → k < 3 * (t + 1) → entry places k ≡ s.place k
        one k low = begun_place halves start.h (entry places) (entry numbers) s.place s.number (length places) (twins_inside d halves valid) begun whole k (omega (arith, low, search.enough))

        twin : (k : ℕ) → k < 3 * (t + 1) → entry numbers (twin_at halves (entry places k)) ≡ s.number (twin_at halves (s.place k))
        twin k low =
            begun_number halves start.h (entry places) (entry numbers) s.place s.number (length places) (twins_inside d halves valid) begun whole (twin_at halves (entry places k))
            (valid.paired (entry places k) (search.inside k (omega (arith, low, search.enough)))).0 (search.seen k low)
            ∙ ap (λ p. s.number (twin_at halves p)) (one k low)

    module _ (one : pos s.scale ≡ m) where
      listed : (k : ℕ) → k < length halves → IsWritten O (O.int m) e₀ g₀ (vector_at halves (s.place k)) (s.written k)
      listed k own = subst (λ (n : ℤ). IsWritten O (O.int n) e₀ g₀ (vector_at halves (s.place k)) (s.written k)) one (s.vectors k own)

      written_is : (k : ℕ) → k < length halves → (w : Vector Quad) → IsWholeAt d halves start s.place k w → s.written k ≡ w
      written_is k own w whole =
          written_once O (quad_ring d) (order_of d field) (O.int m) e₀ g₀ (vector_at halves (s.place k)) (s.written k) w (turn_at d field halves start.h valid is.inside)
          (listed k own) (at_frame (vector_at halves (s.place k)) w whole)

      pub row_is : (t : ℕ) → 3 * t + 2 < length halves → (numbers_are : List ℤ) → IsWholeRow d halves start s.place s.number t numbers_are
          → numbers_are ≡ row s.written (λ k. s.number (twin_at halves (s.place k))) t
      row_is t inside numbers_are r =
          let first : s.written (3 * t) ≡ r.0 = written_is (3 * t) (omega (arith, inside)) r.0 r.2 in
          let second : s.written (3 * t + 1) ≡ r.1 = written_is (3 * t + 1) (omega (arith, inside)) r.1 r.3 in
          let a = s.number (twin_at halves (s.place (3 * t))) in
          let b = s.number (twin_at halves (s.place (3 * t + 1))) in
          let c = s.number (twin_at halves (s.place (3 * t + 2))) in
          r.4 ∙ sym (λ i. (first i).0.a ∷ (first i).0.b ∷ (first i).1.a ∷ (first i).1.b ∷ (second i).0.a ∷ (second i).0.b ∷ (second i).1.a ∷ (second i).1.b ∷ pos a ∷ pos b ∷ pos c ∷ [])

      -- over the scale each half-edge has whole numbers
      none_broken : HasNoWhole d halves start → ⊥
      none_broken r =
          let k : ℕ = s.number r.0 in
          let back : s.place k ≡ r.0 = s.numbering.each_once.forth_back r.0 r.1 in
          go (s.written k)
          (subst (λ (p : ℕ). IsWhole d start.frame start.divisor (vector_at halves p) (s.written k)) back
          (from_frame (vector_at halves (s.place k)) (s.written k) (listed k (s.numbering.each_once.back_inside r.0 r.1)))) r.2
        where
          go : (w : Vector Quad) → IsWhole d start.frame start.divisor (vector_at halves r.0) w → IsNotWhole d start.frame start.divisor (vector_at halves r.0) → ⊥
          go w whole (inl none) = none w.0 whole.0
          go w whole (inr none) = none w.1 whole.1

    -- the start is after the best where the serial would be, if its scale were m
    pub after_from : (best : List ℤ) → 1 < length best → number_at best 0 ≡ pos (length halves / 3) → number_at best 1 ≡ m → (pos s.scale ≡ m → slice_cmp int_cmp serial best ≡ Greater) → IsBefore best serial
    after_from best long first second told = elim (cases_eq s.scale (unsigned_abs m)) [
      | inl one ↦ before_from_greater serial best (told (ap pos one ∙ size_is m is.some))
      | inr other ↦
          let least : unsigned_abs m ≤ s.scale = is.least s.scale s.least.0 in
          let more : m <ℤ pos s.scale = subst (λ z. z <ℤ pos s.scale) (size_is m is.some) (omega (arith, ints, least, other)) in
          greater_scale best serial (length halves / 3) s.scale m (rows s.written (λ k. s.number (twin_at halves (s.place k))) (length halves / 3)) long first second s.numbers more
    ]

    -- where a half-edge has no whole numbers the scale is greater
    pub after_broken : (best : List ℤ) → 1 < length best → number_at best 0 ≡ pos (length halves / 3) → number_at best 1 ≡ m → HasNoWhole d halves start → IsBefore best serial
    after_broken best long first second none = after_from best long first second (λ one. absurd (none_broken one none))

  -- where all are whole the scale is m
  pub same_from : ((serial : List ℤ) (s : IsSerial d halves start.h serial) → AreWholeTo d halves start s.place (length halves / 3)) → (best : List ℤ)
      → ((serial : List ℤ) (s : IsSerial d halves start.h serial) → pos s.scale ≡ m → slice_cmp int_cmp serial best ≡ Equal) → IsSerial d halves start.h best
  same_from all best told =
      let r = some_serial d field halves start.h valid is.inside in
      let s : IsSerial d halves start.h r.0 = r.1 in
      let most : s.scale ≤ unsigned_abs m = s.least.1 (unsigned_abs m) (scale_is s.place s.number s.numbering (all r.0 s)) in
      let least : unsigned_abs m ≤ s.scale = is.least s.scale s.least.0 in
      let one : s.scale ≡ unsigned_abs m = omega (arith, most, least) in
      subst (IsSerial d halves start.h) (equal_from_tie r.0 best (told r.0 s (ap pos one ∙ size_is m is.some))) s

-- no scale is below the norm over a divisor
module _ (d : ℕ) (halves : List Half) (h : ℕ) (norm q g : ℤ) (positive : pos 0 <ℤ g) (quotient : norm ≡ q *ℤ g) (bound : IsScaleBound d halves h norm g) where
  pub scale_least : (n : ℕ) → IsScale d halves h n → unsigned_abs q ≤ n
  scale_least n scale =
      let some : 0 < unsigned_abs g = omega (arith, ints, positive) in
      let sizes : unsigned_abs norm ≡ unsigned_abs g * unsigned_abs q = ap unsigned_abs quotient ∙ unsigned_abs-mul q g ∙ mul_comm (unsigned_abs q) (unsigned_abs g) in
      le_of_dvd scale.0 (dvd_of_mul-dvd-mul_left (unsigned_abs q) some (subst₂ (λ (a b : ℕ). a ∣ b) sizes (mul_comm n (unsigned_abs g)) (bound n scale)))

  -- and where that is greater than the best scale the start is after
  pub after_scale : (best serial : List ℤ) → 1 < length best → number_at best 0 ≡ pos (length halves / 3) → pos 0 <ℤ q → number_at best 1 <ℤ q → IsSerial d halves h serial → IsBefore best serial
  after_scale best serial long first some less s =
      let least : unsigned_abs q ≤ s.scale = scale_least s.scale s.least.0 in
      let more : number_at best 1 <ℤ pos s.scale = omega (arith, ints, least, some, less) in
      greater_scale best serial (length halves / 3) s.scale (number_at best 1) (rows s.written (λ k. s.number (twin_at halves (s.place k))) (length halves / 3)) long first refl s.numbers more

-- each scale times the norm is a multiple of the norm
pub bound_first : (d : ℕ) (halves : List Half) (h : ℕ) (norm : ℤ) → IsScaleBound d halves h norm norm
bound_first d halves h norm n scale = dvd-mul_left (unsigned_abs norm) n

-- a scale times a number of the formula is a multiple of the norm
module _ (d : ℕ) (field : IsFieldNumber d) (halves : List Half) (h : ℕ) (valid : IsTriangulation d halves) (below : h < length halves)
    (frame : Frame) (is : IsFrameOf d halves h frame) (n : ℕ) (scale : IsScale d halves h n) where
  abbrev P : Ops Quad
  P = quad_ops d

  times : (x y z : Quad) → P.mul (det P (vector frame.e) (vector frame.g)) y ≡ P.mul (P.int (pos n)) x → z ≡ P.mul x frame.conjugate → scaled (pos n) z ≡ scaled frame.norm y
  times x y z p q =
      scaled_is d (pos n) z
      ∙ ap (P.mul (P.int (pos n))) q
      ∙ identity P (quad_ring d) (P.int (pos n) ∷ x ∷ frame.conjugate ∷ []) (expr.mul (var 0) (expr.mul (var 1) (var 2))) (expr.mul (expr.mul (var 0) (var 1)) (var 2)) tt
      ∙ ap (λ (w : Quad). P.mul w frame.conjugate) (sym p)
      ∙ identity P (quad_ring d) (det P (vector frame.e) (vector frame.g) ∷ y ∷ frame.conjugate ∷ []) (expr.mul (expr.mul (var 0) (var 1)) (var 2)) (expr.mul (expr.mul (var 0) (var 2)) (var 1)) tt
      ∙ ap (λ (w : Quad). P.mul w y) (sym is.norm)
      ∙ sym (scaled_is d frame.norm y)

  part_divides : (p q : ℤ) → p *ℤ pos n ≡ q *ℤ frame.norm → unsigned_abs frame.norm ∣ (n * unsigned_abs p)
  part_divides p q k =
      let sizes : unsigned_abs p * n ≡ unsigned_abs q * unsigned_abs frame.norm = sym (unsigned_abs-mul p (pos n)) ∙ ap unsigned_abs k ∙ unsigned_abs-mul q frame.norm in
      subst (λ x. unsigned_abs frame.norm ∣ x) (sym (mul_comm n (unsigned_abs p) ∙ sizes)) (dvd-mul_left (unsigned_abs frame.norm) (unsigned_abs q))

  divides_parts : (z y : Quad) → scaled (pos n) z ≡ scaled frame.norm y → (unsigned_abs frame.norm ∣ (n * unsigned_abs z.a)) × (unsigned_abs frame.norm ∣ (n * unsigned_abs z.b))
  divides_parts z y k = (part_divides z.a y.a (ap (λ (x : Quad). x.a) k), part_divides z.b y.b (ap (λ (x : Quad). x.b) k))

  module _ (k : ℕ) (inside : k < length halves) where
    own : (w : Vector Quad) × IsWritten P (P.int (pos n)) (vector frame.e) (vector frame.g) (vector_at halves k) w
    own = let w = scale.1 k inside in (w.0, subst₂ (λ (a b : Vector Quad). IsWritten P (P.int (pos n)) a b (vector_at halves k) w.0) (sym is.e) (sym is.g) w.1)

    pub first_divides : (z : Quad) → z ≡ P.mul (det P (vector_at halves k) (vector frame.g)) frame.conjugate → (unsigned_abs frame.norm ∣ (n * unsigned_abs z.a)) × (unsigned_abs frame.norm ∣ (n * unsigned_abs z.b))
    first_divides z e = divides_parts z own.0.0 (times (det P (vector_at halves k) (vector frame.g)) own.0.0 z own.1.0 e)

    pub second_divides : (z : Quad) → z ≡ P.mul (det P (vector frame.e) (vector_at halves k)) frame.conjugate → (unsigned_abs frame.norm ∣ (n * unsigned_abs z.a)) × (unsigned_abs frame.norm ∣ (n * unsigned_abs z.b))
    second_divides z e = divides_parts z own.0.1 (times (det P (vector frame.e) (vector_at halves k)) own.0.1 z own.1.1 e)

-- one half-edge more
module _ (d : ℕ) (field : IsFieldNumber d) (halves : List Half) (h : ℕ) (valid : IsTriangulation d halves) (below : h < length halves)
    (frame : Frame) (is : IsFrameOf d halves h frame) (k : ℕ) (inside : k < length halves) (x y : Quad)
    (first : x ≡ (numbers_at d frame (vector_at halves k)).0) (second : y ≡ (numbers_at d frame (vector_at halves k)).1) where
  pub divisor_more : (divisor later : ℤ) → IsDivisorOf d halves h frame.norm divisor → pos 0 <ℤ later → unsigned_abs later ∣ unsigned_abs divisor
      → ((j n : ℕ) → j ∣ (n * unsigned_abs divisor) → j ∣ (n * unsigned_abs x.a) → j ∣ (n * unsigned_abs x.b) → j ∣ (n * unsigned_abs y.a) → j ∣ (n * unsigned_abs y.b) → j ∣ (n * unsigned_abs later))
      → IsDivisorOf d halves h frame.norm later
  divisor_more divisor later own positive divides within = record {
    positive = positive;
    divides = dvd_trans (unsigned_abs later) divides own.divides;
    bound = λ n scale.
        let p = first_divides d field halves h valid below frame is n scale k inside x first in
        let q = second_divides d field halves h valid below frame is n scale k inside y second in
        within (unsigned_abs frame.norm) n (own.bound n scale) p.0 p.1 q.0 q.1;
  }

-- the norm itself
pub divisor_first : (d : ℕ) (halves : List Half) (h : ℕ) (norm : ℤ) → pos 0 <ℤ norm → IsDivisorOf d halves h norm norm
divisor_first d halves h norm positive = record {
  positive = positive;
  divides = dvd_refl (unsigned_abs norm);
  bound = bound_first d halves h norm;
}

-- the frame of a start with the conjugate and the norm negated
pub turned_frame : (d : ℕ) (halves : List Half) (h : ℕ) (frame later : Frame) → later.e ≡ frame.e → later.g ≡ frame.g → later.norm ≡ neg_ℤ frame.norm → later.conjugate ≡ (quad_ops d).neg frame.conjugate
    → IsFrameOf d halves h frame → IsFrameOf d halves h later
turned_frame d halves h frame later a b p q is =
    record {
      e = ap vector a ∙ is.e;
      g = ap vector b ∙ is.g;
      norm =
          ap (λ (n : ℤ). quad n (pos 0)) p
          ∙ ap (quad_ops d).neg is.norm
          ∙ identity (quad_ops d) (quad_ring d) (det (quad_ops d) (vector frame.e) (vector frame.g) ∷ frame.conjugate ∷ []) (expr.neg (expr.mul (var 0) (var 1))) (expr.mul (var 0) (expr.neg (var 1))) tt
          ∙ ap₂ (λ (u v : Vec2). (quad_ops d).mul (det (quad_ops d) (vector u) (vector v)) ((quad_ops d).neg frame.conjugate)) (sym a) (sym b)
          ∙ ap ((quad_ops d).mul (det (quad_ops d) (vector later.e) (vector later.g))) (sym q);
    }

-- a frame made of the vectors of a start and of the next half-edge
pub frame_from : (d : ℕ) (halves : List Half) (h : ℕ) (frame : Frame) (e g : Vec2) → e ≡ (half_at halves h).vec → g ≡ (half_at halves (next_of h)).vec → frame.e ≡ e → frame.g ≡ g
    → quad frame.norm (pos 0) ≡ (quad_ops d).mul (det (quad_ops d) (vector e) (vector g)) frame.conjugate → IsFrameOf d halves h frame
frame_from d halves h frame e g is_e is_g a b norm = record {
  e = ap vector (a ∙ is_e);
  g = ap vector (b ∙ is_g);
  norm = norm ∙ ap₂ (λ (x y : Vec2). (quad_ops d).mul (det (quad_ops d) (vector x) (vector y)) frame.conjugate) (sym a) (sym b);
}
