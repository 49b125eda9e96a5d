-- The least scale: what is left over one denominator after all that is common was cancelled.
use Rattle.std.proofs.Common.{◌≡◌, ℕ, zero, suc, ◌+◌, ◌*◌, ◌-◌, ◌/◌, ◌<◌, ◌≤◌, List, [], ◌∷◌, length, get_or, refl, sym, ap, ◌∙◌, subst, inl, inr, arith}
use Rattle.std.specs.Prelude.{ℤ, pos, ◌*ℤ◌, ◌<ℤ◌, map, unsigned_abs, ◌⊎◌}
use mathlib.Core.Path.{ap₂}
use Prim.Native.Nat.{◌∣◌}
use native.Mathlib.Nat.{dvd_refl, dvd-zero, dvd-add, dvd-sub, dvd-mul_left, dvd-mul_right, dvd_of_mul-dvd-mul_left, le_of_dvd, mul-div_cancel', pos_of_dvd_of_pos}
use Rattle.std.proofs.Math.Nat.{mul-sub, mul_comm}
use Rattle.std.proofs.lemmas.Bool.{cases_eq, cases_lt}
use Rattle.std.proofs.lemmas.Int.{unsigned_abs-mul}
use Rattle.std.proofs.lemmas.List.{get_or-map, length-map, get_or_default}
use Rattle.rings.specs.Ring.{Ops, var, expr}
use Rattle.rings.proofs.Solver.{identity}
use Rattle.quad_field.specs.declared.quad.Quad.{Quad}
use Rattle.quad_field.specs.FieldNumber.{IsFieldNumber}
use Rattle.quad_field.specs.Quads.{quad_ops, scaled, IsPositive}
use Rattle.quad_field.specs.Content.{DividesParts, DividesAll}
use Rattle.quad_field.proofs.CallerLemmas.{quad_ring, order_of, scaled_is, whole_positive}
use Rattle.plane.specs.Vectors.{Vector, det}
use Rattle.tri_core.specs.declared.half.Half.{Half}
use Rattle.tri_core.specs.HalfEdges.{vector_at, next_of}
use Rattle.tri_core.specs.Triangulation.{IsTriangulation}
use Rattle.canon_code.specs.Serials.{IsWrittenAt, IsScale}
use Rattle.canon_code.specs.Coordinates.{no_quad, pair_at, AreInFrame, AreCoordinates}
use Rattle.rings.proofs.Factors.{cancel_positive}
use Rattle.canon_code.proofs.Serials.{turn_at}

-- a set of numbers with a and b that has differences has a common divisor of them
pub common : (S : ℕ → Type 0) → ((a b : ℕ) → S a → S b → b ≤ a → S (a - b)) → (fuel a b : ℕ) → a + b ≤ fuel → S a → S b → (g : ℕ) × S g × (g ∣ a) × (g ∣ b)
common S less zero a b enough p q = let e : a ≡ b = omega arith in (a, p, dvd_refl a, subst (λ n. a ∣ n) e (dvd_refl a))
common S less (suc fuel) a b enough p q =
    elim (cases_eq b 0) [
      | inl e ↦ (a, p, dvd_refl a, subst (λ n. a ∣ n) (sym e) (dvd-zero a))
      | inr some ↦ elim (cases_eq a 0) [
        | inl e ↦ (b, q, subst (λ n. b ∣ n) (sym e) (dvd-zero b), dvd_refl b)
        | inr more ↦ elim (cases_lt a b) [
          | inl under ↦
              let r = common S less fuel a (b - a) (omega arith) p (less b a q p (omega arith)) in
              let e : b - a + a ≡ b = omega arith in (r.0, r.1, r.2, subst (λ n. r.0 ∣ n) e (dvd-add r.0 r.3 r.2))
          | inr over ↦
              let r = common S less fuel (a - b) b (omega arith) (less a b p q over) q in
              let e : a - b + b ≡ a = omega arith in (r.0, r.1, subst (λ n. r.0 ∣ n) e (dvd-add r.0 r.2 r.3), r.3)
        ]
      ]
    ]

-- m divides n where it divides n times each of some numbers with which it has nothing in common
pub divides_number : (m n : ℕ) (C : ℕ → Type 0) → 0 < m → ((c : ℕ) → C c → m ∣ (n * c)) → ((k : ℕ) → ((c : ℕ) → C c → k ∣ c) → k ∣ m → k ≡ 1) → m ∣ n
divides_number m n C some all alone =
    let S : ℕ → Type 0 = λ k. (c : ℕ) → C c → m ∣ (k * c) in
    let r = common S (λ a b p q le c h. subst (λ x. m ∣ x) (sym (minus a b c)) (dvd-sub m (p c h) (q c h))) (m + n) m n (omega arith) (λ c h. dvd-mul_right m c) all in
    let g : ℕ = r.0 in
    let positive : 0 < g = pos_of_dvd_of_pos r.2 some in
    let e : g * (m / g) ≡ m = mul-div_cancel' g r.2 in
    let one : m / g ≡ 1 =
    alone (m / g) (λ c h. dvd_of_mul-dvd-mul_left (m / g) positive (subst (λ x. x ∣ (g * c)) (sym e) (r.1 c h)))
    (subst (λ x. (m / g) ∣ x) e (dvd-mul_left (m / g) g)) in
    let same : g ≡ m = sym (ap (λ x. g * x) one ∙ times_one g) ∙ e in
    subst (λ x. x ∣ n) same r.3
  where
    minus : (a b c : ℕ) → (a - b) * c ≡ a * c - b * c
    minus a b c = mul_comm (a - b) c ∙ mul-sub c a b ∙ ap₂ ◌-◌ (mul_comm c a) (mul_comm c b)

    times_one : (g : ℕ) → g * 1 ≡ g
    times_one g = omega arith

module _ (d : ℕ) (field : IsFieldNumber d) (halves : List Half) (h : ℕ) (valid : IsTriangulation d halves) (below : h < length halves)
    (u : Quad) (b m : ℕ) (g : ℤ) (list rest : List Quad)
    (whole : (quad_ops d).mul (det (quad_ops d) (vector_at halves h) (vector_at halves (next_of h))) u ≡ (quad_ops d).int (pos b))
    (frame : AreInFrame d halves h u list)
    (some : 0 < m) (positive : pos 0 <ℤ g) (numbers : list ≡ map (scaled g) rest) (number : pos b ≡ pos m *ℤ g)
    (alone : (k : ℕ) → DividesAll k rest → k ∣ m → k ≡ 1) where
  abbrev O : Ops Quad
  O = quad_ops d

  abbrev e : Vector Quad
  e = vector_at halves h

  abbrev f : Vector Quad
  f = vector_at halves (next_of h)

  turn : IsPositive d (det (quad_ops d) (vector_at halves h) (vector_at halves (next_of h)))
  turn = turn_at d field halves h valid below

  long : length rest ≡ 2 * length halves
  long = sym (length-map rest (scaled g)) ∙ ap length (sym numbers) ∙ frame.as_many

  -- a number of the list is g times that of the rest
  times_g : (i : ℕ) → i < length rest → get_or list i no_quad ≡ (quad_ops d).mul ((quad_ops d).int g) (get_or rest i no_quad)
  times_g i less = ap (λ l. get_or l i no_quad) numbers ∙ get_or-map (scaled g) rest i no_quad no_quad less ∙ scaled_is d g (get_or rest i no_quad)

  -- δ·y = m·x where x·u = g·y
  part : (x y z : Quad) → z ≡ (quad_ops d).mul x u → z ≡ (quad_ops d).mul ((quad_ops d).int g) y
      → (quad_ops d).mul (det (quad_ops d) (vector_at halves h) (vector_at halves (next_of h))) y ≡ (quad_ops d).mul ((quad_ops d).int (pos m)) x
  part x y z p q =
      cancel_positive O (quad_ring d) (order_of d field) (O.int g) (O.mul (det O e f) y) (O.mul (O.int (pos m)) x) (whole_positive d g positive)
      (identity O (quad_ring d) (O.int g ∷ det O e f ∷ y ∷ []) (expr.mul (var 0) (expr.mul (var 1) (var 2))) (expr.mul (var 1) (expr.mul (var 0) (var 2))) tt
      ∙ ap (O.mul (det O e f)) (sym q ∙ p)
      ∙ identity O (quad_ring d) (det O e f ∷ x ∷ u ∷ []) (expr.mul (var 0) (expr.mul (var 1) (var 2))) (expr.mul (expr.mul (var 0) (var 2)) (var 1)) tt
      ∙ ap (λ w. O.mul w x) (whole ∙ ap O.int number ∙ (quad_ring d).int-mul (pos m) g)
      ∙ identity O (quad_ring d) (O.int (pos m) ∷ O.int g ∷ x ∷ []) (expr.mul (expr.mul (var 0) (var 1)) (var 2)) (expr.mul (var 1) (expr.mul (var 0) (var 2))) tt)

  written : (k : ℕ) → k < length halves → IsWrittenAt d halves h m k (pair_at rest k)
  written k less = (
    part (det O (vector_at halves k) f) (get_or rest (2 * k) no_quad) (get_or list (2 * k) no_quad) (ap (λ (v : Vector Quad). v.0) (frame.pairs k less)) (times_g (2 * k) (omega (arith, long))),
    part (det O e (vector_at halves k)) (get_or rest (2 * k + 1) no_quad) (get_or list (2 * k + 1) no_quad) (ap (λ (v : Vector Quad). v.1) (frame.pairs k less)) (times_g (2 * k + 1) (omega (arith, long))),
  )

  -- n·y = m·w where δ·y = m·x and δ·w = n·x
  crossed : (n : ℕ) (x y w : Quad) → O.mul (det O e f) y ≡ O.mul (O.int (pos m)) x → O.mul (det O e f) w ≡ O.mul (O.int (pos n)) x → scaled (pos n) y ≡ scaled (pos m) w
  crossed n x y w p q =
      scaled_is d (pos n) y
      ∙ cancel_positive O (quad_ring d) (order_of d field) (det O e f) (O.mul (O.int (pos n)) y) (O.mul (O.int (pos m)) w) turn
      (identity O (quad_ring d) (det O e f ∷ O.int (pos n) ∷ y ∷ []) (expr.mul (var 0) (expr.mul (var 1) (var 2))) (expr.mul (var 1) (expr.mul (var 0) (var 2))) tt
      ∙ ap (O.mul (O.int (pos n))) p
      ∙ identity O (quad_ring d) (O.int (pos n) ∷ O.int (pos m) ∷ x ∷ []) (expr.mul (var 0) (expr.mul (var 1) (var 2))) (expr.mul (var 1) (expr.mul (var 0) (var 2))) tt
      ∙ ap (O.mul (O.int (pos m))) (sym q)
      ∙ identity O (quad_ring d) (O.int (pos m) ∷ det O e f ∷ w ∷ []) (expr.mul (var 0) (expr.mul (var 1) (var 2))) (expr.mul (var 1) (expr.mul (var 0) (var 2))) tt)
      ∙ sym (scaled_is d (pos m) w)

  -- so m divides n times each part of y
  part_divides : (n : ℕ) (p q : ℤ) → p *ℤ pos n ≡ q *ℤ pos m → m ∣ (n * unsigned_abs p)
  part_divides n p q k =
      let sizes : unsigned_abs p * n ≡ unsigned_abs q * m = sym (unsigned_abs-mul p (pos n)) ∙ ap unsigned_abs k ∙ unsigned_abs-mul q (pos m) in
      subst (λ x. m ∣ x) (sym (mul_comm n (unsigned_abs p) ∙ sizes)) (dvd-mul_left m (unsigned_abs q))

  divides_pair : (n : ℕ) (x y w : Quad) → O.mul (det O e f) y ≡ O.mul (O.int (pos m)) x → O.mul (det O e f) w ≡ O.mul (O.int (pos n)) x → (m ∣ (n * unsigned_abs y.a)) × (m ∣ (n * unsigned_abs y.b))
  divides_pair n x y w p q = let k = crossed n x y w p q in (part_divides n y.a w.a (ap (λ (z : Quad). z.a) k), part_divides n y.b w.b (ap (λ (z : Quad). z.b) k))

  -- the parts of the numbers
  abbrev IsPart : ℕ → Type 0
  IsPart c = (i : ℕ) × (i < length rest) × ((c ≡ unsigned_abs (get_or rest i no_quad).a) ⊎ (c ≡ unsigned_abs (get_or rest i no_quad).b))

  all_parts : (n : ℕ) → IsScale d halves h n → (i : ℕ) → i < length rest → (m ∣ (n * unsigned_abs (get_or rest i no_quad).a)) × (m ∣ (n * unsigned_abs (get_or rest i no_quad).b))
  all_parts n scale i less =
      let k : ℕ = i / 2 in
      let inside : k < length halves = omega (arith, long) in
      let w = scale.1 k inside in
      let y = written k inside in
      elim (cases_eq i (2 * k)) [
        | inl same ↦
            subst (λ j. (m ∣ (n * unsigned_abs (get_or rest j no_quad).a)) × (m ∣ (n * unsigned_abs (get_or rest j no_quad).b))) (sym same)
            (divides_pair n (det O (vector_at halves k) f) (get_or rest (2 * k) no_quad) w.0.0 y.0 w.1.0)
        | inr other ↦
            let same : 2 * k + 1 ≡ i = omega arith in
            subst (λ j. (m ∣ (n * unsigned_abs (get_or rest j no_quad).a)) × (m ∣ (n * unsigned_abs (get_or rest j no_quad).b))) same
            (divides_pair n (det O e (vector_at halves k)) (get_or rest (2 * k + 1) no_quad) w.0.1 y.1 w.1.1)
      ]

  pub coordinates : AreCoordinates d halves h m rest
  coordinates = record {
    as_many = long;
    least = (
      (some, λ k less. (pair_at rest k, written k less)),
      λ n scale.
          le_of_dvd scale.0
          (divides_number m n IsPart some
          (λ c p. elim p.2 [
            | inl same ↦ subst (λ x. m ∣ (n * x)) (sym same) (all_parts n scale p.0 p.1).0
            | inr same ↦ subst (λ x. m ∣ (n * x)) (sym same) (all_parts n scale p.0 p.1).1
          ])
          (λ k all. alone k (λ i z less. subst (DividesParts k) (get_or_default rest i no_quad z less) (all (unsigned_abs (get_or rest i no_quad).a) (i, less, inl refl), all (unsigned_abs (get_or rest i no_quad).b) (i, less, inr refl))))),
    );
    written = written;
  }
