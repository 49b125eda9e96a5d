-- Each start has a least scale, and so a serial; each triangulation has a code.
use Rattle.std.proofs.Common.{◌≡◌, ℕ, zero, suc, ◌*◌, ◌/◌, ◌<◌, ◌≤◌, List, [], ◌∷◌, length, refl, sym, ap, ◌∙◌, subst, inl, inr, arith}
use Rattle.std.specs.Prelude.{ℤ, pos, ◌*ℤ◌, unsigned_abs, ◌⊎◌}
use Prim.Native.Nat.{◌∣◌}
use native.Mathlib.Nat.{dvd-mul_left, dvd-mul_right}
use native.Mathlib.Decide.{dec_dvd}
use Rattle.std.specs.Int.RustNames.{int_div}
use Rattle.std.proofs.lemmas.Bool.{cases_eq, cases_lt}
use Rattle.std.proofs.lemmas.Int.{unsigned_abs-mul}
use Rattle.std.proofs.Math.Nat.{mul_comm}
use Rattle.rings.specs.Ring.{Ops, var, expr}
use Rattle.rings.proofs.Solver.{identity}
use Rattle.rings.proofs.Ordered.{cancel_factor}
use Rattle.quad_field.specs.declared.quad.Quad.{Quad}
use Rattle.quad_field.specs.FieldNumber.{IsFieldNumber}
use Rattle.quad_field.specs.Quads.{quad, quad_ops, scaled, IsPositive}
use Rattle.quad_field.proofs.CallerLemmas.{quad_ring, order_of, scaled_is, natural_positive, has_whole, exact_quotient}
use Rattle.plane.specs.Vectors.{Vector, det}
use Rattle.tri_core.specs.declared.half.Half.{Half}
use Rattle.tri_core.specs.HalfEdges.{vector_at, twin_at, next_of}
use Rattle.tri_core.specs.Triangulation.{IsTriangulation}
use Rattle.canon_code.specs.Serials.{IsWrittenAt, IsScale, IsLeastScale, rows, IsSerial}
use Rattle.rings.proofs.Pigeonhole.{Decided, First, first_below}
use Rattle.canon_code.proofs.Serials.{turn_at}
use Rattle.quad_field.specs.Multiples.{HasWhole}
use Rattle.canon_code.proofs.Exists.{some_numbering}

-- a fact that is decided at each number is decided of all below a bound
pub all_decided : (P : ℕ → Type 0) → Decided P → (n : ℕ) → ((k : ℕ) → k < n → P k) ⊎ ¬ ((k : ℕ) → k < n → P k)
all_decided P decide zero = inl (λ k less. absurd (omega arith))
all_decided P decide (suc n) = go (all_decided P decide n) (decide n)
  where
    go : ((k : ℕ) → k < n → P k) ⊎ ¬ ((k : ℕ) → k < n → P k) → P n ⊎ ¬ (P n) → ((k : ℕ) → k < suc n → P k) ⊎ ¬ ((k : ℕ) → k < suc n → P k)
    go (inl all) (inl last) = inl (λ k less. elim (cases_eq k n) [ inl e ↦ subst P (sym e) last | inr ne ↦ all k (omega (arith, less, ne)) ])
    go (inl all) (inr never) = inr (λ h. never (h n (omega arith)))
    go (inr never) _ = inr (λ h. never (λ k less. h k (omega (arith, less))))

module _ (d : ℕ) (field : IsFieldNumber d) (halves : List Half) (h : ℕ) (valid : IsTriangulation d halves) (below : h < length halves) where
  abbrev O : Ops Quad
  O = quad_ops d

  abbrev e : Vector Quad
  e = vector_at halves h

  abbrev g : Vector Quad
  g = vector_at halves (next_of h)

  turn : IsPositive d (det (quad_ops d) (vector_at halves h) (vector_at halves (next_of h)))
  turn = turn_at d field halves h valid below

  w : HasWhole d (det (quad_ops d) (vector_at halves h) (vector_at halves (next_of h)))
  w = has_whole d field (det (quad_ops d) (vector_at halves h) (vector_at halves (next_of h))) turn

  -- y with δ·y = n·x is there exactly where b·y = n·(u·x)
  with_multiplier : (n : ℕ) (x y : Quad) → O.mul (det O e g) y ≡ O.mul (O.int (pos n)) x → scaled (pos w.whole) y ≡ scaled (pos n) (O.mul w.multiplier x)
  with_multiplier n x y k =
      scaled_is d (pos w.whole) y ∙ ap (λ z. O.mul z y) (sym w.multiple)
      ∙ identity O (quad_ring d) (det O e g ∷ w.multiplier ∷ y ∷ []) (expr.mul (expr.mul (var 0) (var 1)) (var 2)) (expr.mul (var 1) (expr.mul (var 0) (var 2))) tt
      ∙ ap (O.mul w.multiplier) k
      ∙ identity O (quad_ring d) (w.multiplier ∷ O.int (pos n) ∷ x ∷ []) (expr.mul (var 0) (expr.mul (var 1) (var 2))) (expr.mul (var 1) (expr.mul (var 0) (var 2))) tt
      ∙ sym (scaled_is d (pos n) (O.mul w.multiplier x))

  multiplier_some : ¬ (w.multiplier ≡ O.int (pos 0))
  multiplier_some z =
      (order_of d field).zero_is_not
      (subst (IsPositive d) (sym w.multiple ∙ ap (O.mul (det O e g)) z ∙ identity O (quad_ring d) (det O e g ∷ []) (expr.mul (var 0) (expr.int (pos 0))) (expr.int (pos 0)) tt)
      (natural_positive d w.whole w.positive))

  without_multiplier : (n : ℕ) (x y : Quad) → scaled (pos w.whole) y ≡ scaled (pos n) (O.mul w.multiplier x) → O.mul (det O e g) y ≡ O.mul (O.int (pos n)) x
  without_multiplier n x y k =
      cancel_factor O (quad_ring d) (order_of d field) w.multiplier (O.mul (det O e g) y) (O.mul (O.int (pos n)) x) multiplier_some
      (identity O (quad_ring d) (det O e g ∷ w.multiplier ∷ y ∷ []) (expr.mul (var 1) (expr.mul (var 0) (var 2))) (expr.mul (expr.mul (var 0) (var 1)) (var 2)) tt
      ∙ ap (λ z. O.mul z y) w.multiple ∙ sym (scaled_is d (pos w.whole) y) ∙ k ∙ scaled_is d (pos n) (O.mul w.multiplier x)
      ∙ identity O (quad_ring d) (w.multiplier ∷ O.int (pos n) ∷ x ∷ []) (expr.mul (var 1) (expr.mul (var 0) (var 2))) (expr.mul (var 0) (expr.mul (var 1) (var 2))) tt)

  -- the parts of n·u·x have the divisor b
  abbrev Divides : ℕ → Quad → Type 0
  Divides n x = (w.whole ∣ (n * unsigned_abs (O.mul w.multiplier x).a)) × (w.whole ∣ (n * unsigned_abs (O.mul w.multiplier x).b))

  divides_from : (n : ℕ) (x y : Quad) → O.mul (det O e g) y ≡ O.mul (O.int (pos n)) x → Divides n x
  divides_from n x y k = let q = with_multiplier n x y k in (part y.a (O.mul w.multiplier x).a (ap (λ (z : Quad). z.a) q), part y.b (O.mul w.multiplier x).b (ap (λ (z : Quad). z.b) q))
    where
      part : (p q : ℤ) → p *ℤ pos w.whole ≡ q *ℤ pos n → w.whole ∣ (n * unsigned_abs q)
      part p q k =
          let sizes : unsigned_abs p * w.whole ≡ unsigned_abs q * n = sym (unsigned_abs-mul p (pos w.whole)) ∙ ap unsigned_abs k ∙ unsigned_abs-mul q (pos n) in
          subst (λ z. w.whole ∣ z) (sizes ∙ mul_comm (unsigned_abs q) n) (dvd-mul_left w.whole (unsigned_abs p))

  from_divides : (n : ℕ) (x : Quad) → Divides n x → (y : Quad) × (O.mul (det O e g) y ≡ O.mul (O.int (pos n)) x)
  from_divides n x k =
      let z : Quad = O.mul w.multiplier x in
      let y : Quad = quad (int_div (z.a *ℤ pos n) (pos w.whole)) (int_div (z.b *ℤ pos n) (pos w.whole)) in
      (y, without_multiplier n x y (λ i. quad (sym (part z.a k.0) i) (sym (part z.b k.1) i)))
    where
      part : (q : ℤ) → w.whole ∣ (n * unsigned_abs q) → q *ℤ pos n ≡ int_div (q *ℤ pos n) (pos w.whole) *ℤ pos w.whole
      part q h = exact_quotient (q *ℤ pos n) (pos w.whole) (subst (λ z. w.whole ∣ z) (mul_comm n (unsigned_abs q) ∙ sym (unsigned_abs-mul q (pos n))) h)

  abbrev Both : ℕ → ℕ → Type 0
  Both n k = Divides n (det O (vector_at halves k) g) × Divides n (det O e (vector_at halves k))

  decide_dvd : (a b : ℕ) → (a ∣ b) ⊎ ¬ (a ∣ b)
  decide_dvd a b = elim (dec_dvd a b) [ yes p ↦ inl p | no q ↦ inr q ]

  decide_both : (n k : ℕ) → Both n k ⊎ ¬ (Both n k)
  decide_both n k =
      let x : Quad = O.mul w.multiplier (det O (vector_at halves k) g) in
      let y : Quad = O.mul w.multiplier (det O e (vector_at halves k)) in
      elim (decide_dvd w.whole (n * unsigned_abs x.a)) [
        | inr never ↦ inr (λ h. never h.0.0)
        | inl a ↦ elim (decide_dvd w.whole (n * unsigned_abs x.b)) [
          | inr never ↦ inr (λ h. never h.0.1)
          | inl b ↦ elim (decide_dvd w.whole (n * unsigned_abs y.a)) [
            | inr never ↦ inr (λ h. never h.1.0)
            | inl c ↦ elim (decide_dvd w.whole (n * unsigned_abs y.b)) [
              | inr never ↦ inr (λ h. never h.1.1)
              | inl f ↦ inl ((a, b), (c, f))
            ]
          ]
        ]
      ]

  scale_from : (n : ℕ) → 0 < n → ((k : ℕ) → k < length halves → Both n k) → IsScale d halves h n
  scale_from n some all = (
    some,
    λ k less.
        let both = all k less in
        let x = from_divides n (det O (vector_at halves k) g) both.0 in
        let y = from_divides n (det O e (vector_at halves k)) both.1 in
        let v : Vector Quad = (x.0, y.0) in (v, (x.1, y.1)),
  )

  both_from : (n : ℕ) → IsScale d halves h n → (k : ℕ) → k < length halves → Both n k
  both_from n scale k less =
      let v = scale.1 k less in (divides_from n (det O (vector_at halves k) g) v.0.0 v.1.0, divides_from n (det O e (vector_at halves k)) v.0.1 v.1.1)

  decide_scale : (n : ℕ) → IsScale d halves h n ⊎ ¬ (IsScale d halves h n)
  decide_scale zero = inr (λ s. absurd (omega (arith, s.0)))
  decide_scale (suc n) = elim (all_decided (Both (suc n)) (decide_both (suc n)) (length halves)) [
    | inl all ↦ inl (scale_from (suc n) (omega arith) all)
    | inr never ↦ inr (λ s. never (both_from (suc n) s))
  ]

  whole_scale : IsScale d halves h w.whole
  whole_scale = scale_from w.whole w.positive (λ k less. (
    (dvd-mul_right w.whole _, dvd-mul_right w.whole _),
    (dvd-mul_right w.whole _, dvd-mul_right w.whole _),
  ))

  pub some_scale : (m : ℕ) × IsLeastScale d halves h m
  some_scale = go (first_below (IsScale d halves h) decide_scale (suc w.whole))
    where
      go : First (IsScale d halves h) (suc w.whole) ⊎ ((i : ℕ) → i < suc w.whole → ¬ (IsScale d halves h i)) → (m : ℕ) × IsLeastScale d halves h m
      go (inl v) = (v.0, (v.2, λ n s. elim (cases_lt n v.0) [ inl less ↦ absurd (v.3 n less s) | inr more ↦ more ]))
      go (inr none) = absurd (none w.whole (omega arith) whole_scale)

  -- the coordinates of half-edge k, and any others past the end
  abbrev choose : (k m : ℕ) → IsScale d halves h m → (k < length halves) ⊎ (length halves ≤ k) → Vector Quad
  choose k m s (inl less) = (s.1 k less).0
  choose k m s (inr more) = (quad (pos 0) (pos 0), quad (pos 0) (pos 0))

  chosen : (k m : ℕ) → (s : IsScale d halves h m) → k < length halves → (c : (k < length halves) ⊎ (length halves ≤ k)) → IsWrittenAt d halves h m k (choose k m s c)
  chosen k m s inside (inl less) = (s.1 k less).1
  chosen k m s inside (inr more) = absurd (omega (arith, inside, more))

  -- each start has a serial
  pub some_serial : (serial : List ℤ) × IsSerial d halves h serial
  some_serial =
      let p = some_numbering d halves h valid below in
      let m = some_scale in
      let written : ℕ → Vector Quad = λ k. choose (p.0 k) m.0 m.1.0 (cases_lt (p.0 k) (length halves)) in (
        pos (length halves / 3) ∷ pos m.0 ∷ rows written (λ k. p.1 (twin_at halves (p.0 k))) (length halves / 3),
        record {
          place = p.0;
          number = p.1;
          scale = m.0;
          written = written;
          numbering = p.2;
          least = m.1;
          vectors = λ k less. chosen (p.0 k) m.0 m.1.0 (p.2.each_once.forth_inside k less) (cases_lt (p.0 k) (length halves));
          numbers = refl;
        },
      )
