-- The coordinates of a start, from the numbers of its frame.
use Rattle.std.proofs.Common.{◌≡◌, ℕ, ◌+◌, ◌*◌, ◌/◌, ◌<◌, List, [], ◌∷◌, length, get_or, refl, sym, ap, ◌∙◌, subst, inl, inr, arith}
use mathlib.Core.Path.{ap₂}
use Rattle.std.specs.Prelude.{ℤ, pos, negsuc, neg_ℤ, ◌*ℤ◌, ◌<ℤ◌, unsigned_abs, ◌⊎◌, slice_get, Some}
use Rattle.std.proofs.lemmas.Bool.{cases_eq}
use Rattle.std.proofs.lemmas.Int.{ints}
use Rattle.std.proofs.lemmas.Option.{get_or_from_slice_get}
use Rattle.rings.specs.Ring.{var, expr}
use Rattle.rings.proofs.Solver.{identity}
use Rattle.quad_field.specs.declared.quad.Quad.{Quad}
use Rattle.quad_field.specs.FieldNumber.{IsFieldNumber}
use Rattle.quad_field.specs.Quads.{quad, quad_ops, conjugate_of, IsPositive}
use Rattle.quad_field.specs.Width.{Term, product, number, conjugate, term_ops, value_of, product_steps, AllFit, FitsI128, StepsFit}
use Rattle.quad_field.proofs.CallerLemmas.{quad_ring, norm_some}
use Rattle.plane.specs.declared.vec2.Vec2.{Vec2}
use Rattle.plane.specs.Vectors.{Vector, vector, vector_term, det}
use Rattle.tri_core.specs.declared.half.Half.{Half}
use Rattle.tri_core.specs.HalfEdges.{half_at, no_half, vector_at, next_of}
use Rattle.tri_core.specs.Triangulation.{IsTriangulation}
use Rattle.canon_code.specs.Coordinates.{no_quad, AreInFrame, AreCoordinates, AreNumbersTo, signed, HasWideNegative, HasWideNumber, IsReduced}
use Rattle.canon_code.specs.FrameWidth.{frame_determinant, frame_norm, first_number, second_number, FrameFits}
use Rattle.canon_code.proofs.Scales.{coordinates}
use Rattle.canon_code.proofs.Serials.{turn_at}

-- a product with the sign of n
signed_product : (d : ℕ) (n : ℤ) (x y : Quad) → signed d n ((quad_ops d).mul x y) ≡ (quad_ops d).mul x (signed d n y)
signed_product d (pos n) x y = refl
signed_product d (negsuc n) x y = identity (quad_ops d) (quad_ring d) (x ∷ y ∷ []) (expr.neg (expr.mul (var 0) (var 1))) (expr.mul (var 0) (expr.neg (var 1))) tt

-- a whole number with its own sign
signed_whole : (d : ℕ) (n : ℤ) → signed d n (quad n (pos 0)) ≡ (quad_ops d).int (pos (unsigned_abs n))
signed_whole d (pos n) = refl
signed_whole d (negsuc n) = refl

module _ (d : ℕ) (field : IsFieldNumber d) (halves : List Half) (h : ℕ) (valid : IsTriangulation d halves) (below : h < length halves)
    (e g : Vec2) (is_e : e ≡ (half_at halves h).vec) (is_g : g ≡ (half_at halves (next_of h)).vec)
    (conj : Quad) (norm : ℤ) (is_conj : conj ≡ conjugate_of (det (quad_ops d) (vector e) (vector g))) (is_norm : quad norm (pos 0) ≡ (quad_ops d).mul (det (quad_ops d) (vector e) (vector g)) conj) where
  same_e : vector e ≡ vector_at halves h
  same_e = ap vector is_e

  same_g : vector g ≡ vector_at halves (next_of h)
  same_g = ap vector is_g

  delta : det (quad_ops d) (vector e) (vector g) ≡ det (quad_ops d) (vector_at halves h) (vector_at halves (next_of h))
  delta = ap₂ (det (quad_ops d)) same_e same_g

  pub norm_positive : pos 0 <ℤ pos (unsigned_abs norm)
  norm_positive =
      let some : 0 < unsigned_abs norm =
      norm_some d field (det (quad_ops d) (vector e) (vector g)) norm (subst (IsPositive d) (sym delta) (turn_at d field halves h valid below))
      (is_norm ∙ ap ((quad_ops d).mul (det (quad_ops d) (vector e) (vector g))) is_conj) in
      omega (arith, ints, some)

  module _ (list rest : List Quad) (last : ℤ) (numbers : AreNumbersTo d halves (vector e) (vector g) conj (length halves) list) (r : IsReduced d norm list last rest) where
    open r use {signs as later, signed_is as signs, cancelled, positive, alone}

    pub last_is : pos (unsigned_abs last) ≡ last
    last_is = own last positive
      where
        own : (n : ℤ) → pos 0 <ℤ n → pos (unsigned_abs n) ≡ n
        own (pos n) p = refl
        own (negsuc n) p = absurd (omega (arith, ints, p))

    some : 0 < unsigned_abs last
    some = own last positive
      where
        own : (n : ℤ) → pos 0 <ℤ n → 0 < unsigned_abs n
        own (pos n) p = omega (arith, ints, p)
        own (negsuc n) p = absurd (omega (arith, ints, p))

    multiplier : Quad
    multiplier = signed d norm conj

    whole : (quad_ops d).mul (det (quad_ops d) (vector_at halves h) (vector_at halves (next_of h))) (signed d norm conj) ≡ (quad_ops d).int (pos (unsigned_abs norm))
    whole =
        ap (λ x. (quad_ops d).mul x (signed d norm conj)) (sym delta)
        ∙ sym (signed_product d norm (det (quad_ops d) (vector e) (vector g)) conj) ∙ ap (signed d norm) (sym is_norm) ∙ signed_whole d norm

    later_at : (i : ℕ) → i < 2 * length halves → get_or later i no_quad ≡ signed d norm (get_or list i no_quad)
    later_at i less = signs.each i (omega (arith, less, numbers.as_many))

    framed : AreInFrame d halves h (signed d norm conj) later
    framed = record {
      as_many = signs.as_many ∙ numbers.as_many;
      pairs = λ k less.
          ap₂ (λ (s t : Quad). let v : Vector Quad = (s, t) in v)
          (later_at (2 * k) (omega arith) ∙ ap (signed d norm) (ap (λ (v : Vector Quad). v.0) (numbers.pairs k less))
          ∙ signed_product d norm (det (quad_ops d) (vector_at halves k) (vector g)) conj
          ∙ ap (λ v. (quad_ops d).mul (det (quad_ops d) (vector_at halves k) v) (signed d norm conj)) same_g)
          (later_at (2 * k + 1) (omega arith) ∙ ap (signed d norm) (ap (λ (v : Vector Quad). v.1) (numbers.pairs k less))
          ∙ signed_product d norm (det (quad_ops d) (vector e) (vector_at halves k)) conj
          ∙ ap (λ v. (quad_ops d).mul (det (quad_ops d) v (vector_at halves k)) (signed d norm conj)) same_e);
    }

    pub are_coordinates : AreCoordinates d halves h (unsigned_abs last) rest
    are_coordinates =
        coordinates d field halves h valid below (signed d norm conj) (unsigned_abs norm) (unsigned_abs last) cancelled.0 later rest whole framed some cancelled.1 cancelled.2
        (cancelled.3 ∙ ap (λ n. n *ℤ cancelled.0) (sym last_is)) alone

  -- ---- width
  conj_value : conj ≡ value_of d (conjugate (frame_determinant halves h))
  conj_value = is_conj ∙ ap conjugate_of delta

  norm_value : quad norm (pos 0) ≡ value_of d (frame_norm halves h)
  norm_value = is_norm ∙ ap₂ (quad_ops d).mul delta conj_value

  -- a product with the conjugate
  number_fits : (t : Term) → StepsFit d (product t (conjugate (frame_determinant halves h))) → StepsFit d (product t (number conj))
  number_fits t fits = (fits.0, tt, subst (λ x. AllFit (product_steps d (value_of d t) x)) (sym conj_value) fits.2)

  pub wide_number : HasWideNumber d halves e g conj → ¬ (FrameFits d halves h)
  wide_number wide fits =
      let n = fits.numbers wide.0 wide.1 in
      wide.2 (
        number_fits (det term_ops (vector_term (half_at halves wide.0).vec) (vector_term g))
            (subst (λ (x : Vec2). StepsFit d (product (det term_ops (vector_term (half_at halves wide.0).vec) (vector_term x)) (conjugate (frame_determinant halves h)))) (sym is_g) n.0),
        number_fits (det term_ops (vector_term e) (vector_term (half_at halves wide.0).vec))
            (subst (λ (x : Vec2). StepsFit d (product (det term_ops (vector_term x) (vector_term (half_at halves wide.0).vec)) (conjugate (frame_determinant halves h)))) (sym is_e) n.1),
      )

  pub wide_negative : (list : List Quad) → AreNumbersTo d halves (vector e) (vector g) conj (length halves) list
      → (norm <ℤ pos 0) × (¬ (FitsI128 (neg_ℤ norm)) ⊎ HasWideNegative d list) → ¬ (FrameFits d halves h)
  wide_negative list numbers wide fits = go wide.1
    where
      below_zero : (value_of d (frame_norm halves h)).a <ℤ pos 0
      below_zero = subst (λ (x : Quad). x.a <ℤ pos 0) norm_value wide.0

      go : ¬ (FitsI128 (neg_ℤ norm)) ⊎ HasWideNegative d list → ⊥
      go (inl never) = never (subst (λ (x : Quad). FitsI128 (neg_ℤ x.a)) (sym norm_value) ((fits.negative below_zero).0.1.0))
      go (inr w) =
          let k : ℕ = w.0 / 2 in
          let inside : k < length halves = omega (arith, w.1, numbers.as_many) in
          let n = (fits.negative below_zero).1 k inside in
          let first : value_of d (first_number halves h k) ≡ get_or list (2 * k) no_quad =
          ap₂ (λ v x. (quad_ops d).mul (det (quad_ops d) (vector_at halves k) v) x) (sym same_g) (sym conj_value) ∙ sym (ap (λ (v : Vector Quad). v.0) (numbers.pairs k inside)) in
          let second : value_of d (second_number halves h k) ≡ get_or list (2 * k + 1) no_quad =
          ap₂ (λ v x. (quad_ops d).mul (det (quad_ops d) v (vector_at halves k)) x) (sym same_e) (sym conj_value) ∙ sym (ap (λ (v : Vector Quad). v.1) (numbers.pairs k inside)) in
          elim (cases_eq w.0 (2 * k)) [
            | inl same ↦ w.2 (tt, subst (λ (x : Quad). FitsI128 (neg_ℤ x.a) × FitsI128 (neg_ℤ x.b)) (first ∙ ap (λ i. get_or list i no_quad) (sym same)) n.0.1)
            | inr other ↦
                let same : w.0 ≡ 2 * k + 1 = omega arith in
                w.2 (tt, subst (λ (x : Quad). FitsI128 (neg_ℤ x.a) × FitsI128 (neg_ℤ x.b)) (second ∙ ap (λ i. get_or list i no_quad) (sym same)) n.1.1)
          ]

-- the half-edge that was read
pub vec_read : (halves : List Half) (h : ℕ) (half : Half) → slice_get halves h ≡ Some half → half.vec ≡ (half_at halves h).vec
vec_read halves h half e = ap (λ (x : Half). x.vec) (sym (get_or_from_slice_get halves h half no_half e))

-- the norm of a start is wide
pub wide_norm : (d : ℕ) (halves : List Half) (h : ℕ) (e g : Vec2) → e ≡ (half_at halves h).vec → g ≡ (half_at halves (next_of h)).vec
    → ¬ (let delta = det term_ops (vector_term e) (vector_term g) in StepsFit d (product delta (conjugate delta))) → ¬ (FrameFits d halves h)
wide_norm d halves h e g is_e is_g wide fits =
    wide
    (subst (λ (x : Vec2). let delta = det term_ops (vector_term x) (vector_term g) in StepsFit d (product delta (conjugate delta))) (sym is_e)
    (subst (λ (y : Vec2). let delta = det term_ops (vector_term (half_at halves h).vec) (vector_term y) in StepsFit d (product delta (conjugate delta))) (sym is_g) fits.norm))
