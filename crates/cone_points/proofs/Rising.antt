-- Which half-edges rise, and that one does at each vertex.
use Rattle.std.proofs.Common.{◌≡◌, ℕ, zero, suc, ◌+◌, ◌*◌, ◌/◌, ◌%◌, ◌<◌, Bool, true, false, not, List, length, get_or, subst, sym, ap, ◌∙◌, refl, arith}
use Rattle.std.specs.Prelude.{◌⊎◌, ◌↔◌, IsTrue}
use mathlib.Core.Logic.{inl, inr}
use Rattle.std.proofs.lemmas.Bool.{cases_Bool, and_parts, and_from, not_from_false}
use Rattle.quad_field.specs.Quads.{quad_ops, IsPositive}
use Rattle.quad_field.specs.FieldNumber.{IsFieldNumber}
use Rattle.quad_field.proofs.CallerLemmas.{quad_ring, quad_order}
use Rattle.rings.specs.Ring.{IsRing}
use Rattle.rings.specs.Order.{IsOrdered}
use Rattle.plane.specs.Vectors.{det, opposite_vector}
use Rattle.tri_core.specs.declared.half.Half.{Half}
use Rattle.tri_core.specs.HalfEdges.{vector_at, twin_at, previous_of}
use Rattle.tri_core.specs.Triangulation.{IsTriangulation, IsTriangle}
use Rattle.cone_points.specs.Vertices.{turned, turned_often, Rises}
use Rattle.plane.specs.Halves.{IsUpper}
use Rattle.cone_points.specs.Walks.{TellsUpper, rises_by}
use Rattle.rings.proofs.Turning.{upper_once, upper_decided}
use Rattle.cone_points.proofs.Directions.{no_upper_round, no_lower_round, lower_of, not_all_upper, not_all_lower, first_corner, second_corner, third_corner}
use Rattle.cone_points.proofs.Rounds.{often_sum, triangles, previous_inside, turned_inside, often_inside, returns_to}
use Rattle.cone_points.proofs.Numbers.{clash}

-- what isn't true is false
pub false_of : (b : Bool) → ¬ (b ≡ true) → b ≡ false
false_of true h = absurd (h refl)
false_of false h = refl

module _ (d : ℕ) (halves : List Half) (valid : IsTriangulation d halves) (number : IsFieldNumber d) where
  ring : IsRing (quad_ops d)
  ring = quad_ring d

  order : IsOrdered (quad_ops d) (IsPositive d)
  order = quad_order d number.2 number.0

  -- from each half-edge the opposite of the one before it turns to the left
  left_of_previous : (h : ℕ) → h < length halves → IsPositive d (det (quad_ops d) (vector_at halves h) (opposite_vector (quad_ops d) (vector_at halves (previous_of h))))
  left_of_previous h l = go (h % 3) refl
    where
      is : IsTriangle halves (h / 3)
      is = omega (arith, l)

      Left : ℕ → ℕ → Type 0
      Left a b = IsPositive d (det (quad_ops d) (vector_at halves a) (opposite_vector (quad_ops d) (vector_at halves b)))

      moved : (a b : ℕ) → a ≡ h → b ≡ previous_of h → Left a b → IsPositive d (det (quad_ops d) (vector_at halves h) (opposite_vector (quad_ops d) (vector_at halves (previous_of h))))
      moved a b e f p = subst (λ x. Left h x) f (subst (λ x. Left x b) e p)

      go : (k : ℕ) → k ≡ h % 3 → IsPositive d (det (quad_ops d) (vector_at halves h) (opposite_vector (quad_ops d) (vector_at halves (previous_of h))))
      go zero e = moved (3 * (h / 3)) (3 * (h / 3) + 2) (omega (arith, e)) (omega (arith, e))
          (first_corner (quad_ops d) ring order (vector_at halves (3 * (h / 3))) (vector_at halves (3 * (h / 3) + 1)) (vector_at halves (3 * (h / 3) + 2)) (valid.closed (h / 3) is) (valid.turns (h / 3) is))
      go (suc zero) e = moved (3 * (h / 3) + 1) (3 * (h / 3)) (omega (arith, e)) (omega (arith, e))
          (second_corner (quad_ops d) ring order (vector_at halves (3 * (h / 3))) (vector_at halves (3 * (h / 3) + 1)) (vector_at halves (3 * (h / 3) + 2)) (valid.closed (h / 3) is) (valid.turns (h / 3) is))
      go (suc (suc zero)) e = moved (3 * (h / 3) + 2) (3 * (h / 3) + 1) (omega (arith, e)) (omega (arith, e))
          (third_corner (quad_ops d) ring order (vector_at halves (3 * (h / 3))) (vector_at halves (3 * (h / 3) + 1)) (vector_at halves (3 * (h / 3) + 2)) (valid.closed (h / 3) is) (valid.turns (h / 3) is))
      go (suc (suc (suc k))) e = absurd (omega (arith, e))

  -- the next half-edge has the opposite vector
  vector_turned : (h : ℕ) → h < length halves → vector_at halves (turned halves h) ≡ opposite_vector (quad_ops d) (vector_at halves (previous_of h))
  vector_turned h l = (valid.paired (previous_of h) (previous_inside d halves valid h l)).2

  -- it turns to the left
  pub left : (h : ℕ) → h < length halves → IsPositive d (det (quad_ops d) (vector_at halves h) (vector_at halves (turned halves h)))
  left h l = subst (λ v. IsPositive d (det (quad_ops d) (vector_at halves h) v)) (sym (vector_turned h l)) (left_of_previous h l)

  lower_at : (h : ℕ) → h < length halves → ¬ (IsUpper d (vector_at halves h)) → IsUpper d (opposite_vector (quad_ops d) (vector_at halves h))
  lower_at h l low = lower_of (quad_ops d) ring order (vector_at halves h) (vector_at halves (turned halves h)) (left h l) low

  -- ---- a rise at each vertex
  -- no half-edge that starts where h starts rises
  abbrev NeverRises : ℕ → Type 0
  NeverRises h = (j : ℕ) → ¬ (Rises d halves (turned_often halves j h))

  stays_lower : (h : ℕ) → NeverRises h → ¬ (IsUpper d (vector_at halves h)) → (j : ℕ) → ¬ (IsUpper d (vector_at halves (turned_often halves j h)))
  stays_lower h never low zero = low
  stays_lower h never low (suc j) = λ up. never j (stays_lower h never low j, up)

  not_lower : (h : ℕ) → h < length halves → NeverRises h → ¬ (¬ (IsUpper d (vector_at halves h)))
  not_lower h l never low =
      let r = returns_to d halves valid h l in
      no_lower_round (quad_ops d) ring order (λ j. vector_at halves (turned_often halves j h))
      (λ j. lower_at (turned_often halves j h) (often_inside d halves valid j h l) (stays_lower h never low j))
      (λ j. left (turned_often halves j h) (often_inside d halves valid j h l)) r.0 (ap (vector_at halves) r.1)

  never_later : (h j : ℕ) → NeverRises h → NeverRises (turned_often halves j h)
  never_later h j never i = subst (λ x. ¬ (Rises d halves x)) (often_sum halves i j h) (never (i + j))

  stays_upper : (h : ℕ) → h < length halves → NeverRises h → (j : ℕ) → IsUpper d (vector_at halves (turned_often halves j h))
  stays_upper h l never j =
      elim (upper_decided (quad_ops d) ring order (vector_at halves (turned_often halves j h))) [
        | inl up ↦ up
        | inr low ↦ absurd (not_lower (turned_often halves j h) (often_inside d halves valid j h l) (never_later h j never) low)
      ]

  -- going round from any half-edge, one rises
  pub not_never : (h : ℕ) → h < length halves → ¬ ((j : ℕ) → ¬ (Rises d halves (turned_often halves j h)))
  not_never h l never =
      let r = returns_to d halves valid h l in
      no_upper_round (quad_ops d) ring order (λ j. vector_at halves (turned_often halves j h))
      (stays_upper h l never)
      (λ j. left (turned_often halves j h) (often_inside d halves valid j h l)) r.0 (ap (vector_at halves) r.1)

  -- ---- by the list that tells of the upper half
  module _ (uppers : List Bool) (tells : TellsUpper d halves uppers) where
    abbrev up : ℕ → Bool
    up k = get_or uppers k false

    -- opposite vectors are in different halves
    up_opposite : (k m : ℕ) → k < length halves → m < length halves → vector_at halves m ≡ opposite_vector (quad_ops d) (vector_at halves k) → up m ≡ not (up k)
    up_opposite k m lk lm e = go (cases_Bool (up k))
      where
        go : (up k ≡ true) ⊎ (up k ≡ false) → up m ≡ not (up k)
        go (inl t) = false_of (up m) (λ s. upper_once (quad_ops d) ring order (vector_at halves k) ((tells.tells k lk).0 t) (subst (IsUpper d) e ((tells.tells m lm).0 s))) ∙ sym (ap not t)
        go (inr f) = (tells.tells m lm).1 (subst (IsUpper d) (sym e) (lower_at k lk (λ u. clash (sym ((tells.tells k lk).1 u) ∙ f)))) ∙ sym (ap not f)

    pub up_turned : (h : ℕ) → h < length halves → up (turned halves h) ≡ not (up (previous_of h))
    up_turned h l = up_opposite (previous_of h) (turned halves h) (previous_inside d halves valid h l) (turned_inside d halves valid h l) (vector_turned h l)

    pub up_twin : (h : ℕ) → h < length halves → up (twin_at halves h) ≡ not (up h)
    up_twin h l = up_opposite h (twin_at halves h) l (valid.paired h l).0 (valid.paired h l).2

    -- the sides of a triangle are not all upper
    pub not_all_up : (t : ℕ) → IsTriangle halves t → ¬ ((up (3 * t) ≡ true) × (up (3 * t + 1) ≡ true) × (up (3 * t + 2) ≡ true))
    not_all_up t l h =
        let n = triangles d halves valid in
        not_all_upper (quad_ops d) ring order (vector_at halves (3 * t)) (vector_at halves (3 * t + 1)) (vector_at halves (3 * t + 2)) (valid.closed t l)
        ((tells.tells (3 * t) l).0 h.0) ((tells.tells (3 * t + 1) (omega (arith, l, n.1))).0 h.1) ((tells.tells (3 * t + 2) (omega (arith, l, n.1))).0 h.2)

    -- nor all lower
    pub not_all_down : (t : ℕ) → IsTriangle halves t → ¬ ((up (3 * t) ≡ false) × (up (3 * t + 1) ≡ false) × (up (3 * t + 2) ≡ false))
    not_all_down t l h =
        let n = triangles d halves valid in
        let low : (k : ℕ) → k < length halves → up k ≡ false → IsUpper d (opposite_vector (quad_ops d) (vector_at halves k)) =
        (λ k lk f. lower_at k lk (λ u. clash (sym ((tells.tells k lk).1 u) ∙ f))) in
        not_all_lower (quad_ops d) ring order (vector_at halves (3 * t)) (vector_at halves (3 * t + 1)) (vector_at halves (3 * t + 2)) (valid.closed t l)
        (low (3 * t) l h.0) (low (3 * t + 1) (omega (arith, l, n.1)) h.1) (low (3 * t + 2) (omega (arith, l, n.1)) h.2)

    -- the list tells which half-edges rise
    pub rises_told : (h : ℕ) → h < length halves → IsTrue (rises_by halves uppers h) ↔ Rises d halves h
    rises_told h l = (
      λ t.
          let p = and_parts (not (up h)) (up (turned halves h)) t in
          (λ u. clash (sym p.0 ∙ ap not ((tells.tells h l).1 u)), (tells.tells (turned halves h) (turned_inside d halves valid h l)).0 p.1),
      λ r.
          and_from (not (up h)) (up (turned halves h)) (not_from_false (up h) (false_of (up h) (λ t. r.0 ((tells.tells h l).0 t))))
          ((tells.tells (turned halves h) (turned_inside d halves valid h l)).1 r.1),
    )
