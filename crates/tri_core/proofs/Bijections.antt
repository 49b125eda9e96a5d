-- Half-edges that are carried to those of a connected triangulation with as many are carried by a bijection.
use Rattle.std.proofs.Common.{◌≡◌, ◌⊎◌, ℕ, zero, suc, ◌<◌, ◌||◌, Bool, false, IsTrue, List, length, cond, eqb, refl, sym, ◌∙◌, ap, subst, arith, inl, inr}
use Rattle.std.specs.Prelude.{pos}
use Rattle.std.proofs.lemmas.Bool.{cases_eq, cases_lt, or_cases, or_left, or_right, eq-eqb, both_ways}
use Rattle.std.proofs.lemmas.Bool.Decides.{eqb_tells}
use Rattle.rings.specs.Vectors.{Vector, multiple_vector}
use Rattle.rings.specs.Matrices.{Matrix}
use Rattle.rings.proofs.Pigeonhole.{First, first_below, repeats, ne-eqb}
use Rattle.quad_field.specs.declared.quad.Quad.{Quad}
use Rattle.quad_field.specs.Quads.{quad_ops}
use Rattle.quad_field.proofs.CallerLemmas.{quad_ring, scaled_is}
use Rattle.plane.specs.Vectors.{scaled_vector}
use Rattle.tri_core.specs.declared.half.Half.{Half}
use Rattle.tri_core.specs.HalfEdges.{vector_at, twin_at, triangle_of, next_of, previous_of}
use Rattle.tri_core.specs.Triangulation.{IsTriangulation, IsTriangle, IsClosedUnderTwins}
use Rattle.tri_core.specs.Images.{AreInverse, IsImage, IsImageBy}
use Rattle.tri_core.specs.Mapped.{AreMapped, AreMultiplied}
use Rattle.tri_core.specs.Walks.{Carries}
use Rattle.tri_core.proofs.Triangles.{next_next, of_one_triangle, next_inside, previous_inside}
use Rattle.tri_core.proofs.Connected.{joined_from}
use Rattle.tri_core.proofs.Quadrilaterals.{vectors_equal}

-- ---- numbers below n that go to all numbers below n
module _ (n : ℕ) (forth : ℕ → ℕ) where
  abbrev Goes : ℕ → ℕ → Type 0
  Goes g k = forth k ≡ g

  chosen : (g : ℕ) → First (Goes g) n ⊎ ((k : ℕ) → k < n → ¬ (Goes g k)) → ℕ
  chosen g (inl w) = w.0
  chosen g (inr none) = 0

  chosen_goes : (g : ℕ) (s : First (Goes g) n ⊎ ((k : ℕ) → k < n → ¬ (Goes g k))) (k : ℕ) → k < n → forth k ≡ g → (chosen g s < n) × (forth (chosen g s) ≡ g)
  unfolding chosen
  chosen_goes g (inl w) k below e = (w.1, w.2)
  chosen_goes g (inr none) k below e = absurd (none k below e)

  -- the first number that goes to g
  pub back_of : ℕ → ℕ
  back_of g = chosen g (first_below (Goes g) (λ k. cases_eq (forth k) g) n)

  module _ (onto : (g : ℕ) → g < n → (k : ℕ) × (k < n) × (forth k ≡ g)) where
    pub back_goes : (g : ℕ) → g < n → (back_of g < n) × (forth (back_of g) ≡ g)
    unfolding back_of
    back_goes g below = let w = onto g below in chosen_goes g (first_below (Goes g) (λ k. cases_eq (forth k) g) n) w.0 w.1 w.2

-- a way back that leaves some number out is none: it would take m + 1 numbers to m
left_out : (m : ℕ) (forth back : ℕ → ℕ) → ((g : ℕ) → g < suc m → (back g < suc m) × (forth (back g) ≡ g)) → (k : ℕ) → k < suc m → ¬ ((g : ℕ) → g < suc m → ¬ (back g ≡ k))
left_out m forth back goes k below never =
    let w = repeats m moved (λ g less. small g less (cases_eq (back g) m)) in
    let less : w.0 < suc m = omega (arith, w.2, w.3) in
    let same : back w.0 ≡ back w.1 = equal w.0 w.1 less w.3 w.4 (cases_eq (back w.0) m) (cases_eq (back w.1) m) in
    let one : w.0 ≡ w.1 = sym (goes w.0 less).1 ∙ ap forth same ∙ (goes w.1 w.3).1 in
    omega (arith, w.2, one)
  where
    -- the number that is left out in place of the greatest
    moved : ℕ → ℕ
    moved g = cond (eqb (back g) m) k (back g)

    moved_top : (g : ℕ) → back g ≡ m → moved g ≡ k
    moved_top g e = ap (λ b. cond b k (back g)) (eq-eqb (back g) m e)

    moved_other : (g : ℕ) → ¬ (back g ≡ m) → moved g ≡ back g
    moved_other g ne = ap (λ b. cond b k (back g)) (ne-eqb (back g) m ne)

    small : (g : ℕ) → g < suc m → (back g ≡ m) ⊎ ¬ (back g ≡ m) → moved g < m
    small g less (inl e) =
        let other : ¬ (k ≡ m) = λ f. never g less (e ∙ sym f) in
        omega (arith, moved_top g e, other)
    small g less (inr ne) = let inside = (goes g less).0 in omega (arith, moved_other g ne)

    equal : (i j : ℕ) → i < suc m → j < suc m → moved i ≡ moved j → (back i ≡ m) ⊎ ¬ (back i ≡ m) → (back j ≡ m) ⊎ ¬ (back j ≡ m) → back i ≡ back j
    equal i j hi hj e (inl p) (inl q) = p ∙ sym q
    equal i j hi hj e (inl p) (inr q) = absurd (never j hj (sym (moved_other j q) ∙ sym e ∙ moved_top i p))
    equal i j hi hj e (inr p) (inl q) = absurd (never i hi (sym (moved_other i p) ∙ e ∙ moved_top j q))
    equal i j hi hj e (inr p) (inr q) = sym (moved_other i p) ∙ e ∙ moved_other j q

back_undone : (n : ℕ) (forth back : ℕ → ℕ) → ((k : ℕ) → k < n → forth k < n) → ((g : ℕ) → g < n → (back g < n) × (forth (back g) ≡ g)) → (k : ℕ) → k < n → back (forth k) ≡ k
back_undone zero forth back inside goes k below = absurd (omega arith)
back_undone (suc m) forth back inside goes k below = elim (cases_eq (back (forth k)) k) [
  | inl e ↦ e
  | inr other ↦ absurd (left_out m forth back goes k below (λ g less e. other (ap back (ap forth (sym e) ∙ (goes g less).1) ∙ e)))
]

-- numbers below n that go to all numbers below n go there by a bijection
pub onto_inverse : (n : ℕ) (forth : ℕ → ℕ) → ((k : ℕ) → k < n → forth k < n) → ((g : ℕ) → g < n → (k : ℕ) × (k < n) × (forth k ≡ g)) → AreInverse n forth (back_of n forth)
onto_inverse n forth inside onto = record {
  forth_inside = inside;
  back_inside = λ g below. (back_goes n forth onto g below).0;
  back_forth = back_undone n forth (back_of n forth) inside (back_goes n forth onto);
  forth_back = λ g below. (back_goes n forth onto g below).1;
}

-- ---- the triangles that are met
-- triangle t has the image of one of the first n half-edges
is_met : (ℕ → ℕ) → ℕ → ℕ → Bool
is_met forth zero t = false
is_met forth (suc n) t = is_met forth n t || eqb (triangle_of (forth n)) t

met_from : (forth : ℕ → ℕ) (n t : ℕ) → IsTrue (is_met forth n t) → (k : ℕ) × (k < n) × (triangle_of (forth k) ≡ t)
unfolding is_met
met_from forth zero t met = absurd (both_ways false refl met)
met_from forth (suc n) t met = elim (or_cases (is_met forth n t) (eqb (triangle_of (forth n)) t) met) [
  | inl old ↦ let w = met_from forth n t old in (w.0, omega (arith, w.1), w.2)
  | inr new ↦ elim (eqb_tells (triangle_of (forth n)) t) [ inl h ↦ (n, omega arith, h.1) | inr h ↦ absurd (both_ways (eqb (triangle_of (forth n)) t) h.0 new) ]
]

met_at : (forth : ℕ → ℕ) (n k : ℕ) → k < n → IsTrue (is_met forth n (triangle_of (forth k)))
unfolding is_met
met_at forth zero k below = absurd (omega arith)
met_at forth (suc n) k below = elim (cases_lt k n) [
  | inl less ↦ or_left (is_met forth n (triangle_of (forth k))) (eqb (triangle_of (forth n)) (triangle_of (forth k))) (met_at forth n k less)
  | inr more ↦
      let e : n ≡ k = omega arith in
      or_right (is_met forth n (triangle_of (forth k))) (eqb (triangle_of (forth n)) (triangle_of (forth k)))
      (eq-eqb (triangle_of (forth n)) (triangle_of (forth k)) (ap (λ (m : ℕ). triangle_of (forth m)) e))
]

module _ (d : ℕ) (from to : List Half) (valid : IsTriangulation d from) (valid_to : IsTriangulation d to) (forth : ℕ → ℕ)
    (inside : (k : ℕ) → k < length from → forth k < length to) (next : (k : ℕ) → k < length from → forth (next_of k) ≡ next_of (forth k))
    (twin : (k : ℕ) → k < length from → forth (twin_at from k) ≡ twin_at to (forth k)) where
  abbrev met : ℕ → Bool
  met = is_met forth (length from)

  -- in a triangle that is met each half-edge is an image
  image_there : (g : ℕ) → IsTrue (met (triangle_of g)) → (k : ℕ) × (k < length from) × (forth k ≡ g)
  image_there g holds =
      let w = met_from forth (length from) (triangle_of g) holds in
      let k : ℕ = w.0 in
      elim (of_one_triangle (forth k) g w.2) [
        | inl e ↦ (k, w.1, sym e)
        | inr o ↦ elim o [
          | inl e ↦ (next_of k, next_inside d from k valid w.1, next k w.1 ∙ sym e)
          | inr e ↦
              let second : next_of k < length from = next_inside d from k valid w.1 in (
                previous_of k,
                previous_inside d from k valid w.1,
                ap forth (sym (next_next k)) ∙ next (next_of k) second ∙ ap next_of (next k w.1) ∙ next_next (forth k) ∙ sym e,
              )
        ]
      ]

  met_closed : IsClosedUnderTwins to met
  met_closed h below holds =
      let w = image_there h holds in
      subst (λ (m : ℕ). IsTrue (met (triangle_of m))) (twin w.0 w.1 ∙ ap (twin_at to) w.2)
      (met_at forth (length from) (twin_at from w.0) (valid.paired w.0 w.1).0)

  onto : (g : ℕ) → g < length to → (k : ℕ) × (k < length from) × (forth k ≡ g)
  onto g below =
      let some : 0 < length from = (let many = valid.count.1 in omega arith) in
      let start : IsTriangle to (triangle_of (forth 0)) = (let less = inside 0 some in omega arith) in
      let there : IsTriangle to (triangle_of g) = omega arith in
      image_there g (joined_from d to valid_to met met_closed (triangle_of (forth 0)) start (met_at forth (length from) 0 some) (triangle_of g) there)

  -- so the half-edges are carried by a bijection
  pub carried_inverse : length to ≡ length from → AreInverse (length from) forth (back_of (length from) forth)
  carried_inverse count =
      onto_inverse (length from) forth (λ k below. subst (λ (l : ℕ). forth k < l) count (inside k below))
      (λ g below. onto g (subst (λ (l : ℕ). g < l) (sym count) below))

-- ---- images by n/m: half-edges mapped by n are carried to half-edges multiplied by m
scaled_multiple : (d m : ℕ) (v : Vector Quad) → scaled_vector (pos m) v ≡ multiple_vector (quad_ops d) ((quad_ops d).int (pos m)) v
scaled_multiple d m v = vectors_equal (quad_ops d) (quad_ring d) _ _ (scaled_is d (pos m) v.0) (scaled_is d (pos m) v.1)

module _ (d : ℕ) (n : Matrix Quad) (m : ℕ) (from to one two : List Half) (valid : IsTriangulation d from) (valid_to : IsTriangulation d to)
    (first : AreMapped d n from one) (second : AreMultiplied (pos m) to two) where
  pub image_from_carried : 0 < m → length to ≡ length from → (forth : ℕ → ℕ) → Carries one two forth → IsImageBy d n m from to
  image_from_carried some count forth carries =
      let below = λ (k : ℕ) (less : k < length from). subst (λ (l : ℕ). k < l) (sym first.count) less in
      let inside = λ (k : ℕ) (less : k < length from). subst (λ (l : ℕ). forth k < l) second.count (carries.inside k (below k less)) in
      let next = λ (k : ℕ) (less : k < length from). carries.next k (below k less) in
      let twin = λ (k : ℕ) (less : k < length from). ap forth (sym (first.twins k less)) ∙ carries.twin k (below k less) ∙ second.twins (forth k) (inside k less) in (
        forth,
        back_of (length from) forth,
        record {
          denominator = some;
          count = count;
          each_once = carried_inverse d from to valid valid_to forth inside next twin count;
          next = next;
          twin = twin;
          vectors = λ k less.
              sym (scaled_multiple d m (vector_at to (forth k))) ∙ sym (second.vectors (forth k) (inside k less)) ∙ carries.vectors k (below k less) ∙ first.vectors k less;
        },
      )

  pub carried_from_image : (forth back : ℕ → ℕ) → IsImage d n m from to forth back → Carries one two forth
  carried_from_image forth back image =
      let old = λ (k : ℕ) (less : k < length one). subst (λ (l : ℕ). k < l) first.count less in
      let inside = λ (k : ℕ) (less : k < length from). subst (λ (l : ℕ). forth k < l) (sym image.count) (image.each_once.forth_inside k less) in
      record {
        inside = λ k less. subst (λ (l : ℕ). forth k < l) (sym second.count) (inside k (old k less));
        next = λ k less. image.next k (old k less);
        twin = λ k less. ap forth (first.twins k (old k less)) ∙ image.twin k (old k less) ∙ sym (second.twins (forth k) (inside k (old k less)));
        vectors = λ k less.
            second.vectors (forth k) (inside k (old k less)) ∙ scaled_multiple d m (vector_at to (forth k)) ∙ image.vectors k (old k less) ∙ sym (first.vectors k (old k less));
      }
