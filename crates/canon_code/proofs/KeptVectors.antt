-- Half-edges whose vectors differ, and the numbers of these vectors.
use Rattle.std.proofs.Common.{◌≡◌, ℕ, ◌+◌, ◌*◌, ◌<◌, List, [], ◌∷◌, ◌++◌, length, sym, ap, ◌∙◌, refl, subst, inl, inr, arith}
use Rattle.std.proofs.lemmas.Bool.{cases_eq}
use Rattle.std.proofs.lemmas.List.{get_or_append_left, get_or_push, length_push}
use Rattle.quad_field.specs.declared.quad.Quad.{Quad}
use mathlib.Core.Bool.{true, ◌&&◌}
use Rattle.std.specs.Prelude.{slice_get, Some}
use Rattle.std.specs.Ordering.{int_eq}
use Rattle.std.proofs.lemmas.Bool.{and_parts}
use Rattle.std.proofs.lemmas.Bool.Decides.{Decides-int_eq}
use Rattle.plane.specs.declared.vec2.Vec2.{Vec2}
use Rattle.plane.specs.Vectors.{Vector, vector}
use Rattle.tri_core.specs.declared.half.Half.{Half}
use Rattle.tri_core.specs.HalfEdges.{vector_at}
use Rattle.canon_code.specs.declared.whole.Scaled.{Scaled}
use Rattle.canon_code.specs.Numbered.{entry}
use Rattle.canon_code.specs.Coordinates.{pair_at}
use Rattle.canon_code.specs.WholeFrames.{IsWhole}
use Rattle.canon_code.specs.Distinct.{AreKept, AreDistinct, ArePairs, AreListed}
use Rattle.canon_code.proofs.Coordinated.{vec_read}
use Rattle.canon_code.proofs.Numbers.{pairs_longer, pair_last, pair_before}

pub kept_none : (halves : List Half) → AreKept halves [] [] 0
kept_none halves = record {
  few = omega arith;
  as_many = omega arith;
  inside = λ i less. absurd (omega (arith, less));
  within = λ j less low. absurd (omega (arith, less));
  same = λ j less low. absurd (omega (arith, less));
}

module _ (halves : List Half) (firsts places : List ℕ) (k : ℕ) (is : AreKept halves firsts places k) where
  -- one half-edge more, with its place
  pub kept_more : (p : ℕ) → (p < 9 → p < length firsts) → (p < 9 → vector_at halves (entry firsts p) ≡ vector_at halves k) → AreKept halves firsts (places ++ p ∷ []) (k + 1)
  kept_more p low same = record {
    few = is.few;
    as_many = omega (arith, length_push places p, is.as_many);
    inside = is.inside;
    within = λ j less few. elim (cases_eq j k) [
      | inl e ↦ let new = last j e in subst (λ n. n < length firsts) (sym new) (low (subst (λ n. n < 9) new few))
      | inr other ↦ let old = before j less other in subst (λ n. n < length firsts) (sym old) (is.within j (omega (arith, less, other)) (subst (λ n. n < 9) old few))
    ];
    same = λ j less few. elim (cases_eq j k) [
      | inl e ↦ let new = last j e in ap (λ n. vector_at halves (entry firsts n)) new ∙ same (subst (λ n. n < 9) new few) ∙ ap (vector_at halves) (sym e)
      | inr other ↦ let old = before j less other in ap (λ n. vector_at halves (entry firsts n)) old ∙ is.same j (omega (arith, less, other)) (subst (λ n. n < 9) old few)
    ];
  }
    where
      last : (j : ℕ) → j ≡ k → entry (places ++ p ∷ []) j ≡ p
      last j e = get_or_push places p 0 j (is.as_many ∙ sym e)

      before : (j : ℕ) → j < k + 1 → ¬ (j ≡ k) → entry (places ++ p ∷ []) j ≡ entry places j
      before j less other = get_or_append_left places (p ∷ []) 0 j (omega (arith, is.as_many, less, other))

  -- the half-edge itself at the end of the list
  kept_wider : k < length halves → length firsts < 9 → AreKept halves (firsts ++ k ∷ []) places k
  kept_wider own few = record {
    few = omega (arith, length_push firsts k, few);
    as_many = is.as_many;
    inside = λ i less. elim (cases_eq i (length firsts)) [
      | inl e ↦ subst (λ n. n < length halves) (sym (get_or_push firsts k 0 i (sym e))) own
      | inr other ↦
          let low : i < length firsts = omega (arith, less, other, length_push firsts k) in
          subst (λ n. n < length halves) (sym (get_or_append_left firsts (k ∷ []) 0 i low)) (is.inside i low)
    ];
    within = λ j less low. omega (arith, is.within j less low, length_push firsts k);
    same = λ j less low. ap (vector_at halves) (get_or_append_left firsts (k ∷ []) 0 (entry places j) (is.within j less low)) ∙ is.same j less low;
  }

-- a half-edge with the vector of one that is kept
pub kept_found : (halves : List Half) (firsts places : List ℕ) (k : ℕ) → AreKept halves firsts places k → (p : ℕ) → p < length firsts → vector_at halves (entry firsts p) ≡ vector_at halves k
    → AreKept halves firsts (places ++ p ∷ []) (k + 1)
kept_found halves firsts places k is p low same = kept_more halves firsts places k is p (λ _. low) (λ _. same)

-- a half-edge with another vector
pub kept_new : (halves : List Half) (firsts places : List ℕ) (k : ℕ) → AreKept halves firsts places k → k < length halves → length firsts < 9
    → AreKept halves (firsts ++ k ∷ []) (places ++ length firsts ∷ []) (k + 1)
kept_new halves firsts places k is own few =
    kept_more halves (firsts ++ k ∷ []) places k (kept_wider halves firsts places k is own few) (length firsts)
    (λ _. omega (arith, length_push firsts k)) (λ _. ap (vector_at halves) (get_or_push firsts k 0 (length firsts) refl))

-- where there are many
pub kept_many : (halves : List Half) (firsts places : List ℕ) (k : ℕ) → AreKept halves firsts places k → AreKept halves firsts (places ++ 9 ∷ []) (k + 1)
kept_many halves firsts places k is = kept_more halves firsts places k is 9 (λ low. absurd (omega (arith, low))) (λ low. absurd (omega (arith, low)))

pub distinct_from : (halves : List Half) (firsts places : List ℕ) → AreKept halves firsts places (length halves) → AreDistinct halves firsts places
distinct_from halves firsts places is = record {
  few = is.few;
  as_many = is.as_many;
  inside = is.inside;
  same = λ k less low. is.same k less (omega (arith, low, is.few));
}

pub distinct_none : (halves : List Half) (firsts places : List ℕ) → AreDistinct halves firsts places → AreDistinct halves [] places
distinct_none halves firsts places is = record {
  few = omega arith;
  as_many = is.as_many;
  inside = λ i less. absurd (omega (arith, less));
  same = λ k less low. absurd (omega (arith, low));
}

module _ (d : ℕ) (halves : List Half) (start : Scaled) (firsts : List ℕ) where
  pub pairs_none : ArePairs d halves start firsts []
  pairs_none = record { few = omega arith; whole = λ i less. absurd (omega (arith, less)) }

  pub pairs_more : (list : List Quad) (i : ℕ) (x y : Quad) → ArePairs d halves start firsts list → length list ≡ 2 * i → i < length firsts
      → IsWhole d start.frame start.divisor (vector_at halves (entry firsts i)) (x, y) → ArePairs d halves start firsts ((list ++ x ∷ []) ++ y ∷ [])
  pairs_more list i x y is long low whole = record {
    few = omega (arith, pairs_longer list x y i long, low);
    whole = λ j less. elim (cases_eq j i) [
      | inl e ↦
          subst (λ n. IsWhole d start.frame start.divisor (vector_at halves (entry firsts n)) (pair_at ((list ++ x ∷ []) ++ y ∷ []) n)) (sym e)
          (subst (IsWhole d start.frame start.divisor (vector_at halves (entry firsts i))) (sym (pair_last list x y i long)) whole)
      | inr other ↦
          let own : j < i = omega (arith, less, other, pairs_longer list x y i long) in
          subst (IsWhole d start.frame start.divisor (vector_at halves (entry firsts j))) (sym (pair_before list x y i long j own)) (is.whole j (omega (arith, own, long)))
    ];
  }

  pub listed_from : (places : List ℕ) (list : List Quad) → AreDistinct halves firsts places → ArePairs d halves start firsts list → AreListed d halves start places list
  listed_from places list is pairs = record {
    as_many = is.as_many;
    whole = λ k less low.
        subst (λ (v : Vector Quad). IsWhole d start.frame start.divisor v (pair_at list (entry places k))) (is.same k less (omega (arith, low, pairs.few)))
        (pairs.whole (entry places k) low);
  }

-- half-edges that were read
pub same_from : (halves : List Half) (h g : ℕ) (x y : Half) → slice_get halves h ≡ Some x → slice_get halves g ≡ Some y → vector x.vec ≡ vector y.vec → vector_at halves h ≡ vector_at halves g
same_from halves h g x y one other same = sym (ap vector (vec_read halves h x one)) ∙ same ∙ ap vector (vec_read halves g y other)

-- equal vectors, by their four parts
pub equal_from : (u v : Vec2) → ((int_eq u.s.a v.s.a && int_eq u.s.b v.s.b) && (int_eq u.t.a v.t.a && int_eq u.t.b v.t.b)) ≡ true → vector u ≡ vector v
equal_from u v e =
    let both = and_parts (int_eq u.s.a v.s.a && int_eq u.s.b v.s.b) (int_eq u.t.a v.t.a && int_eq u.t.b v.t.b) e in
    let s = and_parts (int_eq u.s.a v.s.a) (int_eq u.s.b v.s.b) both.0 in
    let t = and_parts (int_eq u.t.a v.t.a) (int_eq u.t.b v.t.b) both.1 in
    parts_equal (vector u) (vector v) ((Decides-int_eq u.s.a v.s.a).0 s.0) ((Decides-int_eq u.s.b v.s.b).0 s.1) ((Decides-int_eq u.t.a v.t.a).0 t.0) ((Decides-int_eq u.t.b v.t.b).0 t.1)
  where
    parts_equal : (x y : Vector Quad) → x.0.a ≡ y.0.a → x.0.b ≡ y.0.b → x.1.a ≡ y.1.a → x.1.b ≡ y.1.b → x ≡ y
    parts_equal x y p q r w i = (record { a = p i; b = q i }, record { a = r i; b = w i })
