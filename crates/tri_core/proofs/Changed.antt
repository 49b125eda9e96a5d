-- Half-edges with all their vectors changed by one rule, one after another; that they are glued as before; and images.
use Rattle.std.proofs.Common.{◌≡◌, ℕ, ◌+◌, ◌<◌, ◌≤◌, List, [], ◌∷◌, ◌++◌, length, refl, ◌∙◌, ap, arith, inl, inr}
use Rattle.std.proofs.lemmas.Bool.{cases_lt}
use Rattle.std.proofs.lemmas.List.{get_or_append_left, get_or_push, length_push}
use Rattle.quad_field.specs.declared.quad.Quad.{Quad}
use Rattle.plane.specs.Vectors.{Vector, vector}
use Rattle.tri_core.specs.declared.half.Half.{Half}
use Rattle.tri_core.specs.HalfEdges.{no_half, half_at, vector_at, twin_at}
use Rattle.tri_core.specs.Mapped.{AreChanged}

module _ (change : Vector Quad → Vector Quad) (halves : List Half) where
  -- `later` are the first i half-edges, changed
  pub record AreChangedTo (later : List Half) (i : ℕ) : Type 0 where
    pub count : length later ≡ i
    pub vectors : (k : ℕ) → k < i → vector_at later k ≡ change (vector_at halves k)
    pub twins : (k : ℕ) → k < i → twin_at later k ≡ twin_at halves k

  pub changed_none : AreChangedTo [] 0
  changed_none = record { count = refl; vectors = λ k below. absurd (omega arith); twins = λ k below. absurd (omega arith) }

  pub changed_more : (later : List Half) (i : ℕ) (half : Half) → vector half.vec ≡ change (vector_at halves i) → half.twin ≡ twin_at halves i
      → AreChangedTo later i → AreChangedTo (later ++ half ∷ []) (i + 1)
  changed_more later i half vec twin before = record {
    count = omega (arith, length_push later half, before.count);
    vectors = λ k below. elim (cases_lt k i) [
      | inl less ↦ ap (λ (h : Half). vector h.vec) (old k less) ∙ before.vectors k less
      | inr more ↦ let e : i ≡ k = omega arith in ap (λ (h : Half). vector h.vec) (new k e) ∙ vec ∙ ap (λ (m : ℕ). change (vector_at halves m)) e
    ];
    twins = λ k below. elim (cases_lt k i) [
      | inl less ↦ ap (λ (h : Half). h.twin) (old k less) ∙ before.twins k less
      | inr more ↦ let e : i ≡ k = omega arith in ap (λ (h : Half). h.twin) (new k e) ∙ twin ∙ ap (λ (m : ℕ). twin_at halves m) e
    ];
  }
    where
      old : (k : ℕ) → k < i → half_at (later ++ half ∷ []) k ≡ half_at later k
      old k less = get_or_append_left later (half ∷ []) no_half k (omega (arith, before.count))

      new : (k : ℕ) → i ≡ k → half_at (later ++ half ∷ []) k ≡ half
      new k e = get_or_push later half no_half k (before.count ∙ e)

  pub changed_all : (later : List Half) (i : ℕ) → length halves ≤ i → i ≤ length halves → AreChangedTo later i → AreChanged change halves later
  changed_all later i all within before = record {
    count = omega (arith, before.count);
    vectors = λ k below. before.vectors k (omega arith);
    twins = λ k below. before.twins k (omega arith);
  }
