-- Vectors of bounded numbers.
use Rattle.std.proofs.Common.{◌≡◌, ◌↔◌, ◌⊎◌, ℕ, ◌^◌, ℤ, pos, negsuc, List, subst, arith, rules, inl, inr}
use Rattle.std.specs.Int.{w128}
use Rattle.std.proofs.lemmas.Bool.{cases_lt}
use Rattle.std.proofs.lemmas.Int.{ints, fits_signed_from_abs}
use Rattle.quad_field.specs.declared.quad.Quad.{Quad}
use Rattle.quad_field.specs.Width.{FitsI128, PartsFit}
use Rattle.plane.specs.declared.words.VectorWord.{VectorWord}
use Rattle.plane.specs.declared.words.VectorWord.TheVariants as vector_word
use Rattle.plane.specs.declared.vec2.Vec2.{Vec2}
use Rattle.plane.specs.Spelling.{vector_text}
use Rattle.surface_text.specs.Limits.{IsBoundedQuad, IsBoundedVector}
use Rattle.surface_text.specs.Readings.{IsTheOne, IsOneBeyond}

-- a number fits i128 or doesn't
fits_cases : (n : ℤ) → FitsI128 n ⊎ ¬ (FitsI128 n)
fits_cases (pos n) =
    elim (cases_lt n (2 ^ 127)) [
      | inl below ↦ inl (fits_signed_from_abs w128 (pos n) below)
      | inr above ↦ inr (λ fits. omega (arith, ints))
    ]
fits_cases (negsuc n) =
    elim (cases_lt n (2 ^ 127)) [
      | inl below ↦ inl (search rules)
      | inr above ↦ inr (λ fits. omega (arith, ints))
    ]

-- the parts of a K-integer both fit, or don't
parts_cases : (x : Quad) → PartsFit x ⊎ ¬ (PartsFit x)
parts_cases x =
    elim (fits_cases x.a) [
      | inl a ↦ elim (fits_cases x.b) [ inl b ↦ inl (a, b) | inr b ↦ inr (λ fits. b fits.1) ]
      | inr a ↦ inr (λ fits. a fits.0)
    ]

-- all parts of a vector fit, or don't
vector_cases : (v : Vec2) → (PartsFit v.s × PartsFit v.t) ⊎ ¬ (PartsFit v.s × PartsFit v.t)
vector_cases v =
    elim (parts_cases v.s) [
      | inl s ↦ elim (parts_cases v.t) [ inl t ↦ inl (s, t) | inr t ↦ inr (λ fits. t fits.1) ]
      | inr s ↦ inr (λ fits. s fits.0)
    ]

-- bounded numbers fit i128
bounded_fits : (x : Quad) → IsBoundedQuad x → PartsFit x
bounded_fits x small = (fits_signed_from_abs w128 x.a (omega (arith, small.0)), fits_signed_from_abs w128 x.b (omega (arith, small.1)))

-- the vector that was read is the only one
vector_only : (word : List ℕ) (r : VectorWord) (v w : Vec2)
    → ((k : Vec2) → (r ≡ vector_word.Value k) ↔ ((word ≡ vector_text k) × PartsFit k.s × PartsFit k.t))
    → ((r ≡ vector_word.Large) ↔ ((k : Vec2) × (word ≡ vector_text k) × ¬ (PartsFit k.s × PartsFit k.t)))
    → r ≡ vector_word.Value v → word ≡ vector_text w → w ≡ v
vector_only word r v w value large is e =
    elim (vector_cases w) [
      | inl fits ↦ let again : r ≡ vector_word.Value w = (value w).1 (e, fits.0, fits.1) in cc
      | inr wide ↦ let is_wide : r ≡ vector_word.Large = large.1 (w, e, wide) in absurd cc
    ]

-- a vector of bounded numbers
pub vector_value : (word : List ℕ) (r : VectorWord) (v : Vec2)
    → ((k : Vec2) → (r ≡ vector_word.Value k) ↔ ((word ≡ vector_text k) × PartsFit k.s × PartsFit k.t))
    → ((r ≡ vector_word.Large) ↔ ((k : Vec2) × (word ≡ vector_text k) × ¬ (PartsFit k.s × PartsFit k.t)))
    → r ≡ vector_word.Value v → IsBoundedQuad v.s → IsBoundedQuad v.t → IsTheOne (λ k. word ≡ vector_text k) IsBoundedVector v
vector_value word r v value large is s t =
    record { found = ((value v).0 is).0; fits = (s, t); only = λ w e. vector_only word r v w value large is e }

-- one with a larger number within i128
pub vector_beyond : (word : List ℕ) (r : VectorWord) (v : Vec2)
    → ((k : Vec2) → (r ≡ vector_word.Value k) ↔ ((word ≡ vector_text k) × PartsFit k.s × PartsFit k.t))
    → ((r ≡ vector_word.Large) ↔ ((k : Vec2) × (word ≡ vector_text k) × ¬ (PartsFit k.s × PartsFit k.t)))
    → r ≡ vector_word.Value v → ¬ (IsBoundedVector v) → IsOneBeyond (λ k. word ≡ vector_text k) IsBoundedVector
vector_beyond word r v value large is above =
    record {
      x = v;
      found = ((value v).0 is).0;
      beyond = λ w e bounded. let again : r ≡ vector_word.Value w = (value w).1 (e, bounded_fits w.s bounded.0, bounded_fits w.t bounded.1) in
          let same : w ≡ v = cc in above (subst IsBoundedVector same bounded);
    }

-- one with a number outside i128
pub vector_wide : (word : List ℕ) (r : VectorWord)
    → ((k : Vec2) → (r ≡ vector_word.Value k) ↔ ((word ≡ vector_text k) × PartsFit k.s × PartsFit k.t))
    → ((r ≡ vector_word.Large) ↔ ((k : Vec2) × (word ≡ vector_text k) × ¬ (PartsFit k.s × PartsFit k.t)))
    → r ≡ vector_word.Large → IsOneBeyond (λ k. word ≡ vector_text k) IsBoundedVector
vector_wide word r value large is =
    let one = large.0 is in
    record {
      x = one.0;
      found = one.1;
      beyond = λ w e bounded. let again : r ≡ vector_word.Value w = (value w).1 (e, bounded_fits w.s bounded.0, bounded_fits w.t bounded.1) in absurd cc;
    }
