-- A row whose numbers are those of the best.
use Rattle.std.proofs.Common.{◌≡◌, ℕ, ◌+◌, ◌*◌, ◌<◌, List, [], ◌∷◌, length, refl, ◌∙◌, subst, arith}
use Rattle.std.specs.Prelude.{ℤ, pos}
use Rattle.quad_field.specs.declared.quad.Quad.{Quad}
use Rattle.plane.specs.Vectors.{Vector}
use Rattle.tri_core.specs.declared.half.Half.{Half}
use Rattle.tri_core.specs.HalfEdges.{vector_at}
use Rattle.canon_code.specs.declared.whole.Scaled.{Scaled}
use Rattle.canon_code.specs.Canonical.{number_at, vector_from}
use Rattle.canon_code.specs.Coordinates.{pair_at}
use Rattle.canon_code.specs.Numbered.{entry, IsListSearch}
use Rattle.canon_code.specs.Listed.{twin_by}
use Rattle.canon_code.specs.WholeFrames.{IsWhole, IsWholeRow}
use Rattle.canon_code.specs.Distinct.{AreListed}

-- eleven numbers
numbers_are : (r : List ℤ) → length r ≡ 11
    → r ≡ number_at r 0 ∷ number_at r 1 ∷ number_at r 2 ∷ number_at r 3 ∷ number_at r 4 ∷ number_at r 5 ∷ number_at r 6 ∷ number_at r 7 ∷ number_at r 8 ∷ number_at r 9 ∷ number_at r 10 ∷ []
numbers_are [] long = absurd (omega (arith, long))
numbers_are (a ∷ []) long = absurd (omega (arith, long))
numbers_are (a ∷ b ∷ []) long = absurd (omega (arith, long))
numbers_are (a ∷ b ∷ c ∷ []) long = absurd (omega (arith, long))
numbers_are (a ∷ b ∷ c ∷ d ∷ []) long = absurd (omega (arith, long))
numbers_are (a ∷ b ∷ c ∷ d ∷ e ∷ []) long = absurd (omega (arith, long))
numbers_are (a ∷ b ∷ c ∷ d ∷ e ∷ f ∷ []) long = absurd (omega (arith, long))
numbers_are (a ∷ b ∷ c ∷ d ∷ e ∷ f ∷ g ∷ []) long = absurd (omega (arith, long))
numbers_are (a ∷ b ∷ c ∷ d ∷ e ∷ f ∷ g ∷ h ∷ []) long = absurd (omega (arith, long))
numbers_are (a ∷ b ∷ c ∷ d ∷ e ∷ f ∷ g ∷ h ∷ i ∷ []) long = absurd (omega (arith, long))
numbers_are (a ∷ b ∷ c ∷ d ∷ e ∷ f ∷ g ∷ h ∷ i ∷ j ∷ []) long = absurd (omega (arith, long))
numbers_are (a ∷ b ∷ c ∷ d ∷ e ∷ f ∷ g ∷ h ∷ i ∷ j ∷ k ∷ []) long = refl
numbers_are (a ∷ b ∷ c ∷ d ∷ e ∷ f ∷ g ∷ h ∷ i ∷ j ∷ k ∷ l ∷ r) long = absurd (omega (arith, long))

module _ (d : ℕ) (halves : List Half) (start : Scaled) (shown : List ℕ) (list : List Quad) (are : AreListed d halves start shown list)
    (looked : ℕ) (places numbers : List ℕ) (search : IsListSearch halves places numbers looked) (t : ℕ) (inside : 3 * t + 2 < length places) (r : List ℤ) (long : length r ≡ 11) where
  -- the numbers of a vector that are listed
  listed_at : (k : ℕ) → k < length places → (v : Vector Quad) → 2 * entry shown (entry places k) + 1 < length list → pair_at list (entry shown (entry places k)) ≡ v
      → IsWhole d start.frame start.divisor (vector_at halves (entry places k)) v
  listed_at k own v low same = subst (IsWhole d start.frame start.divisor (vector_at halves (entry places k))) same (are.whole (entry places k) (search.search.inside k own) low)

  pub row_from : 2 * entry shown (entry places (3 * t)) + 1 < length list → pair_at list (entry shown (entry places (3 * t))) ≡ vector_from r 0
      → 2 * entry shown (entry places (3 * t + 1)) + 1 < length list → pair_at list (entry shown (entry places (3 * t + 1))) ≡ vector_from r 4
      → number_at r 8 ≡ pos (twin_by halves places numbers (3 * t)) → number_at r 9 ≡ pos (twin_by halves places numbers (3 * t + 1)) → number_at r 10 ≡ pos (twin_by halves places numbers (3 * t + 2))
      → IsWholeRow d halves start (entry places) (entry numbers) t r
  row_from low first low' second a b c = (
    vector_from r 0,
    vector_from r 4,
    listed_at (3 * t) (omega (arith, inside)) (vector_from r 0) low first,
    listed_at (3 * t + 1) (omega (arith, inside)) (vector_from r 4) low' second,
    numbers_are r long ∙ λ i. number_at r 0 ∷ number_at r 1 ∷ number_at r 2 ∷ number_at r 3 ∷ number_at r 4 ∷ number_at r 5 ∷ number_at r 6 ∷ number_at r 7 ∷ a i ∷ b i ∷ c i ∷ [],
  )
