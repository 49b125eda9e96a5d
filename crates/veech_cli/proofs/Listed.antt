-- A list of base points: the point of its ending, and the triangulation of a strict one.
use Rattle.std.proofs.Common.{ℕ, inl, inr, List, [], ◌∷◌, sym, subst}
use Rattle.std.specs.List.{AllByRecursion}
use Rattle.quad_field.specs.FieldNumber.{IsFieldNumber}
use Rattle.surface_text.specs.Limits.{IsBasePoint}
use Rattle.surface_text.specs.declared.file.Point.{Point}
use Rattle.tri_core.specs.declared.half.Half.{Half}
use Rattle.tri_core.specs.Triangulation.{IsTriangulation}
use Rattle.delaunay_flip.specs.Bases.{Ending, EndsListed}
use Rattle.delaunay_flip.proofs.CallerLemmas.{valid_there}

-- the point of an ending is one of the list
pub listed_point : (P : Point → Type 0) (d : ℕ) (halves : List Half) (points : List Point) (most : ℕ) (at : Point) (ending : Ending)
    → EndsListed d halves points most at ending → AllByRecursion P points → P at
listed_point P d halves [] most at ending ends all = absurd ends
listed_point P d halves (point ∷ []) most at ending ends all = subst P (sym ends.0) all.0
listed_point P d halves (point ∷ next ∷ points) most at ending (inl ends) all = subst P (sym ends.0) all.0
listed_point P d halves (point ∷ next ∷ points) most at ending (inr ends) all = listed_point P d halves (next ∷ points) most at ending ends.1 all.1

-- a strict ending is a triangulation
pub listed_valid : (d : ℕ) → IsFieldNumber d → (halves : List Half) → IsTriangulation d halves → (points : List Point) → AllByRecursion IsBasePoint points → (most : ℕ) (at : Point) (later : List Half) (n : ℕ)
    → EndsListed d halves points most at (Ending.strict later n) → IsTriangulation d later
listed_valid d field halves valid [] all most at later n ends = absurd ends
listed_valid d field halves valid (point ∷ []) all most at later n ends = valid_there d field halves later valid point all.0 most n ends.1
listed_valid d field halves valid (point ∷ next ∷ points) all most at later n (inl ends) = valid_there d field halves later valid point all.0 most n ends.1
listed_valid d field halves valid (point ∷ next ∷ points) all most at later n (inr ends) = listed_valid d field halves valid (next ∷ points) all.1 most at later n ends.1
