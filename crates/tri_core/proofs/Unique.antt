-- Half-edges are known by their vectors and twins, so a flip is one.
use Rattle.std.proofs.Common.{◌≡◌, ℕ, suc, ◌<◌, List, [], ◌∷◌, length, refl, sym, ◌∙◌, ap, subst, arith, inl, inr}
use Rattle.std.proofs.lemmas.Bool.{cases_eq}
use Rattle.quad_field.specs.Quads.{quad_ops}
use Rattle.plane.specs.Vectors.{vector, opposite_vector}
use Rattle.tri_core.specs.declared.half.Half.{Half}
use Rattle.tri_core.specs.HalfEdges.{half_at, vector_at, twin_at}
use Rattle.tri_core.specs.Triangulation.{IsTriangulation}
use Rattle.tri_core.specs.Flips.{IsFlip, number_after, AreApart}
use Rattle.tri_core.proofs.Moves.{number_before, number_forth, number_same, before_within, first_not_outer, second_not_outer}
use Rattle.tri_core.proofs.Triangles.{half_apart}

-- lists of one length with the same half-edge at every number
same_lists : (xs ys : List Half) → length xs ≡ length ys → ((k : ℕ) → k < length xs → half_at xs k ≡ half_at ys k) → xs ≡ ys
same_lists [] [] e all = refl
same_lists [] (y ∷ ys) e all = absurd (omega arith)
same_lists (x ∷ xs) [] e all = absurd (omega arith)
same_lists (x ∷ xs) (y ∷ ys) e all =
    let first : x ≡ y = all 0 (omega arith) in
    let rest : xs ≡ ys = same_lists xs ys (omega arith) (λ k below. all (suc k) (omega arith)) in
    λ i. first i ∷ rest i

same_half : (x y : Half) → vector x.vec ≡ vector y.vec → x.twin ≡ y.twin → x ≡ y
same_half x y e f i = record { vec = record { s = (e i).0; t = (e i).1 }; twin = f i }

-- with the same vector and the same twin
pub same_halves : (xs ys : List Half) → length xs ≡ length ys → ((k : ℕ) → k < length xs → vector_at xs k ≡ vector_at ys k) → ((k : ℕ) → k < length xs → twin_at xs k ≡ twin_at ys k) → xs ≡ ys
same_halves xs ys e vectors twins = same_lists xs ys e (λ k below. same_half (half_at xs k) (half_at ys k) (vectors k below) (twins k below))

module _ (d : ℕ) (halves : List Half) (h : ℕ) (valid : IsTriangulation d halves) (below : h < length halves) (one two : List Half) (a : IsFlip d halves h one) (b : IsFlip d halves h two) where
  abbrev g : ℕ
  g = twin_at halves h

  apart : AreApart halves h g
  apart = half_apart d halves h valid below

  number-h : number_after h g h ≡ h
  number-h = number_same h g h (first_not_outer h g apart.apart)

  number-g : number_after h g g ≡ g
  number-g = number_same h g g (second_not_outer h g apart.apart)

  diagonals : vector_at one h ≡ vector_at two h
  diagonals = a.diagonal ∙ sym b.diagonal

  opposites : vector_at one g ≡ vector_at two g
  opposites = a.opposite ∙ ap (opposite_vector (quad_ops d)) diagonals ∙ sym b.opposite

  -- the same at the number of each half-edge
  vectors_there : (k : ℕ) → k < length halves → vector_at one (number_after h g k) ≡ vector_at two (number_after h g k)
  vectors_there k inside = elim (cases_eq k h) [
    | inl e ↦ ap (λ m. vector_at one (number_after h g m)) e ∙ ap (vector_at one) number-h ∙ diagonals ∙ sym (ap (λ m. vector_at two (number_after h g m)) e ∙ ap (vector_at two) number-h)
    | inr first ↦ elim (cases_eq k g) [
      | inl e ↦ ap (λ m. vector_at one (number_after h g m)) e ∙ ap (vector_at one) number-g ∙ opposites ∙ sym (ap (λ m. vector_at two (number_after h g m)) e ∙ ap (vector_at two) number-g)
      | inr second ↦ a.vectors k inside first second ∙ sym (b.vectors k inside first second)
    ]
  ]

  -- and so at each number
  from : (m : ℕ) → m < length one → number_before h g m < length halves
  from m inside = before_within h g m (length halves) apart.count apart.first apart.second (subst (λ n. m < n) a.count inside)

  forth : (m : ℕ) → number_after h g (number_before h g m) ≡ m
  forth m = number_forth h g m apart.apart

  pub one_flip : one ≡ two
  one_flip =
      same_halves one two (a.count ∙ sym b.count)
      (λ m inside. ap (vector_at one) (sym (forth m)) ∙ vectors_there (number_before h g m) (from m inside) ∙ ap (vector_at two) (forth m))
      (λ m inside. ap (twin_at one) (sym (forth m)) ∙ a.twins (number_before h g m) (from m inside) ∙ sym (b.twins (number_before h g m) (from m inside)) ∙ ap (twin_at two) (forth m))
