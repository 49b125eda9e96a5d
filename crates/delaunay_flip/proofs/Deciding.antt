-- What is so or isn't, decided: widths, and the least number with a property.
use Rattle.std.proofs.Common.{ℕ, zero, suc, ◌<◌, List, [], ◌∷◌, subst, arith, inl, inr}
use Rattle.std.specs.Prelude.{ℤ, pos, negsuc, ◌⊎◌}
use Rattle.std.proofs.lemmas.Bool.{cases_eq, cases_lt}
use Rattle.std.proofs.lemmas.Int.{ints}
use Rattle.quad_field.specs.declared.quad.Quad.{Quad}
use Rattle.quad_field.specs.Width.{Term, term_ops, number, sum, difference, product, negation, scaling, conjugate, value_of, FitsI128, PartsFit, AllFit, product_steps, StepsFit}
use Rattle.rings.specs.Forms.{value_at, hinge_triple}
use Rattle.plane.specs.Vectors.{Vector, vector_sum, opposite_vector, vector_term, VectorFits}
use Rattle.tri_core.specs.declared.half.Half.{Half}
use Rattle.tri_core.specs.HalfEdges.{half_at, next_of}
use Rattle.tri_core.specs.Flips.{DiagonalFits, previous_of_twin}
use Rattle.hinge_form.specs.Triples.{Triple, leaves}
use Rattle.hinge_form.specs.Hinges.{hinge_a, hinge_c, hinge_d, vector_leaves, TripleFits, PlaceFits}
use Rattle.delaunay_flip.specs.Flipping.{IsLeast}

-- so, or not so
abbrev pub IsDecided : Type 0 → Type 0
IsDecided P = P ⊎ ¬ P

-- both of two, and no more than one
pub both : {P Q : Type 0} → IsDecided P → IsDecided Q → IsDecided (P × Q)
both (inl p) (inl q) = inl (p, q)
both (inl p) (inr q) = inr (λ x. q x.1)
both (inr p) _ = inr (λ x. p x.0)

three : {P Q R : Type 0} → IsDecided P → IsDecided Q → IsDecided R → IsDecided (P × Q × R)
three (inl p) (inl q) (inl r) = inl (p, q, r)
three (inl p) (inl q) (inr r) = inr (λ x. r x.2)
three (inl p) (inr q) _ = inr (λ x. q x.1)
three (inr p) _ _ = inr (λ x. p x.0)

pub denied : {P : Type 0} → IsDecided P → IsDecided (¬ P)
denied (inl p) = inr (λ none. none p)
denied (inr none) = inl none

pub twice_denied : {P : Type 0} → IsDecided P → ¬ (¬ P) → P
twice_denied (inl p) none = p
twice_denied (inr q) none = absurd (none q)

-- ---- widths
fits_or_not : (n : ℤ) → IsDecided (FitsI128 n)
fits_or_not (pos n) = elim (cases_lt n 170141183460469231731687303715884105728) [
  | inl less ↦ inl (omega (arith, ints))
  | inr more ↦ inr (λ fits. omega (arith, ints))
]
fits_or_not (negsuc n) = elim (cases_lt n 170141183460469231731687303715884105728) [
  | inl less ↦ inl (omega (arith, ints))
  | inr more ↦ inr (λ fits. omega (arith, ints))
]

parts_or_not : (x : Quad) → IsDecided (PartsFit x)
parts_or_not x = both (fits_or_not x.a) (fits_or_not x.b)

all_or_not : (ns : List ℤ) → IsDecided (AllFit ns)
all_or_not [] = inl _
all_or_not (n ∷ ns) = both (fits_or_not n) (all_or_not ns)

steps_or_not : (d : ℕ) (t : Term) → IsDecided (StepsFit d t)
steps_or_not d (number x) = inl _
steps_or_not d (sum s t) = three (steps_or_not d s) (steps_or_not d t) (parts_or_not (value_of d (sum s t)))
steps_or_not d (difference s t) = three (steps_or_not d s) (steps_or_not d t) (parts_or_not (value_of d (difference s t)))
steps_or_not d (product s t) = three (steps_or_not d s) (steps_or_not d t) (all_or_not (product_steps d (value_of d s) (value_of d t)))
steps_or_not d (negation s) = both (steps_or_not d s) (parts_or_not (value_of d (negation s)))
steps_or_not d (scaling k s) = both (steps_or_not d s) (parts_or_not (value_of d (scaling k s)))
steps_or_not d (conjugate s) = both (steps_or_not d s) (fits_or_not (value_of d (conjugate s)).b)

-- the width of an edge's triple, of a triple's value, and of the new diagonal
pub triple_or_not : (d : ℕ) (halves : List Half) (h : ℕ) → IsDecided (TripleFits d halves h)
triple_or_not d halves h =
    let l = hinge_triple term_ops (vector_leaves (hinge_a halves h)) (vector_leaves (hinge_c d halves h)) (vector_leaves (hinge_d halves h)) in
    three (steps_or_not d l.0) (steps_or_not d l.1) (steps_or_not d l.2)

pub place_or_not : (d : ℕ) (l q : Triple) → IsDecided (PlaceFits d l q)
place_or_not d l q = steps_or_not d (value_at term_ops (leaves l) (leaves q))

vector_or_not : (d : ℕ) (u : Vector Term) → IsDecided (VectorFits d u)
vector_or_not d u = both (steps_or_not d u.0) (steps_or_not d u.1)

pub diagonal_or_not : (d : ℕ) (halves : List Half) (h : ℕ) → IsDecided (DiagonalFits d halves h)
diagonal_or_not d halves h =
    let diagonal = vector_sum term_ops (vector_term (half_at halves (previous_of_twin halves h)).vec) (vector_term (half_at halves (next_of h)).vec) in
    both (vector_or_not d diagonal) (vector_or_not d (opposite_vector term_ops diagonal))

-- ---- the least number with a property below a bound, or none
module _ (P : ℕ → Type 0) (decided : (k : ℕ) → IsDecided (P k)) where
  none_more : (n : ℕ) → ((k : ℕ) → k < n → ¬ (P k)) → ¬ (P n) → (k : ℕ) → k < suc n → ¬ (P k)
  none_more n none here k less = elim (cases_eq k n) [
    | inl e ↦ λ p. here (subst P e p)
    | inr apart ↦ none k (omega arith)
  ]

  pub least_or_none : (bound : ℕ) → ((h : ℕ) × IsLeast P h) ⊎ ((k : ℕ) → k < bound → ¬ (P k))
  least_or_none zero = inr (λ k less. absurd (omega arith))
  least_or_none (suc n) = elim (least_or_none n) [
    | inl least ↦ inl least
    | inr none ↦ elim (decided n) [
      | inl p ↦ inl (n, (p, none))
      | inr here ↦ inr (none_more n none here)
    ]
  ]
