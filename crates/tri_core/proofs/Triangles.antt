-- The triangle at a half-edge, whichever side of it the half-edge is.
use Rattle.std.proofs.Common.{◌≡◌, ◌⊎◌, ℕ, ◌+◌, ◌*◌, ◌<◌, List, length, sym, ◌∙◌, ap, subst, inl, inr, arith}
use Rattle.std.specs.Prelude.{slice_get, Some}
use Rattle.std.proofs.lemmas.Bool.{cases_eq, cases_order}
use Rattle.std.proofs.lemmas.Option.{get_or_from_slice_get}
use Rattle.quad_field.specs.Quads.{quad_ops}
use Rattle.plane.specs.Vectors.{vector_sum, opposite_vector}
use Rattle.tri_core.specs.declared.half.Half.{Half}
use Rattle.tri_core.specs.HalfEdges.{no_half, half_at, vector_at, twin_at, triangle_of, next_of, previous_of}
use Rattle.tri_core.specs.Triangulation.{IsTriangulation}
use Rattle.tri_core.specs.Flips.{IsEdge, AreApart}
use Rattle.tri_core.proofs.Quadrilaterals.{IsTriple, triple_turned, triple_third, opposite_does_not_turn, side_not_zero, own_opposite, from_opposite}

-- ---- numbers round a triangle
pub side_next : (h : ℕ) → triangle_of (next_of h) ≡ triangle_of h
side_next h = omega arith

pub side_previous : (h : ℕ) → triangle_of (previous_of h) ≡ triangle_of h
side_previous h = omega arith

pub next_next : (h : ℕ) → next_of (next_of h) ≡ previous_of h
next_next h = omega arith

pub previous_previous : (h : ℕ) → previous_of (previous_of h) ≡ next_of h
previous_previous h = omega arith

pub next_previous : (h : ℕ) → next_of (previous_of h) ≡ h
next_previous h = omega arith

pub previous_next : (h : ℕ) → previous_of (next_of h) ≡ h
previous_next h = omega arith

-- a half-edge is the first of its triangle, or the next, or the one before the first
pub three_sides : (h : ℕ) → let first : ℕ = 3 * triangle_of h in (h ≡ first) ⊎ (h ≡ next_of first) ⊎ (h ≡ previous_of first)
three_sides h = elim (cases_eq h (3 * triangle_of h)) [
  | inl e ↦ inl e
  | inr a ↦ elim (cases_eq h (next_of (3 * triangle_of h))) [ inl e ↦ inr (inl e) | inr b ↦ let e : h ≡ previous_of (3 * triangle_of h) = omega arith in inr (inr e) ]
]

-- two half-edges of one triangle are one, or the one is next to the other
pub of_one_triangle : (h k : ℕ) → triangle_of h ≡ triangle_of k → (k ≡ h) ⊎ (k ≡ next_of h) ⊎ (k ≡ previous_of h)
of_one_triangle h k same = elim (cases_eq k h) [
  | inl e ↦ inl e
  | inr a ↦ elim (cases_eq k (next_of h)) [ inl e ↦ inr (inl e) | inr b ↦ let e : k ≡ previous_of h = omega arith in inr (inr e) ]
]

-- ---- the triangle of a half-edge
-- half-edge h and those behind it are a triangle
abbrev pub IsTripleAt : ℕ → List Half → ℕ → Type 0
IsTripleAt d halves h = IsTriple d (vector_at halves h) (vector_at halves (next_of h)) (vector_at halves (previous_of h))

-- the same where the numbers behind h are given by other names
triple_named : (d : ℕ) (halves : List Half) (h n p : ℕ) → next_of h ≡ n → previous_of h ≡ p → IsTriple d (vector_at halves h) (vector_at halves n) (vector_at halves p) → IsTripleAt d halves h
triple_named d halves h n p e f t =
    subst (λ (m : ℕ). IsTriple d (vector_at halves h) (vector_at halves m) (vector_at halves (previous_of h))) (sym e)
    (subst (λ (m : ℕ). IsTriple d (vector_at halves h) (vector_at halves n) (vector_at halves m)) (sym f) t)

pub triple_next : (d : ℕ) (halves : List Half) (h : ℕ) → IsTripleAt d halves h → IsTripleAt d halves (next_of h)
triple_next d halves h t =
    triple_named d halves (next_of h) (previous_of h) h (next_next h) (previous_next h) (triple_turned d (vector_at halves h) (vector_at halves (next_of h)) (vector_at halves (previous_of h)) t)

pub triple_previous : (d : ℕ) (halves : List Half) (h : ℕ) → IsTripleAt d halves h → IsTripleAt d halves (previous_of h)
triple_previous d halves h t = subst (IsTripleAt d halves) (next_next h) (triple_next d halves (next_of h) (triple_next d halves h t))

-- from one side of a triangle to each
pub triple_along : (d : ℕ) (halves : List Half) (h k : ℕ) → triangle_of h ≡ triangle_of k → IsTripleAt d halves h → IsTripleAt d halves k
triple_along d halves h k same own = elim (of_one_triangle h k same) [
  | inl e ↦ subst (IsTripleAt d halves) (sym e) own
  | inr o ↦ elim o [
    | inl e ↦ subst (IsTripleAt d halves) (sym e) (triple_next d halves h own)
    | inr e ↦ subst (IsTripleAt d halves) (sym e) (triple_previous d halves h own)
  ]
]

-- the sides of triangle t
abbrev pub IsTripleOf : ℕ → List Half → ℕ → Type 0
IsTripleOf d halves t = IsTriple d (vector_at halves (3 * t)) (vector_at halves (3 * t + 1)) (vector_at halves (3 * t + 2))

pub triple_of : (d : ℕ) (halves : List Half) (t : ℕ) → IsTripleAt d halves (3 * t) → IsTripleOf d halves t
triple_of d halves t own =
    let n : next_of (3 * t) ≡ 3 * t + 1 = omega arith in
    let p : previous_of (3 * t) ≡ 3 * t + 2 = omega arith in
    subst (λ (m : ℕ). IsTriple d (vector_at halves (3 * t)) (vector_at halves (3 * t + 1)) (vector_at halves m)) p
    (subst (λ (m : ℕ). IsTriple d (vector_at halves (3 * t)) (vector_at halves m) (vector_at halves (previous_of (3 * t)))) n own)

module _ (d : ℕ) (halves : List Half) (h : ℕ) (valid : IsTriangulation d halves) (below : h < length halves) where
  -- ---- numbers of a triangulation's half-edges
  pub number_small : h < 768
  number_small = let few = valid.count.2 in omega arith

  pub next_inside : next_of h < length halves
  next_inside = let whole = valid.count.0 in omega arith

  pub previous_inside : previous_of h < length halves
  previous_inside = let whole = valid.count.0 in omega arith

  pub twin_inside : twin_at halves h < length halves
  twin_inside = (valid.paired h below).0

  pub triangle_inside : 3 * triangle_of h < length halves
  triangle_inside = omega arith

  -- half-edge h and the two behind it are a triangle: they sum to zero, and h turns to the left into the next
  pub triple_at : IsTripleAt d halves h
  triple_at =
      let t : ℕ = triangle_of h in
      let same : triangle_of (3 * t) ≡ triangle_of h = omega arith in
      triple_along d halves (3 * t) h same
      (triple_named d halves (3 * t) (3 * t + 1) (3 * t + 2) (omega arith) (omega arith) (record { closed = valid.closed t triangle_inside; turns = valid.turns t triangle_inside }))

  -- each of the three is the opposite of the sum of the others
  pub own_is : vector_at halves h ≡ opposite_vector (quad_ops d) (vector_sum (quad_ops d) (vector_at halves (next_of h)) (vector_at halves (previous_of h)))
  own_is = triple_third d (vector_at halves (next_of h)) (vector_at halves (previous_of h)) (vector_at halves h) (triple_turned d (vector_at halves h) (vector_at halves (next_of h)) (vector_at halves (previous_of h)) triple_at)

  pub next_is : vector_at halves (next_of h) ≡ opposite_vector (quad_ops d) (vector_sum (quad_ops d) (vector_at halves (previous_of h)) (vector_at halves h))
  next_is =
      triple_third d (vector_at halves (previous_of h)) (vector_at halves h) (vector_at halves (next_of h))
      (triple_turned d (vector_at halves (next_of h)) (vector_at halves (previous_of h)) (vector_at halves h)
      (triple_turned d (vector_at halves h) (vector_at halves (next_of h)) (vector_at halves (previous_of h)) triple_at))

  pub previous_is : vector_at halves (previous_of h) ≡ opposite_vector (quad_ops d) (vector_sum (quad_ops d) (vector_at halves h) (vector_at halves (next_of h)))
  previous_is = triple_third d (vector_at halves h) (vector_at halves (next_of h)) (vector_at halves (previous_of h)) triple_at

  -- the vector of the twin, either way
  pub opposite_of_twin : vector_at halves h ≡ opposite_vector (quad_ops d) (vector_at halves (twin_at halves h))
  opposite_of_twin = from_opposite d (vector_at halves h) (vector_at halves (twin_at halves h)) (valid.paired h below).2

  -- ---- twins
  -- no half-edge is its own twin, or lies in one triangle with it
  pub not_its_own : ¬ (twin_at halves h ≡ h)
  not_its_own same =
      side_not_zero d (vector_at halves h) (vector_at halves (next_of h)) (vector_at halves (previous_of h))
      (own_opposite d (vector_at halves h) (ap (vector_at halves) (sym same) ∙ (valid.paired h below).2)) triple_at

  pub twin_not_next : ¬ (twin_at halves h ≡ next_of h)
  twin_not_next same =
      opposite_does_not_turn d (vector_at halves h) (vector_at halves (next_of h)) (vector_at halves (previous_of h)) (ap (vector_at halves) (sym same) ∙ (valid.paired h below).2) triple_at

  pub twin_not_previous : ¬ (twin_at halves h ≡ previous_of h)
  twin_not_previous same =
      opposite_does_not_turn d (vector_at halves (previous_of h)) (vector_at halves h) (vector_at halves (next_of h))
      (opposite_of_twin ∙ ap (λ (m : ℕ). opposite_vector (quad_ops d) (vector_at halves m)) same)
      (triple_turned d (vector_at halves (next_of h)) (vector_at halves (previous_of h)) (vector_at halves h)
      (triple_turned d (vector_at halves h) (vector_at halves (next_of h)) (vector_at halves (previous_of h)) triple_at))

  pub half_apart : AreApart halves h (twin_at halves h)
  half_apart = record {
    count = valid.count.0;
    first = below;
    second = twin_inside;
    apart = λ same. elim (of_one_triangle h (twin_at halves h) same) [
      | inl e ↦ not_its_own e
      | inr o ↦ elim o [ inl e ↦ twin_not_next e | inr e ↦ twin_not_previous e ]
    ];
  }

  -- one of the two is an edge
  pub half_or_twin : IsEdge halves h ⊎ IsEdge halves (twin_at halves h)
  half_or_twin =
      let back : twin_at halves (twin_at halves h) ≡ h = (valid.paired h below).1 in
      elim (cases_order h (twin_at halves h)) [
        | inl e ↦ absurd (not_its_own (sym e))
        | inr o ↦ elim o [ inl less ↦ inl (below, less) | inr more ↦ inr (twin_inside, subst (λ (m : ℕ). twin_at halves h < m) (sym back) more) ]
      ]

  -- what is read past the end is no half-edge
  pub no_half_here : ¬ (half_at halves h ≡ no_half)
  no_half_here same =
      side_not_zero d (vector_at halves h) (vector_at halves (next_of h)) (vector_at halves (previous_of h))
      (ap (λ (half : Half). (half.vec.s, half.vec.t)) same) triple_at

-- an edge and its twin lie in two triangles
pub edge_apart : (d : ℕ) (halves : List Half) (h : ℕ) → IsTriangulation d halves → IsEdge halves h → AreApart halves h (twin_at halves h)
edge_apart d halves h valid edge = half_apart d halves h valid edge.0

-- what is read at a number is the half-edge of that number
pub half_is : (halves : List Half) (h : ℕ) (half : Half) → slice_get halves h ≡ Some half → half_at halves h ≡ half
half_is halves h half e = get_or_from_slice_get halves h half no_half e
