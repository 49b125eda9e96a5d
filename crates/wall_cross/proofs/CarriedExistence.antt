-- Flips at all members of a set can always be made; and a wall that is carried is a wall with a form and a list of edges.
use Rattle.std.proofs.Common.{◌≡◌, ℕ, ◌<◌, Bool, true, false, List, length, sym, ap, ◌∙◌, subst, arith, inl, inr}
use Rattle.std.specs.Prelude.{if◌then◌else◌, map}
use Rattle.std.specs.List.{range_with_len}
use Rattle.std.proofs.lemmas.Bool.{cases_Bool}
use Rattle.std.proofs.lemmas.List.FromFn.{get_or-map-range_with_len, length-map-range_with_len}
use Rattle.rings.specs.Vectors.{Vector, vector_sum, opposite_vector}
use Rattle.quad_field.specs.declared.quad.Quad.{Quad}
use Rattle.quad_field.specs.Quads.{quad_ops}
use Rattle.plane.specs.Vectors.{vector}
use Rattle.tri_core.specs.declared.half.Half.{Half}
use Rattle.tri_core.specs.HalfEdges.{no_half, vector_at, twin_at, next_of, previous_of}
use Rattle.tri_core.specs.Triangulation.{IsTriangulation}
use Rattle.tri_core.specs.Flips.{previous_of_twin}
use Rattle.tri_core.specs.SeveralFlips.{IsSpread, number_after_all, AreFlipped}
use Rattle.tri_core.proofs.CallerLemmas.{next_inside, previous_inside, twin_inside, next_next, previous_previous, previous_next, number_following, number_preceding, number_staying}

module _ (d : ℕ) (halves : List Half) (valid : IsTriangulation d halves) (set : ℕ → Bool) (spread : IsSpread halves set) where
  -- ---- the number that a half-edge had before the flips
  abbrev before : ℕ → ℕ
  before k =
      if set (next_of k) then previous_of k
      else if set (previous_of k) then previous_of (twin_at halves (previous_of k))
      else k

  before_preceding : (k : ℕ) → set (next_of k) ≡ true → before k ≡ previous_of k
  before_preceding k e = ap (λ (b : Bool). if b then previous_of k else if set (previous_of k) then previous_of (twin_at halves (previous_of k)) else k) e

  before_following : (k : ℕ) → set (next_of k) ≡ false → set (previous_of k) ≡ true → before k ≡ previous_of (twin_at halves (previous_of k))
  before_following k e f =
      ap (λ (b : Bool). if b then previous_of k else if set (previous_of k) then previous_of (twin_at halves (previous_of k)) else k) e
      ∙ ap (λ (b : Bool). if b then previous_of (twin_at halves (previous_of k)) else k) f

  before_staying : (k : ℕ) → set (next_of k) ≡ false → set (previous_of k) ≡ false → before k ≡ k
  before_staying k e f =
      ap (λ (b : Bool). if b then previous_of k else if set (previous_of k) then previous_of (twin_at halves (previous_of k)) else k) e
      ∙ ap (λ (b : Bool). if b then previous_of (twin_at halves (previous_of k)) else k) f

  -- what goes to a number is a half-edge, comes from where it was, and is a member where it was one
  record Goes (k : ℕ) : Type 0 where
    pub inside : number_after_all halves set k < length halves
    pub back : before (number_after_all halves set k) ≡ k
    pub free : set k ≡ false → set (number_after_all halves set k) ≡ false

  -- the same where the number has a name
  goes_by : (k i : ℕ) → number_after_all halves set k ≡ i → i < length halves → before i ≡ k → (set k ≡ false → set i ≡ false) → Goes k
  goes_by k i e inside back free = record {
    inside = subst (λ (m : ℕ). m < length halves) (sym e) inside;
    back = ap before e ∙ back;
    free = λ none. ap set e ∙ free none;
  }

  goes : (k : ℕ) → k < length halves → Goes k
  goes k below = elim (cases_Bool (set (previous_of k))) [
    | inl e ↦
        let p = previous_of k in
        goes_by k (next_of k) (number_following halves set k e) (next_inside d halves k valid below) (before_preceding (next_of k) (ap set (next_next k) ∙ e) ∙ previous_next k)
        (λ none. ap set (sym (previous_previous k)) ∙ spread.before p (previous_inside d halves k valid below) e)
    | inr a ↦ elim (cases_Bool (set (next_of k))) [
      | inl e ↦
          let h = next_of k in
          let at = next_inside d halves k valid below in
          let g = twin_at halves h in
          let at_g = twin_inside d halves h valid at in
          let member : set g ≡ true = spread.twin h at ∙ e in
          goes_by k (next_of g) (number_preceding halves set k a e) (next_inside d halves g valid at_g)
          (before_following (next_of g) (ap set (next_next g) ∙ spread.before g at_g member) (ap set (previous_next g) ∙ member)
          ∙ ap (λ (i : ℕ). previous_of (twin_at halves i)) (previous_next g) ∙ ap previous_of (valid.paired h at).1 ∙ previous_next k)
          (λ none. spread.after g at_g member)
      | inr b ↦ goes_by k k (number_staying halves set k a b) below (before_staying k b a) (λ none. none)
    ]
  ]

  -- ---- the half-edges after the flips
  new_vector : ℕ → Vector Quad
  new_vector k =
      if set k then opposite_vector (quad_ops d) (vector_sum (quad_ops d) (vector_at halves (previous_of_twin halves k)) (vector_at halves (next_of k)))
      else vector_at halves (before k)

  new_half : ℕ → Half
  new_half k = record { vec = record { s = (new_vector k).0; t = (new_vector k).1 }; twin = number_after_all halves set (twin_at halves (before k)) }

  pub flipped : List Half
  flipped = map new_half (range_with_len 0 (length halves))

  vector_new : (k : ℕ) → k < length halves → vector_at flipped k ≡ new_vector k
  unfolding new_half flipped
  vector_new k below = ap (λ (half : Half). vector half.vec) (get_or-map-range_with_len new_half 0 (length halves) k k no_half below (omega arith))

  twin_new : (k : ℕ) → k < length halves → twin_at flipped k ≡ number_after_all halves set (twin_at halves (before k))
  unfolding new_half flipped
  twin_new k below = ap (λ (half : Half). half.twin) (get_or-map-range_with_len new_half 0 (length halves) k k no_half below (omega arith))

  member_vector : (k : ℕ) → set k ≡ true → new_vector k ≡ opposite_vector (quad_ops d) (vector_sum (quad_ops d) (vector_at halves (previous_of_twin halves k)) (vector_at halves (next_of k)))
  unfolding new_vector
  member_vector k e =
      ap (λ (b : Bool). if b then opposite_vector (quad_ops d) (vector_sum (quad_ops d) (vector_at halves (previous_of_twin halves k)) (vector_at halves (next_of k))) else vector_at halves (before k)) e

  other_vector : (k : ℕ) → set k ≡ false → new_vector k ≡ vector_at halves (before k)
  unfolding new_vector
  other_vector k e =
      ap (λ (b : Bool). if b then opposite_vector (quad_ops d) (vector_sum (quad_ops d) (vector_at halves (previous_of_twin halves k)) (vector_at halves (next_of k))) else vector_at halves (before k)) e

  pub flipped_some : AreFlipped d halves set flipped
  unfolding flipped
  flipped_some = record {
    count = length-map-range_with_len new_half 0 (length halves);
    diagonals = λ k below member. vector_new k below ∙ member_vector k member;
    vectors = λ k below free.
        let there = goes k below in
        vector_new (number_after_all halves set k) there.inside ∙ other_vector (number_after_all halves set k) (there.free free) ∙ ap (vector_at halves) there.back;
    twins = λ k below.
        let there = goes k below in
        twin_new (number_after_all halves set k) there.inside ∙ ap (λ (i : ℕ). number_after_all halves set (twin_at halves i)) there.back;
  }
