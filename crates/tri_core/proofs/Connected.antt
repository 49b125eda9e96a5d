-- A set of triangles that is closed under twins and holds some triangle holds all.
use Rattle.std.proofs.Common.{◌≡◌, ℕ, Bool, true, false, IsTrue, List, sym, ap, subst, inl, inr}
use Rattle.std.specs.Prelude.{not}
use Rattle.std.proofs.lemmas.Bool.{cases_Bool, both_ways}
use Rattle.tri_core.specs.declared.half.Half.{Half}
use Rattle.tri_core.specs.HalfEdges.{twin_at, triangle_of}
use Rattle.tri_core.specs.Triangulation.{IsTriangulation, IsTriangle, IsClosedUnderTwins}

module _ (d : ℕ) (halves : List Half) (valid : IsTriangulation d halves) (set : ℕ → Bool) (closed : IsClosedUnderTwins halves set) where
  outside_of : (b : Bool) → not b ≡ true → b ≡ false
  outside_of true e = sym e
  outside_of false e = λ i. false

  -- the triangles that aren't in the set are closed under twins as well, since twins are twins both ways
  complement_closed : IsClosedUnderTwins halves (λ t. not (set t))
  complement_closed h below out = elim (cases_Bool (set (triangle_of (twin_at halves h)))) [
    | inl within ↦
        let paired = valid.paired h below in
        let here : set (triangle_of h) ≡ true = subst (λ (k : ℕ). set (triangle_of k) ≡ true) paired.1 (closed (twin_at halves h) paired.0 within) in
        absurd (both_ways (set (triangle_of h)) (outside_of (set (triangle_of h)) out) here)
    | inr without ↦ ap not without
  ]

  pub joined_from : (t : ℕ) → IsTriangle halves t → IsTrue (set t) → (u : ℕ) → IsTriangle halves u → IsTrue (set u)
  joined_from t there holds u here = elim (cases_Bool (set 0)) [
    | inl start ↦ valid.joined u here set start closed
    | inr none ↦ absurd (both_ways (set t) (outside_of (set t) (valid.joined t there (λ s. not (set s)) (ap not none) complement_closed)) holds)
  ]
