-- The edges of a wall in any order: the same half-edges, and so the same crossing.
use Rattle.std.proofs.Common.{◌≡◌, ◌≢◌, ◌⊎◌, ℕ, ◌<◌, Bool, true, false, List, length, get_or, swap, IsPermutation, refl, sym, ap, ◌∙◌, subst, inl, inr, arith}
use Rattle.std.specs.Prelude.{slice_index}
use Rattle.std.specs.List.{Contains}
use Rattle.std.proofs.lemmas.Bool.{cases_Bool, cases_eq, true≢false, false_from_ne_true}
use Rattle.std.proofs.lemmas.List.Edits.{Swapped, swapped_from_swap, length-swap}
use Rattle.std.proofs.lemmas.List.Elements.{Contains-get_or}
use Rattle.std.proofs.lemmas.List.Sorted.{IsPermutation-keeps, IsPermutation-sym, Contains-permutation}
use Rattle.quad_field.specs.FieldNumber.{IsFieldNumber}
use Rattle.tri_core.specs.declared.half.Half.{Half}
use Rattle.tri_core.specs.HalfEdges.{twin_at, triangle_of}
use Rattle.tri_core.specs.Triangulation.{IsTriangulation}
use Rattle.tri_core.specs.SeveralFlips.{AfterFirst, is_among, IsSpread, AreFlipped}
use Rattle.tri_core.proofs.CallerLemmas.{of_one_triangle, twin_inside, among_cases, among_from, all_first, flipped_once}
use Rattle.hinge_form.specs.Triples.{Triple}
use Rattle.hinge_form.specs.Walls.{IsWall, IsEdgeOf}
use Rattle.hinge_form.proofs.CallerLemmas.{edge_of_wall}
use Rattle.wall_cross.specs.Crossings.{AreAllFlipped}
use Rattle.wall_cross.specs.WallEdges.{IsBeside, ShareNoTriangle}
use Rattle.wall_cross.proofs.Members.{place_of, wall_spread}

-- ---- lists without repetitions
-- each number once
abbrev AreOnce : List ℕ → Type 0
AreOnce xs = (i j : ℕ) → i < length xs → j < length xs → slice_index xs i ≡ slice_index xs j → i ≡ j

-- where an exchange of a and b took the number at m from
came_from : (xs ys : List ℕ) (a b m : ℕ) → Swapped (λ i. get_or xs i 0) (λ i. get_or ys i 0) a b
    → (k : ℕ) × (((m ≡ a) × (k ≡ b)) ⊎ (((m ≡ b) × (k ≡ a)) ⊎ ((m ≢ a) × (m ≢ b) × (k ≡ m)))) × (slice_index ys m ≡ slice_index xs k)
came_from xs ys a b m s = elim (cases_eq m a) [
  | inl e ↦ (b, inl (e, refl), ap (slice_index ys) e ∙ s.0)
  | inr n ↦ elim (cases_eq m b) [
    | inl e ↦ (a, inr (inl (e, refl)), ap (slice_index ys) e ∙ s.1)
    | inr o ↦ (m, inr (inr (n, o, refl)), s.2 m n o)
  ]
]

once_exchanged : (xs : List ℕ) (a b : ℕ) → a < length xs → b < length xs → AreOnce xs → AreOnce (swap xs a b)
once_exchanged xs a b p q once i j less within e =
    let len = length-swap xs a b in
    let s = swapped_from_swap xs (swap xs a b) a b 0 p q refl in
    let x = came_from xs (swap xs a b) a b i s in
    let y = came_from xs (swap xs a b) a b j s in
    let same = once x.0 y.0 (omega (arith, x.1)) (omega (arith, y.1)) (sym x.2 ∙ e ∙ y.2) in
    omega (arith, x.1, y.1)

once_reordered : (xs ys : List ℕ) → IsPermutation xs ys → AreOnce xs → AreOnce ys
once_reordered xs ys moved once = IsPermutation-keeps xs AreOnce once once_exchanged ys moved

module _ (d : ℕ) (field : IsFieldNumber d) (halves : List Half) (valid : IsTriangulation d halves) (form : Triple) (edges : List ℕ) (wall : IsWall d halves form edges) where
  -- ---- the triangles of two edges
  own_edge : (h : ℕ) → Contains edges h → IsEdgeOf d halves form h
  own_edge h c = edge_of_wall d field halves valid form edges wall h c

  -- a half-edge of an edge of the wall is a member
  member_of : (h k : ℕ) → Contains edges h → (k ≡ h) ⊎ (k ≡ twin_at halves h) → is_among halves edges (length edges) k ≡ true
  member_of h k c is =
      let at = place_of edges h c in
      among_from halves edges (length edges) k at.0 at.1 (subst (λ (m : ℕ). (k ≡ m) ⊎ (k ≡ twin_at halves m)) (sym at.2) is)

  -- and of a triangle one side at most is one
  one_side : (i j : ℕ) → i < length halves → is_among halves edges (length edges) i ≡ true → is_among halves edges (length edges) j ≡ true → triangle_of i ≡ triangle_of j → j ≡ i
  one_side i j below a b same =
      let spread = wall_spread d field halves valid form edges wall in
      elim (of_one_triangle i j same) [
        | inl e ↦ e
        | inr o ↦ elim o [
          | inl e ↦ absurd (true≢false (sym (subst (λ (m : ℕ). is_among halves edges (length edges) m ≡ true) e b) ∙ spread.after i below a))
          | inr e ↦ absurd (true≢false (sym (subst (λ (m : ℕ). is_among halves edges (length edges) m ≡ true) e b) ∙ spread.before i below a))
        ]
      ]

  -- two edges of the wall with a half-edge in common are one
  one_edge : (h k i : ℕ) → Contains edges h → Contains edges k → (i ≡ h) ⊎ (i ≡ twin_at halves h) → (i ≡ k) ⊎ (i ≡ twin_at halves k) → h ≡ k
  one_edge h k i a b x y =
      let first = (own_edge h a).0 in
      let second = (own_edge k b).0 in
      let first_back = (valid.paired h first.0).1 in
      let second_back = (valid.paired k second.0).1 in
      elim x [
        | inl e ↦ elim y [
          | inl f ↦ sym e ∙ f
          | inr f ↦
              let same : h ≡ twin_at halves k = sym e ∙ f in
              let other : twin_at halves h ≡ k = ap (twin_at halves) same ∙ second_back in
              absurd (omega (arith, first.1, second.1))
        ]
        | inr e ↦ elim y [
          | inl f ↦
              let same : twin_at halves h ≡ k = sym e ∙ f in
              let other : twin_at halves k ≡ h = ap (twin_at halves) (sym same) ∙ first_back in
              absurd (omega (arith, first.1, second.1))
          | inr f ↦ sym first_back ∙ ap (twin_at halves) (sym e ∙ f) ∙ second_back
        ]
      ]

  pub none_shared : (h k : ℕ) → Contains edges h → Contains edges k → ¬ (h ≡ k) → ShareNoTriangle halves h k
  none_shared h k a b other t x y =
      let i = half_beside h t x in
      let j = half_beside k t y in
      let inside : i.0 < length halves = half_inside h i.0 a i.1 in
      let same : j.0 ≡ i.0 = one_side i.0 j.0 inside (member_of h i.0 a i.1) (member_of k j.0 b j.1) (sym i.2 ∙ j.2) in
      other (one_edge h k i.0 a b i.1 (subst (λ (m : ℕ). (m ≡ k) ⊎ (m ≡ twin_at halves k)) same j.1))
    where
      half_beside : (h t : ℕ) → IsBeside halves h t → (i : ℕ) × ((i ≡ h) ⊎ (i ≡ twin_at halves h)) × (t ≡ triangle_of i)
      half_beside h t x = elim x [ inl e ↦ (h, inl refl, e) | inr e ↦ (twin_at halves h, inr refl, e) ]

      half_inside : (h i : ℕ) → Contains edges h → (i ≡ h) ⊎ (i ≡ twin_at halves h) → i < length halves
      half_inside h i c is =
          let below = (own_edge h c).0.0 in
          elim is [
            | inl e ↦ subst (λ (m : ℕ). m < length halves) (sym e) below
            | inr e ↦ subst (λ (m : ℕ). m < length halves) (sym e) (twin_inside d halves h valid below)
          ]

  -- ---- another order
  module _ (others : List ℕ) (moved : IsPermutation edges others) where
    there : (i : ℕ) → i < length others → Contains edges (slice_index others i)
    there i less = Contains-permutation others edges (slice_index others i) (IsPermutation-sym edges others moved) (Contains-get_or others i 0 less)

    others_inside : (i : ℕ) → i < length others → slice_index others i < length halves
    others_inside i less = (own_edge (slice_index others i) (there i less)).0.0

    others_once : AreOnce others
    others_once = once_reordered edges others moved (λ i j p q e. place_once i j p q e)
      where
        place_once : (i j : ℕ) → i < length edges → j < length edges → slice_index edges i ≡ slice_index edges j → i ≡ j
        place_once i j p q e =
            let below : ¬ (i < j) = λ less. let up : slice_index edges i < slice_index edges j = wall.all.ascends i j less q in omega arith in
            let above : ¬ (j < i) = λ less. let up : slice_index edges j < slice_index edges i = wall.all.ascends j i less p in omega arith in
            omega arith

    others_fresh : (i : ℕ) → i < length others → is_among halves others i (slice_index others i) ≡ false
    others_fresh i less = false_from_ne_true _ (λ e. never (among_cases halves others i (slice_index others i) e))
      where
        never : (j : ℕ) × (j < i) × ((slice_index others i ≡ slice_index others j) ⊎ (slice_index others i ≡ twin_at halves (slice_index others j))) → ⊥
        never (j, before, is) =
            let within : j < length others = omega arith in
            let same : slice_index others i ≡ slice_index others j =
            one_edge (slice_index others i) (slice_index others j) (slice_index others i) (there i less) (there j within) (inl refl) is in
            let one : i ≡ j = others_once i j less within same in
            omega arith

    -- the same half-edges
    same_members : (k : ℕ) → is_among halves others (length others) k ≡ is_among halves edges (length edges) k
    same_members k = elim (cases_Bool (is_among halves others (length others) k)) [
      | inl e ↦
          let found = among_cases halves others (length others) k e in
          e ∙ sym (member_of (slice_index others found.0) k (there found.0 found.1) found.2)
      | inr none ↦ none ∙ sym (false_from_ne_true _ (λ e.
          let found = among_cases halves edges (length edges) k e in
          let at = place_of others (slice_index edges found.0) (Contains-permutation edges others (slice_index edges found.0) moved (Contains-get_or edges found.0 0 found.1)) in
          true≢false (sym (among_from halves others (length others) k at.0 at.1 (subst (λ (m : ℕ). (k ≡ m) ⊎ (k ≡ twin_at halves m)) (sym at.2) found.2)) ∙ none)))
    ]

    one_set : is_among halves others (length others) ≡ is_among halves edges (length edges)
    one_set = λ t k. same_members k t

    pub in_any_order : (later : List Half) → AfterFirst d others (length others) halves later → AreAllFlipped d halves edges later
    in_any_order later after =
        subst (λ (set : ℕ → Bool). AreFlipped d halves set later) one_set
        (all_first d halves valid others others_inside others_fresh
        (subst (λ (set : ℕ → Bool). IsSpread halves set) (sym one_set) (wall_spread d field halves valid form edges wall)) (length others) later (omega arith) after)

  -- only one crossing
  pub one_crossing : (one two : List Half) → AreAllFlipped d halves edges one → AreAllFlipped d halves edges two → one ≡ two
  one_crossing one two a b = flipped_once d halves valid (is_among halves edges (length edges)) (wall_spread d field halves valid form edges wall) one two a b
