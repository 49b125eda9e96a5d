-- A triangulation has one list of walls.
use Rattle.std.proofs.Common.{◌≡◌, ◌∙◌, ℕ, zero, suc, ◌+◌, ◌<◌, ◌≤◌, List, [], ◌∷◌, length, get_or, refl, ap, ap₂, sym, subst, arith}
use Rattle.std.specs.Prelude.{◌⊎◌, slice_index}
use Rattle.std.specs.List.{Contains}
use Rattle.std.proofs.lemmas.List.{get_or_default}
use Rattle.std.proofs.lemmas.List.Elements.{Contains-get_or}
use Rattle.quad_field.specs.FieldNumber.{IsFieldNumber}
use Rattle.tri_core.specs.declared.half.Half.{Half}
use Rattle.tri_core.specs.Triangulation.{IsTriangulation}
use Rattle.hinge_form.specs.Triples.{Triple}
use Rattle.hinge_form.specs.Hinges.{full_triple, IsHingeTriple}
use Rattle.hinge_form.specs.Lines.{IsMultiple}
use Rattle.hinge_form.specs.Walls.{IsWall, IsEdgeOf}
use Rattle.hinge_form.proofs.CallerLemmas.{least_edge_of, one_triple}
use Rattle.parabola_region.specs.WallLists.{PlainWall, no_wall, wall_at, form_of, edges_of, least_edge, IsWallList}
use Rattle.parabola_region.proofs.Lines.{through, swapped, line_of_multiple}

-- a list ascends by a number of its elements
abbrev Ascends : {X : Type 0} → (X → ℕ) → X → List X → Type 0
Ascends f x xs = (i j : ℕ) → i < j → j < length xs → f (get_or xs i x) < f (get_or xs j x)

-- each element of a list is one of another
abbrev IsWithin : {X : Type 0} → X → List X → List X → Type 0
IsWithin x xs ys = (i : ℕ) → i < length xs → (j : ℕ) × (j < length ys) × (get_or xs i x ≡ get_or ys j x)

-- two ascending lists with the same elements are equal
module _ {X : Type 0} (f : X → ℕ) (x : X) where
  tail_ascends : (y : X) (ys : List X) → Ascends f x (y ∷ ys) → Ascends f x ys
  tail_ascends y ys up i j less under = up (suc i) (suc j) (omega (arith, less)) (omega (arith, under))

  first_less : (y : X) (ys : List X) → Ascends f x (y ∷ ys) → (j : ℕ) → j < length ys → f y < f (get_or ys j x)
  first_less y ys up j under = up 0 (suc j) (omega arith) (omega (arith, under))

  -- of two lists the first elements are equal
  same_first : (y z : X) (ys zs : List X) → Ascends f x (y ∷ ys) → Ascends f x (z ∷ zs) → (i j : ℕ) → i < length (y ∷ ys) → j < length (z ∷ zs) → get_or (y ∷ ys) i x ≡ z → y ≡ get_or (z ∷ zs) j x → y ≡ z
  same_first y z ys zs up also i zero under below e g = g
  same_first y z ys zs up also zero (suc j) under below e g = e
  same_first y z ys zs up also (suc i) (suc j) under below e g =
      let one : f y < f (get_or ys i x) = first_less y ys up i (omega (arith, under)) in
      let two : f z < f (get_or zs j x) = first_less z zs also j (omega (arith, below)) in
      let here : f (get_or ys i x) ≡ f z = ap f e in
      let there : f y ≡ f (get_or zs j x) = ap f g in
      absurd (omega arith)

  -- what is left of the one is within what is left of the other
  tail_within : (y z : X) (ys zs : List X) → Ascends f x (y ∷ ys) → y ≡ z → IsWithin x (y ∷ ys) (z ∷ zs) → IsWithin x ys zs
  tail_within y z ys zs up same within i under = at (within (suc i) (omega (arith, under)))
    where
      at : (j : ℕ) × (j < length (z ∷ zs)) × (get_or ys i x ≡ get_or (z ∷ zs) j x) → (j : ℕ) × (j < length zs) × (get_or ys i x ≡ get_or zs j x)
      at (zero, below, e) =
          let more : f y < f (get_or ys i x) = first_less y ys up i under in
          let back : f (get_or ys i x) ≡ f y = ap f (e ∙ sym same) in
          absurd (omega arith)
      at (suc j, below, e) = (j, omega (arith, below), e)

  pub same_list : (xs ys : List X) → Ascends f x xs → Ascends f x ys → IsWithin x xs ys → IsWithin x ys xs → xs ≡ ys
  same_list [] [] up also within back = refl
  same_list [] (y ∷ ys) up also within back = let none = (back 0 (omega arith)).1 in absurd (omega (arith, none))
  same_list (y ∷ ys) [] up also within back = let none = (within 0 (omega arith)).1 in absurd (omega (arith, none))
  same_list (y ∷ ys) (z ∷ zs) up also within back =
      let to = within 0 (omega arith) in
      let from = back 0 (omega arith) in
      let first : y ≡ z = same_first y z ys zs up also from.0 to.0 from.1 to.1 (sym from.2) to.2 in
      ap₂ (λ (w : X) (ws : List X). w ∷ ws) first
      (same_list ys zs (tail_ascends y ys up) (tail_ascends z zs also) (tail_within y z ys zs up first within) (tail_within z y zs ys also (sym first) back))

-- numbers that ascend and are the same numbers
same_numbers : (one other : List ℕ) → ((i j : ℕ) → i < j → j < length one → slice_index one i < slice_index one j) → ((i j : ℕ) → i < j → j < length other → slice_index other i < slice_index other j)
    → ((h : ℕ) → Contains one h → Contains other h) → ((h : ℕ) → Contains other h → Contains one h) → one ≡ other
same_numbers one other up also forth back = same_list (λ n. n) 0 one other up also (within one other forth) (within other one back)
  where
    within : (xs ys : List ℕ) → ((h : ℕ) → Contains xs h → Contains ys h) → IsWithin 0 xs ys
    within xs ys all i under =
        let held = all (get_or xs i 0) (Contains-get_or xs i 0 under) in
        (held.0, held.1, sym (get_or_default ys held.0 0 (get_or xs i 0) held.1 ∙ held.2))

module _ (d : ℕ) (field : IsFieldNumber d) (halves : List Half) (valid : IsTriangulation d halves) where
  -- two walls with an edge in common are one
  pub one_wall : (form other : Triple) (edges others : List ℕ) (h : ℕ) → IsWall d halves form edges → IsWall d halves other others → Contains edges h → Contains others h
      → (form ≡ other) × (edges ≡ others)
  one_wall form other edges others h wall also has holds = (same_form, same_edges)
    where
      to : IsMultiple d form other
      to = through d field form (full_triple d halves h) other ((wall.all.exactly h).0 has).1 (swapped d field other (full_triple d halves h) ((also.all.exactly h).0 holds).1)

      same_edges : edges ≡ others
      same_edges =
          same_numbers edges others wall.all.ascends also.all.ascends
          (λ k c. let own = (wall.all.exactly k).0 c in (also.all.exactly k).1 (own.0, through d field other form (full_triple d halves k) (swapped d field form other to) own.1))
          (λ k c. let own = (also.all.exactly k).0 c in (wall.all.exactly k).1 (own.0, through d field form other (full_triple d halves k) to own.1))

      same_form : form ≡ other
      same_form =
          one_triple d field halves valid (slice_index others 0) (least_edge_of d field halves valid other others also).0.0 form other
          (subst (λ (list : List ℕ). IsHingeTriple d halves (slice_index list 0) form) same_edges wall.least) also.least

  -- each wall of a list is one of every other list of the triangulation's walls
  each_within : (one other : List PlainWall) → IsWallList d halves one → IsWallList d halves other → IsWithin no_wall one other
  each_within one other list also i under = (found.0, found.1, (λ k. (same.0 k, same.1 k)))
    where
      wall : IsWall d halves (form_of one i) (edges_of one i)
      wall = list.each i under

      h : ℕ
      h = least_edge (wall_at one i)

      own : IsEdgeOf d halves (form_of one i) h
      own = least_edge_of d field halves valid (form_of one i) (edges_of one i) wall

      found : (j : ℕ) × (j < length other) × Contains (edges_of other j) h
      found = also.every h own.0 (line_of_multiple d field halves (form_of one i) (full_triple d halves h) own.1 wall.line)

      same : (form_of one i ≡ form_of other found.0) × (edges_of one i ≡ edges_of other found.0)
      same = one_wall (form_of one i) (form_of other found.0) (edges_of one i) (edges_of other found.0) h wall (also.each found.0 found.1) (Contains-get_or (edges_of one i) 0 0 wall.some) found.2

  pub one_list : (one other : List PlainWall) → IsWallList d halves one → IsWallList d halves other → one ≡ other
  one_list one other list also = same_list least_edge no_wall one other list.ascends also.ascends (each_within one other list also) (each_within other one also list)
