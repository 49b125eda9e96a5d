-- A walk over all triangles, and half-edges carried along it.
use Rattle.std.proofs.Common.{◌≡◌, ℕ, zero, suc, ◌+◌, ◌*◌, ◌/◌, ◌<◌, ◌≤◌, Bool, true, false, List, [], ◌∷◌, ◌++◌, length, get_or, set, replicate, refl, sym, ◌∙◌, ap, subst, arith, inl, inr}
use Rattle.std.specs.Prelude.{not, cond, count_by}
use Rattle.std.proofs.lemmas.List.Sums.{sum_by-set, count_by-le-length}
use Rattle.std.proofs.lemmas.Bool.{cases_eq, cases_lt, both_ways}
use Rattle.std.proofs.lemmas.List.{get_or_append_left, get_or_push, get_or-set_same, get_or-set_other, length_push, length-set, length-replicate}
use Rattle.graph_search.specs.Search.{IsMarked, IsLater}
use Rattle.tri_core.specs.declared.half.Half.{Half}
use Rattle.tri_core.specs.HalfEdges.{vector_at, twin_at, triangle_of, next_of, previous_of}
use Rattle.tri_core.specs.Slots.{HasPairs}
use Rattle.tri_core.specs.Triangulation.{IsTriangle}
use Rattle.tri_core.specs.Walks.{AreGlued, IsPath, ComesInto, IsWalk, IsWalkSoFar, Carries, CarriesAt, AreSameTriangle, IsPlaced, AreInside, AgreeBefore}
use Rattle.tri_core.proofs.Triangles.{next_next, of_one_triangle}

-- ---- the walk
-- with one half-edge more
module _ (halves : List Half) (entered : List Bool) (walk : List ℕ) (h : ℕ) (below : h < length halves) (pairs : HasPairs halves)
    (so_far : IsWalkSoFar halves entered walk) (here : ComesInto walk (triangle_of h)) where
  abbrev twin : ℕ
  twin = twin_at halves h

  abbrev longer : List ℕ
  longer = walk ++ twin ∷ []

  old : (i : ℕ) → i < length walk → get_or longer i 0 ≡ get_or walk i 0
  old i inside = get_or_append_left walk (twin ∷ []) 0 i inside

  new : (i : ℕ) → length walk ≡ i → get_or longer i 0 ≡ twin
  new i e = get_or_push walk twin 0 i e

  long : length longer ≡ length walk + 1
  long = omega (arith, length_push walk twin)

  path_more : IsPath halves longer
  path_more = record {
    start = old 0 (let some = here.1 in omega arith) ∙ so_far.path.start;
    inside = λ i inside. elim (cases_lt i (length walk)) [
      | inl less ↦ subst (λ (m : ℕ). m < length halves) (sym (old i less)) (so_far.path.inside i less)
      | inr more ↦ subst (λ (m : ℕ). m < length halves) (sym (new i (omega (arith, long)))) (pairs.inside h below)
    ];
    before = λ i some inside. elim (cases_lt i (length walk)) [
      | inl less ↦
          let b = so_far.path.before i some less in
          (b.0, b.1, ap (λ (m : ℕ). triangle_of (twin_at halves m)) (old i less) ∙ b.2 ∙ ap triangle_of (sym (old b.0 (omega (arith, b.1)))))
      | inr more ↦
          let e : length walk ≡ i = omega (arith, long) in (
            here.0,
            omega (arith, here.1),
            ap (λ (m : ℕ). triangle_of (twin_at halves m)) (new i e) ∙ ap triangle_of (pairs.back h below) ∙ sym here.2 ∙ ap triangle_of (sym (old here.0 here.1)),
          )
    ];
  }

  comes_more : (t : ℕ) → ComesInto walk t → ComesInto longer t
  comes_more t c = (c.0, omega (arith, long, c.1), ap triangle_of (old c.0 c.1) ∙ c.2)

  pub walk_more : IsWalkSoFar halves (set entered (triangle_of twin) true) longer
  walk_more = record {
    as_many = ap (λ n. 3 * n) (length-set entered (triangle_of twin) true) ∙ so_far.as_many;
    path = path_more;
    marked = λ t m. elim (cases_eq t (triangle_of twin)) [
      | inl e ↦ (length walk, omega (arith, long), ap triangle_of (new (length walk) refl) ∙ sym e)
      | inr other ↦ comes_more t (so_far.marked t (sym (get_or-set_other entered (triangle_of twin) t true false other) ∙ m))
    ];
  }

-- the walk before its first step
pub walk_start : (halves : List Half) (n : ℕ) → AreGlued halves → n ≡ length halves / 3 → IsWalkSoFar halves (set (replicate n false) 0 true) (0 ∷ [])
walk_start halves n glued is = record {
  as_many = let long = length-set (replicate n false) 0 true in let all = length-replicate n false in let whole = glued.count.0 in omega arith;
  path = record {
    start = refl;
    inside = λ i below. let e : i ≡ 0 = omega arith in let some : 0 < length halves = (let count = glued.count.1 in omega arith) in subst (λ (m : ℕ). get_or (0 ∷ []) m 0 < length halves) (sym e) some;
    before = λ i some below. absurd (omega arith);
  };
  marked = λ t m. elim (cases_eq t 0) [
    | inl e ↦ let s : triangle_of 0 ≡ t = omega arith in (0, omega arith, s)
    | inr other ↦ absurd (both_ways (get_or (replicate n false) t false) (unmarked n t) (sym (get_or-set_other (replicate n false) 0 t true false other) ∙ m))
  ];
}
  where
    unmarked : (n t : ℕ) → get_or (replicate n false) t false ≡ false
    unmarked zero t = refl
    unmarked (suc n) zero = refl
    unmarked (suc n) (suc t) = unmarked n t

pub start_marked : (n : ℕ) → 0 < n → IsMarked (set (replicate n false) 0 true) 0
start_marked n some = get_or-set_same (replicate n false) 0 true false (omega (arith, length-replicate n false))

-- one triangle is entered, and there is room for the others
pub start_room : (n : ℕ) → 0 < n → 1 + count_by not (set (replicate n false) 0 true) ≤ n
start_room zero some = absurd (omega arith)
start_room (suc n) some =
    let marks = replicate (suc n) false in
    let here : 0 < length marks = omega (arith, length-replicate (suc n) false) in
    let less : count_by not (set marks 0 true) + 1 ≡ count_by not marks + 0 = sum_by-set (λ b. cond (not b) 1 0) marks 0 true false here in
    omega (arith, less, count_by-le-length not marks, length-replicate (suc n) false)

-- the triangles across the sides of those of the walk's first n half-edges are marked
pub record AreAcross (halves : List Half) (entered : List Bool) (walk : List ℕ) (n : ℕ) : Type 0 where
  pub marked : (i : ℕ) → i < n → (k : ℕ) → triangle_of (get_or walk i 0) ≡ triangle_of k → IsMarked entered (triangle_of (twin_at halves k))

pub across_none : (halves : List Half) (entered : List Bool) (walk : List ℕ) → AreAcross halves entered walk 0
across_none halves entered walk = record { marked = λ i below. absurd (omega arith) }

pub across_more : (halves : List Half) (entered later : List Bool) (walk longer : List ℕ) (n h : ℕ) → n < length walk → get_or walk n 0 ≡ h → IsLater entered walk later longer
    → IsMarked later (triangle_of (twin_at halves h)) → IsMarked later (triangle_of (twin_at halves (next_of h))) → IsMarked later (triangle_of (twin_at halves (previous_of h)))
    → AreAcross halves entered walk n → AreAcross halves later longer (n + 1)
across_more halves entered later walk longer n h inside is after own next previous before = record {
  marked = λ i below k same. elim (cases_lt i n) [
    | inl less ↦ after.marked (triangle_of (twin_at halves k)) (before.marked i less k (ap triangle_of (sym (after.same i (omega arith))) ∙ same))
    | inr more ↦
        let e : n ≡ i = omega arith in
        let here : triangle_of h ≡ triangle_of k = ap triangle_of (sym is ∙ sym (after.same n inside) ∙ ap (λ (m : ℕ). get_or longer m 0) e) ∙ same in
        elim (of_one_triangle h k here) [
          | inl s ↦ subst (λ (m : ℕ). IsMarked later (triangle_of (twin_at halves m))) (sym s) own
          | inr o ↦ elim o [
            | inl s ↦ subst (λ (m : ℕ). IsMarked later (triangle_of (twin_at halves m))) (sym s) next
            | inr s ↦ subst (λ (m : ℕ). IsMarked later (triangle_of (twin_at halves m))) (sym s) previous
          ]
        ]
  ];
}

-- a walk whose triangles have all been looked at comes into every triangle
pub walk_whole : (halves : List Half) (entered : List Bool) (walk : List ℕ) (n : ℕ) → AreGlued halves → length walk ≤ n → IsMarked entered 0
    → IsWalkSoFar halves entered walk → AreAcross halves entered walk n → IsWalk halves walk
walk_whole halves entered walk n glued all start so_far across = record {
  path = so_far.path;
  all = λ t there. so_far.marked t (glued.joined t there (λ u. get_or entered u false) start (λ h below marked.
      let c = so_far.marked (triangle_of h) marked in
      across.marked c.0 (omega (arith, c.1)) h c.2));
}

-- ---- images along the walk
previous_carried : (one two : List Half) (h : ℕ) (forth : ℕ → ℕ) → next_of h < length one → h < length one → Carries one two forth → forth (previous_of h) ≡ previous_of (forth h)
previous_carried one two h forth next below carries =
    ap forth (sym (next_next h)) ∙ carries.next (next_of h) next ∙ ap next_of (carries.next h below) ∙ next_next (forth h)

-- the half-edges behind one of whole triangles
next_within : (halves : List Half) (h : ℕ) → AreGlued halves → h < length halves → next_of h < length halves
next_within halves h glued below = let whole = glued.count.0 in omega arith

previous_within : (halves : List Half) (h : ℕ) → AreGlued halves → h < length halves → previous_of h < length halves
previous_within halves h glued below = let whole = glued.count.0 in omega arith

module _ (one two : List Half) (walk : List ℕ) (glued : AreGlued one) (is : IsWalk one walk) where
  -- the image of a half-edge of the walk by that of its twin
  pub image_next : (i : ℕ) (images : List ℕ) (forth : ℕ → ℕ) → 0 < i → i < length walk → Carries one two forth → AgreeBefore one walk i forth images
      → twin_at two (get_or images (twin_at one (get_or walk i 0)) 0) ≡ forth (get_or walk i 0)
  image_next i images forth some inside carries agree =
      let h : ℕ = get_or walk i 0 in
      let below : h < length one = is.path.inside i inside in
      let across : twin_at one h < length one = glued.pairs.inside h below in
      let b = is.path.before i some inside in
      let image : get_or images (twin_at one h) 0 ≡ forth (twin_at one h) = agree (twin_at one h) across (b.0, b.1, sym b.2) in
      ap (twin_at two) image ∙ sym (carries.twin (twin_at one h) across) ∙ ap forth (glued.pairs.back h below)

  -- the first one goes to the start
  pub image_first : (i start : ℕ) (forth : ℕ → ℕ) → i ≡ 0 → forth 0 ≡ start → start ≡ forth (get_or walk i 0)
  image_first i start forth e f = sym f ∙ ap forth (sym (ap (λ (m : ℕ). get_or walk m 0) e ∙ is.path.start))

  -- carried half-edges have the vectors of their triangles
  pub same_carried : (h : ℕ) (forth : ℕ → ℕ) → h < length one → Carries one two forth → AreSameTriangle one two h (forth h)
  same_carried h forth below carries =
      let next = next_within one h glued below in
      record {
        own = carries.vectors h below;
        next = ap (vector_at two) (sym (carries.next h below)) ∙ carries.vectors (next_of h) next;
        previous = ap (vector_at two) (sym (previous_carried one two h forth next below carries)) ∙ carries.vectors (previous_of h) (previous_within one h glued below);
      }

  -- with the next triangle's images
  pub agree_more : (i h g : ℕ) (images later : List ℕ) (forth : ℕ → ℕ) → i < length walk → get_or walk i 0 ≡ h → IsPlaced images h g later → Carries one two forth → g ≡ forth h
      → AgreeBefore one walk i forth images → AgreeBefore one walk (i + 1) forth later
  agree_more i h g images later forth inside at placed carries image agree k below c =
      elim (cases_eq (triangle_of k) (triangle_of h)) [
        | inl same ↦ elim (of_one_triangle h k (sym same)) [
          | inl s ↦ ap (λ (m : ℕ). get_or later m 0) s ∙ placed.own ∙ image ∙ ap forth (sym s)
          | inr o ↦ elim o [
            | inl s ↦ ap (λ (m : ℕ). get_or later m 0) s ∙ placed.next ∙ ap next_of image ∙ sym (carries.next h own) ∙ ap forth (sym s)
            | inr s ↦ ap (λ (m : ℕ). get_or later m 0) s ∙ placed.previous ∙ ap previous_of image ∙ sym (previous_carried one two h forth (next_within one h glued own) own carries) ∙ ap forth (sym s)
          ]
        ]
        | inr other ↦
            let not_last : ¬ (c.0 ≡ i) = λ e. other (sym c.2 ∙ ap (λ (m : ℕ). triangle_of (get_or walk m 0)) e ∙ ap triangle_of at) in
            placed.others k other ∙ agree k below (c.0, omega (arith, c.1, not_last), c.2)
      ]
    where
      own : h < length one
      own = subst (λ (m : ℕ). m < length one) at (is.path.inside i inside)

  -- at the end of the walk all images agree
  pub agree_all : (i : ℕ) (forth : ℕ → ℕ) (images : List ℕ) → length walk ≤ i → AgreeBefore one walk i forth images → (k : ℕ) → k < length one → get_or images k 0 ≡ forth k
  agree_all i forth images all agree k below =
      let there : IsTriangle one (triangle_of k) = omega arith in
      let c = is.all (triangle_of k) there in
      agree k below (c.0, omega (arith, c.1), c.2)

-- placed images are inside
pub placed_inside : (two : List Half) (h g : ℕ) (images later : List ℕ) → AreGlued two → g < length two → IsPlaced images h g later → AreInside images two → AreInside later two
placed_inside two h g images later glued below placed inside k within =
    elim (cases_eq (triangle_of k) (triangle_of h)) [
      | inl same ↦ elim (of_one_triangle h k (sym same)) [
        | inl s ↦ subst (λ (m : ℕ). m < length two) (sym (ap (λ (m : ℕ). get_or later m 0) s ∙ placed.own)) below
        | inr o ↦ elim o [
          | inl s ↦ subst (λ (m : ℕ). m < length two) (sym (ap (λ (m : ℕ). get_or later m 0) s ∙ placed.next)) (next_within two g glued below)
          | inr s ↦ subst (λ (m : ℕ). m < length two) (sym (ap (λ (m : ℕ). get_or later m 0) s ∙ placed.previous)) (previous_within two g glued below)
        ]
      ]
      | inr other ↦ subst (λ (m : ℕ). m < length two) (sym (placed.others k other)) (inside k (omega (arith, placed.count)))
    ]

-- ---- carried half-edges
-- at each half-edge
pub carries_from_each : (one two : List Half) (forth : ℕ → ℕ) → ((k : ℕ) → k < length one → forth k < length two) → ((k : ℕ) → k < length one → CarriesAt one two forth k) → Carries one two forth
carries_from_each one two forth inside each = record {
  inside = inside;
  next = λ k below. (each k below).next;
  twin = λ k below. (each k below).twin;
  vectors = λ k below. (each k below).vectors;
}

pub carries_each : (one two : List Half) (forth : ℕ → ℕ) (k : ℕ) → k < length one → Carries one two forth → CarriesAt one two forth k
carries_each one two forth k below carries = record { next = carries.next k below; twin = carries.twin k below; vectors = carries.vectors k below }

-- the same by equal images
pub carries_alike : (one two : List Half) (forth images : ℕ → ℕ) → AreGlued one → ((k : ℕ) → k < length one → images k ≡ forth k) → Carries one two forth → Carries one two images
carries_alike one two forth images glued same carries = record {
  inside = λ k below. subst (λ (m : ℕ). m < length two) (sym (same k below)) (carries.inside k below);
  next = λ k below. same (next_of k) (next_within one k glued below) ∙ carries.next k below ∙ ap next_of (sym (same k below));
  twin = λ k below. same (twin_at one k) (glued.pairs.inside k below) ∙ carries.twin k below ∙ ap (twin_at two) (sym (same k below));
  vectors = λ k below. ap (vector_at two) (same k below) ∙ carries.vectors k below;
}
