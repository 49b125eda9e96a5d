-- The steps of the search for the nodes that can be reached from node 0.
use Rattle.std.proofs.Common.{◌≡◌, ℕ, ◌+◌, ◌<◌, ◌≤◌, ◌⊎◌, ◌↔◌, zero, suc, Bool, true, false, cond, List, [], ◌∷◌, ◌++◌, All, length, get_or, set, replicate, Option, Some, None, refl, sym, ◌∙◌, ap, subst, inl, inr, arith}
use Rattle.std.proofs.lemmas.Bool.{cases_eq, cases_lt, cases_Bool, cond-true, cond-false, both_ways}
use Rattle.std.proofs.lemmas.List.{get_or-set_same, get_or-set_other, get_or_append_left, get_or_push, set-get_or, length_push, length-set, length-replicate}
use Rattle.std.proofs.lemmas.List.Elements.{All-get_or, All-from_get_or}
use Rattle.graph_search.specs.Reachable.{IsGraph, IsReachable, IsFirstApart}
use Rattle.graph_search.specs.Search.{IsMarked, IsFirstUnmarked, IsSearch, IsLater}

-- a mark stays where another is made
pub IsMarked-set : (marks : List Bool) (t x : ℕ) → t < length marks → IsMarked marks x → IsMarked (set marks t true) x
IsMarked-set marks t x inside marked =
    elim (cases_eq x t) [
      | inl e ↦ subst (λ (n : ℕ). IsMarked (set marks t true) n) (sym e) (get_or-set_same marks t true false inside)
      | inr ne ↦ get_or-set_other marks t x true false ne ∙ marked
    ]

-- what is marked was marked before, or is the new one
IsMarked-set_cases : (marks : List Bool) (t x : ℕ) → IsMarked (set marks t true) x → IsMarked marks x ⊎ (x ≡ t)
IsMarked-set_cases marks t x marked =
    elim (cases_eq x t) [ inl e ↦ inr e | inr ne ↦ inl (sym (get_or-set_other marks t x true false ne) ∙ marked) ]

-- a mark that is made twice
set-marked : (marks : List Bool) (t : ℕ) → IsMarked marks t → set marks t true ≡ marks
set-marked marks t marked = ap (λ b. set marks t b) (sym marked) ∙ set-get_or marks t false

-- a place that is marked is one
pub IsMarked-inside : (marks : List Bool) (t : ℕ) → IsMarked marks t → t < length marks
IsMarked-inside [] t marked = absurd (both_ways false refl marked)
IsMarked-inside (b ∷ marks) zero marked = omega arith
IsMarked-inside (b ∷ marks) (suc t) marked = let below = IsMarked-inside marks t marked in omega arith

unmarked_all : (n t : ℕ) → get_or (replicate n false) t false ≡ false
unmarked_all zero t = refl
unmarked_all (suc n) zero = refl
unmarked_all (suc n) (suc t) = unmarked_all n t

-- the neighbour at a place of a node's list is a node
pub neighbour_inside : (n : ℕ) (neighbours : ℕ → List ℕ) (node place other : ℕ) → IsGraph n neighbours → node < n → place < length (neighbours node)
    → other ≡ get_or (neighbours node) place 0 → other < n
neighbour_inside n neighbours node place other graph inside there is =
    subst (λ (x : ℕ). x < n) (sym is) (All-get_or (λ (x : ℕ). x < n) (neighbours node) place 0 there (graph node inside))

-- with one more node
IsSearch-more : (n : ℕ) (neighbours : ℕ → List ℕ) (marks : List Bool) (found : List ℕ) (t : ℕ) → t < length marks → IsReachable n neighbours t
    → IsSearch n neighbours marks found → IsSearch n neighbours (set marks t true) (found ++ t ∷ [])
IsSearch-more n neighbours marks found t inside reached s = record {
  as_many = length-set marks t true ∙ s.as_many;
  all_marked = λ k h. elim (cases_lt k (length found)) [
    | inl below ↦ subst (λ (m : ℕ). IsMarked (set marks t true) m) (sym (get_or_append_left found (t ∷ []) 0 k below)) (IsMarked-set marks t (get_or found k 0) inside (s.all_marked k below))
    | inr above ↦
        let e : length found ≡ k = omega (arith, length_push found t) in
        subst (λ (m : ℕ). IsMarked (set marks t true) m) (sym (get_or_push found t 0 k e)) (get_or-set_same marks t true false inside)
  ];
  all_found = λ x h. elim (IsMarked-set_cases marks t x h) [
    | inl old ↦
        let w = s.all_found x old in
        (w.0, (omega (arith, length_push found t)), get_or_append_left found (t ∷ []) 0 w.0 w.1 ∙ w.2)
    | inr e ↦ (length found, (omega (arith, length_push found t)), get_or_push found t 0 (length found) refl ∙ sym e)
  ];
  all_reached = λ x h. elim (IsMarked-set_cases marks t x h) [
    | inl old ↦ s.all_reached x old
    | inr e ↦ subst (IsReachable n neighbours) (sym e) reached
  ];
}

pub IsLater-same : (marks : List Bool) (found : List ℕ) → IsLater marks found marks found
IsLater-same marks found = record { marked = λ t h. h; longer = omega arith; same = λ k h. refl }

IsLater-more : (marks : List Bool) (found : List ℕ) (t : ℕ) → t < length marks → IsLater marks found (set marks t true) (found ++ t ∷ [])
IsLater-more marks found t inside = record {
  marked = λ x h. IsMarked-set marks t x inside h;
  longer = omega (arith, length_push found t);
  same = λ k h. get_or_append_left found (t ∷ []) 0 k h;
}

pub IsLater-along : (m : List Bool) (f : List ℕ) (n : List Bool) (g : List ℕ) (o : List Bool) (h : List ℕ) → IsLater m f n g → IsLater n g o h → IsLater m f o h
IsLater-along m f n g o h first second = record {
  marked = λ t a. second.marked t (first.marked t a);
  longer = omega arith;
  same = λ k a. second.same k (omega arith) ∙ first.same k a;
}

-- what `reach` leaves of marks and of found
pub record IsReached (marks : List Bool) (found : List ℕ) (t : ℕ) (new_marks : List Bool) (new_found : List ℕ) : Type 0 where
  pub marks_are : new_marks ≡ set marks t true
  pub found_are : new_found ≡ cond (get_or marks t false) found (found ++ t ∷ [])

pub IsSearch-reach : (n : ℕ) (neighbours : ℕ → List ℕ) (marks : List Bool) (found : List ℕ) (t : ℕ) (m : List Bool) (g : List ℕ) → t < length marks → IsReachable n neighbours t
    → IsReached marks found t m g → IsSearch n neighbours marks found → IsSearch n neighbours m g
IsSearch-reach n neighbours marks found t m g inside reached r s =
    elim (cases_Bool (get_or marks t false)) [
      | inl is ↦ rw (r.marks_are ∙ set-marked marks t is, r.found_are ∙ cond-true (get_or marks t false) found (found ++ t ∷ []) is) s
      | inr isnt ↦ rw (r.marks_are, r.found_are ∙ cond-false (get_or marks t false) found (found ++ t ∷ []) isnt) (IsSearch-more n neighbours marks found t inside reached s)
    ]

pub IsLater-reach : (marks : List Bool) (found : List ℕ) (t : ℕ) (m : List Bool) (g : List ℕ) → t < length marks → IsReached marks found t m g → IsLater marks found m g
IsLater-reach marks found t m g inside r =
    elim (cases_Bool (get_or marks t false)) [
      | inl is ↦ rw (r.marks_are ∙ set-marked marks t is, r.found_are ∙ cond-true (get_or marks t false) found (found ++ t ∷ []) is) (IsLater-same marks found)
      | inr isnt ↦ rw (r.marks_are, r.found_are ∙ cond-false (get_or marks t false) found (found ++ t ∷ []) isnt) (IsLater-more marks found t inside)
    ]

pub IsMarked-reach : (marks : List Bool) (found : List ℕ) (t : ℕ) (m : List Bool) (g : List ℕ) → t < length marks → IsReached marks found t m g → IsMarked m t
IsMarked-reach marks found t m g inside r = rw r.marks_are (get_or-set_same marks t true false inside)

-- the search before any node is found
pub IsSearch-none : (n : ℕ) (neighbours : ℕ → List ℕ) → IsSearch n neighbours (replicate n false) []
IsSearch-none n neighbours = record {
  as_many = length-replicate n false;
  all_marked = λ k h. absurd (omega arith);
  all_found = λ t h. absurd (both_ways (get_or (replicate n false) t false) (unmarked_all n t) h);
  all_reached = λ t h. absurd (both_ways (get_or (replicate n false) t false) (unmarked_all n t) h);
}

-- the neighbours of the first m nodes found are marked
pub record AreVisited (neighbours : ℕ → List ℕ) (marks : List Bool) (found : List ℕ) (m : ℕ) : Type 0 where
  pub marked : (k : ℕ) → k < m → All (IsMarked marks) (neighbours (get_or found k 0))

pub AreVisited-none : (neighbours : ℕ → List ℕ) (marks : List Bool) (found : List ℕ) → AreVisited neighbours marks found 0
AreVisited-none neighbours marks found = record { marked = λ k below. absurd (omega arith) }

-- marks that stay
All-later : (marks : List Bool) (found : List ℕ) (later_marks : List Bool) (later_found : List ℕ) (xs : List ℕ) → IsLater marks found later_marks later_found
    → All (IsMarked marks) xs → All (IsMarked later_marks) xs
All-later marks found later_marks later_found xs later all =
    All-from_get_or (IsMarked later_marks) xs 0 (λ k inside. later.marked (get_or xs k 0) (All-get_or (IsMarked marks) xs k 0 inside all))

pub AreVisited-more : (neighbours : ℕ → List ℕ) (m : List Bool) (f : List ℕ) (o : List Bool) (g : List ℕ) (count t : ℕ) → count < length f → get_or f count 0 ≡ t → IsLater m f o g
    → All (IsMarked o) (neighbours t) → AreVisited neighbours m f count → AreVisited neighbours o g (count + 1)
AreVisited-more neighbours m f o g count t inside is later reached visited = record {
  marked = λ k below.
      elim (cases_lt k count) [
        | inl before ↦
            subst (λ (x : ℕ). All (IsMarked o) (neighbours x)) (sym (later.same k (omega arith)))
            (All-later m f o g (neighbours (get_or f k 0)) later (visited.marked k before))
        | inr after ↦
            let here : k ≡ count = omega arith in
            subst (λ (x : ℕ). All (IsMarked o) (neighbours x)) (sym (ap (λ (x : ℕ). get_or g x 0) here ∙ later.same count inside ∙ is)) reached
      ];
}

-- when every node found was visited, the marked nodes are those that can be reached
pub reachable-from_search : (n : ℕ) (neighbours : ℕ → List ℕ) (marks : List Bool) (found : List ℕ) (m : ℕ) → length found ≤ m → IsMarked marks 0
    → IsSearch n neighbours marks found → AreVisited neighbours marks found m → (t : ℕ) → (IsMarked marks t ↔ IsReachable n neighbours t)
reachable-from_search n neighbours marks found m all start s visited t = (
  s.all_reached t,
  λ reached. reached (λ x. get_or marks x false) start (λ node inside marked.
      let w = s.all_found node marked in
      subst (λ (x : ℕ). All (IsMarked marks) (neighbours x)) w.2 (visited.marked w.0 (omega (arith, w.1)))),
)

-- the first node that isn't marked is the first that can't be reached
pub first_apart-from_marks : (n : ℕ) (neighbours : ℕ → List ℕ) (marks : List Bool) (o : Option ℕ) → length marks ≡ n
    → ((t : ℕ) → (IsMarked marks t ↔ IsReachable n neighbours t)) → IsFirstUnmarked marks o → IsFirstApart n neighbours o
first_apart-from_marks n neighbours marks None count same first = λ t inside. (same t).0 (first t (omega arith))
first_apart-from_marks n neighbours marks (Some t) count same first = record {
  node = omega (arith, first.0);
  fails = λ reached. first.1 ((same t).1 reached);
  before = λ k below. (same k).0 (first.2 k below);
}
