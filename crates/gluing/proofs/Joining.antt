-- It is decided which polygons glue lines join.
use Rattle.std.proofs.Common.{◌≡◌, ◌↔◌, ℕ, ◌⊎◌, inl, inr, Bool, true, false, ◌&&◌, ◌||◌, eqb, IsTrue, List, [], ◌∷◌, refl, subst}
use Rattle.std.specs.List.{AllByRecursion}
use Rattle.std.proofs.lemmas.Bool.{cases_Bool, and_parts, and_from, or_left, or_right, both_ways, eq-eqb, eqb-true}
use Rattle.surface_text.specs.declared.file.Glue.{Glue}
use Rattle.gluing.specs.Gluings.{IsClosedUnderGlues, IsJoined}
use Rattle.gluing.proofs.Decisions.{Decided}

-- whether glue lines join polygon q to polygon p: a path from p to q passes the first line in one direction or in the other, or not at all
abbrev joins : List Glue → ℕ → ℕ → Bool
joins [] p q = eqb p q
joins (g ∷ glues) p q = joins glues p q || ((joins glues p g.p1 && joins glues g.p2 q) || (joins glues p g.p2 && joins glues g.p1 q))

or_cases : (a b : Bool) → (a || b) ≡ true → (a ≡ true) ⊎ (b ≡ true)
or_cases true b h = inl refl
or_cases false b h = inr h

-- each polygon is joined to itself
joins_self : (glues : List Glue) (p : ℕ) → joins glues p p ≡ true
joins_self [] p = eq-eqb p p refl
joins_self (g ∷ glues) p = or_left (joins glues p p) ((joins glues p g.p1 && joins glues g.p2 p) || (joins glues p g.p2 && joins glues g.p1 p)) (joins_self glues p)

module _ (g : Glue) (glues : List Glue) (p q : ℕ) where
  -- a path that doesn't pass the first line, passes it, or passes it back
  past : joins glues p q ≡ true → joins (g ∷ glues) p q ≡ true
  past h = or_left (joins glues p q) ((joins glues p g.p1 && joins glues g.p2 q) || (joins glues p g.p2 && joins glues g.p1 q)) h

  along : joins glues p g.p1 ≡ true → joins glues g.p2 q ≡ true → joins (g ∷ glues) p q ≡ true
  along h k =
      or_right (joins glues p q) ((joins glues p g.p1 && joins glues g.p2 q) || (joins glues p g.p2 && joins glues g.p1 q))
      (or_left (joins glues p g.p1 && joins glues g.p2 q) (joins glues p g.p2 && joins glues g.p1 q) (and_from (joins glues p g.p1) (joins glues g.p2 q) h k))

  back : joins glues p g.p2 ≡ true → joins glues g.p1 q ≡ true → joins (g ∷ glues) p q ≡ true
  back h k =
      or_right (joins glues p q) ((joins glues p g.p1 && joins glues g.p2 q) || (joins glues p g.p2 && joins glues g.p1 q))
      (or_right (joins glues p g.p1 && joins glues g.p2 q) (joins glues p g.p2 && joins glues g.p1 q) (and_from (joins glues p g.p2) (joins glues g.p1 q) h k))

  cases : {X : Type 0} → joins (g ∷ glues) p q ≡ true → (joins glues p q ≡ true → X) → (joins glues p g.p1 ≡ true → joins glues g.p2 q ≡ true → X)
      → (joins glues p g.p2 ≡ true → joins glues g.p1 q ≡ true → X) → X
  cases h a b c = elim (or_cases (joins glues p q) ((joins glues p g.p1 && joins glues g.p2 q) || (joins glues p g.p2 && joins glues g.p1 q)) h) [
    | inl k ↦ a k
    | inr more ↦ elim (or_cases (joins glues p g.p1 && joins glues g.p2 q) (joins glues p g.p2 && joins glues g.p1 q) more) [
      | inl k ↦ let both = and_parts (joins glues p g.p1) (joins glues g.p2 q) k in b both.0 both.1
      | inr k ↦ let both = and_parts (joins glues p g.p2) (joins glues g.p1 q) k in c both.0 both.1
    ]
  ]

-- what is joined to p is a set that is closed under the first line
closed_first : (g : Glue) (glues : List Glue) (p : ℕ) → (IsTrue (joins (g ∷ glues) p g.p1) ↔ IsTrue (joins (g ∷ glues) p g.p2))
closed_first g glues p = (
  (λ h. cases g glues p g.p1 h (λ k. along g glues p g.p2 k (joins_self glues g.p2)) (λ k _. along g glues p g.p2 k (joins_self glues g.p2)) (λ k _. past g glues p g.p2 k)),
  (λ h. cases g glues p g.p2 h (λ k. back g glues p g.p1 k (joins_self glues g.p1)) (λ k _. past g glues p g.p1 k) (λ k _. back g glues p g.p1 k (joins_self glues g.p1))),
)

-- and under a line that joins no more with the others
closed_rest : (g h : Glue) (glues : List Glue) → ((p : ℕ) → (IsTrue (joins glues p h.p1) ↔ IsTrue (joins glues p h.p2)))
    → (p : ℕ) → (IsTrue (joins (g ∷ glues) p h.p1) ↔ IsTrue (joins (g ∷ glues) p h.p2))
closed_rest g h glues closed p = (
  (λ j. cases g glues p h.p1 j (λ k. past g glues p h.p2 ((closed p).0 k)) (λ k l. along g glues p h.p2 k ((closed g.p2).0 l)) (λ k l. back g glues p h.p2 k ((closed g.p1).0 l))),
  (λ j. cases g glues p h.p2 j (λ k. past g glues p h.p1 ((closed p).1 k)) (λ k l. along g glues p h.p1 k ((closed g.p2).1 l)) (λ k l. back g glues p h.p1 k ((closed g.p1).1 l))),
)

-- the line joins its two polygons with all others
abbrev IsHeld : List Glue → Glue → Type 0
IsHeld glues h = (p : ℕ) → (IsTrue (joins glues p h.p1) ↔ IsTrue (joins glues p h.p2))

more_held : (g : Glue) (glues lines : List Glue) → AllByRecursion (IsHeld glues) lines → AllByRecursion (IsHeld (g ∷ glues)) lines
more_held g glues [] all = tt
more_held g glues (h ∷ lines) all = (closed_rest g h glues all.0, more_held g glues lines all.1)

all_held : (glues : List Glue) → AllByRecursion (IsHeld glues) glues
all_held [] = tt
all_held (g ∷ glues) = (closed_first g glues, more_held g glues glues (all_held glues))

held_from : (glues lines : List Glue) (p : ℕ) → AllByRecursion (IsHeld glues) lines → IsClosedUnderGlues lines (joins glues p)
held_from glues [] p all = tt
held_from glues (h ∷ lines) p all = (all.0 p, held_from glues lines p all.1)

-- a set that is closed under glues holds what is joined to what it holds
joins_within : (glues : List Glue) (set : ℕ → Bool) → IsClosedUnderGlues glues set → (p q : ℕ) → joins glues p q ≡ true → IsTrue (set p) → IsTrue (set q)
joins_within [] set closed p q h there = subst (λ (x : ℕ). IsTrue (set x)) (eqb-true p q h) there
joins_within (g ∷ glues) set closed p q h there = cases g glues p q h
    (λ k. joins_within glues set closed.1 p q k there)
    (λ k l. joins_within glues set closed.1 g.p2 q l (closed.0.0 (joins_within glues set closed.1 p g.p1 k there)))
    (λ k l. joins_within glues set closed.1 g.p1 q l (closed.0.1 (joins_within glues set closed.1 p g.p2 k there)))

-- whether a polygon is joined to polygon 0
pub decide_joined : (glues : List Glue) (p : ℕ) → Decided (IsJoined glues p)
decide_joined glues p = elim (cases_Bool (joins glues 0 p)) [
  | inl is ↦ inl (λ set start closed. joins_within glues set closed 0 p is start)
  | inr isnt ↦ inr (λ joined. both_ways (joins glues 0 p) isnt (joined (joins glues 0) (joins_self glues 0) (held_from glues glues 0 (all_held glues))))
]
