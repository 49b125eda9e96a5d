-- Serves private clauses alone: the values of the edges of a triangulation, and the set of the edges of negative value, as they are kept.
use Rattle.std.specs.Prelude.{◌≡◌, ◌≢◌, ◌↔◌, ◌⊎◌, ℕ, pos, ◌<◌, List, [], ◌∷◌, length, slice_index_or, slice_set, vec_len}
use Rattle.quad_field.specs.declared.quad.Quad.{Quad}
use Rattle.quad_field.specs.Quads.{quad, quad_ops, IsPositive}
use Rattle.tri_core.specs.declared.half.Half.{Half}
use Rattle.tri_core.specs.HalfEdges.{twin_at, next_of, previous_of}
use Rattle.tri_core.specs.Flips.{IsEdge}
use Rattle.hinge_form.specs.Hinges.{Triple}
use Rattle.delaunay_flip.specs.Words.{Holds}
use Rattle.delaunay_flip.specs.Flipping.{IsNegative, IsValueAt}
use Rattle.delaunay_flip.specs.Widths.{EdgeFits}
use Rattle.delaunay_flip.specs.declared.edge_values.EdgeValues.{EdgeValues}

-- the number that a table has for half-edge h
abbrev pub entry : EdgeValues → ℕ → Quad
entry table h = slice_index_or table.values.items h (quad (pos 0) (pos 0))

-- what a table has for half-edge h is so: an edge fits and its entry is its value, and h is in the set exactly where its value is negative
pub record IsRightAt (d : ℕ) (q : Triple) (halves : List Half) (table : EdgeValues) (h : ℕ) : Type 0 where
  pub fits : IsEdge halves h → EdgeFits d q halves h
  pub value : IsEdge halves h → IsValueAt d q halves h (entry table h)
  pub negative : Holds table.negative.words h ↔ IsNegative d q halves h

-- of half-edge h and its twin, low is the name of their edge, and high isn't
pub record IsNamed (halves : List Half) (h low high : ℕ) : Type 0 where
  pub edge : IsEdge halves low
  pub inside : high < length halves
  pub other : ¬ (IsEdge halves high)
  pub names : ((h ≡ low) × (twin_at halves h ≡ high)) ⊎ ((h ≡ high) × (twin_at halves h ≡ low))

-- k is half-edge h or its twin
abbrev pub IsOf : List Half → ℕ → ℕ → Type 0
IsOf halves h k = (k ≡ h) ⊎ (k ≡ twin_at halves h)

-- k is one of these half-edges, or the twin of one
abbrev pub IsOfSome : List Half → List ℕ → ℕ → Type 0
IsOfSome halves [] k = ⊥
IsOfSome halves (h ∷ sides) k = IsOf halves h k ⊎ IsOfSome halves sides k

-- what a table has is so, but perhaps for these half-edges and their twins
pub record IsTableBut (d : ℕ) (q : Triple) (halves : List Half) (sides : List ℕ) (table : EdgeValues) : Type 0 where
  pub count : vec_len table.values ≡ length halves
  pub right : (h : ℕ) → ¬ (IsOfSome halves sides h) → IsRightAt d q halves table h

-- all that a table has is so
abbrev pub IsTable : ℕ → Triple → List Half → EdgeValues → Type 0
IsTable d q halves table = IsTableBut d q halves [] table

-- a later table has the number v for h, and for all others what an earlier one has
pub record IsEntered (d h : ℕ) (v : Quad) (earlier later : EdgeValues) : Type 0 where
  pub count : vec_len later.values ≡ vec_len earlier.values
  pub values : later.values.items ≡ slice_set earlier.values.items h v
  pub this : Holds later.negative.words h ↔ IsPositive d ((quad_ops d).neg v)
  pub others : (k : ℕ) → k ≢ h → Holds later.negative.words k ↔ Holds earlier.negative.words k

-- a later table has what is so for half-edge h and its twin, and for all others what an earlier one has
pub record IsRenewed (d : ℕ) (q : Triple) (halves : List Half) (h : ℕ) (earlier later : EdgeValues) : Type 0 where
  pub here : (k : ℕ) → IsOf halves h k → IsRightAt d q halves later k
  pub entries : (k : ℕ) → ¬ (IsOf halves h k) → entry later k ≡ entry earlier k
  pub sets : (k : ℕ) → ¬ (IsOf halves h k) → Holds later.negative.words k ↔ Holds earlier.negative.words k

-- the sides of the two triangles at edge h, its twin aside
abbrev pub sides_of : List Half → ℕ → List ℕ
sides_of halves h = h ∷ next_of h ∷ previous_of h ∷ next_of (twin_at halves h) ∷ previous_of (twin_at halves h) ∷ []
