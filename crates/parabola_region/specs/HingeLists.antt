-- Serves clauses of private functions alone: the list of the hinges whose lines have a chord.
use Rattle.std.specs.Prelude.{◌≡◌, ℕ, ◌<◌, ◌⊎◌, List, length, slice_index_or, Option, Some, None}
use Rattle.quad_field.specs.Quads.{IsPositive}
use Rattle.tri_core.specs.declared.half.Half.{Half}
use Rattle.tri_core.specs.Flips.{IsEdge}
use Rattle.hinge_form.specs.Triples.{Triple, of_form, zeros}
use Rattle.hinge_form.specs.Hinges.{IsHalfPlanePoint, hinge_value, IsHingeTriple}
use Rattle.hinge_form.specs.Lines.{HasChord}
use Rattle.parabola_region.specs.declared.hinge_list.Hinge.{Hinge}

-- hinge number i of a list; what is read past the end no definition asks
abbrev pub no_hinge : Hinge
no_hinge = record { edge = 0; form = record { alpha = zeros.0; beta = zeros.1; gamma = zeros.2 } }

abbrev pub hinge_at : List Hinge → ℕ → Hinge
hinge_at forms i = slice_index_or forms i no_hinge

-- its form
abbrev pub form_at : List Hinge → ℕ → Triple
form_at forms i = of_form (hinge_at forms i).form

-- its edge
abbrev pub edge_at : List Hinge → ℕ → ℕ
edge_at forms i = (hinge_at forms i).edge

-- no form of a list is zero
abbrev pub HasForms : List Hinge → Type 0
HasForms forms = (i : ℕ) → i < length forms → ¬ (form_at forms i ≡ zeros)

-- the hinges of a list ascend by their edges
abbrev pub IsAscendingList : List Hinge → Type 0
IsAscendingList forms = (i j : ℕ) → i < j → j < length forms → edge_at forms i < edge_at forms j

-- the value of edge h is positive at every half-plane point
abbrev pub IsPositiveEverywhere : ℕ → List Half → ℕ → Type 0
IsPositiveEverywhere d halves h = (q : Triple) → IsHalfPlanePoint d q → IsPositive d (hinge_value d halves h q)

-- an edge with its hinge triple, whose line has a chord
pub record IsChordHinge (d : ℕ) (halves : List Half) (hinge : Hinge) : Type 0 where
  pub edge : IsEdge halves hinge.edge
  pub triple : IsHingeTriple d halves hinge.edge (of_form hinge.form)
  pub chord : HasChord d (of_form hinge.form)

-- what half-edge h adds to a list of such hinges
abbrev pub IsAdded : ℕ → List Half → ℕ → Option Hinge → Type 0
IsAdded d halves h None = IsEdge halves h → IsPositiveEverywhere d halves h
IsAdded d halves h (Some hinge) = (hinge.edge ≡ h) × IsChordHinge d halves hinge

-- the hinges of edges below n whose lines have a chord, ascending; every other edge below n is positive everywhere
pub record IsHingeList (d : ℕ) (halves : List Half) (n : ℕ) (forms : List Hinge) : Type 0 where
  pub ascends : IsAscendingList forms
  pub below : (i : ℕ) → i < length forms → edge_at forms i < n
  pub each : (i : ℕ) → i < length forms → IsChordHinge d halves (hinge_at forms i)
  pub every : (h : ℕ) → h < n → IsEdge halves h → ((i : ℕ) × (i < length forms) × (edge_at forms i ≡ h)) ⊎ IsPositiveEverywhere d halves h
