-- Serves clauses of private functions alone: the hinges of a list whose forms differ, and which of them are a line's own.
use Rattle.std.specs.Prelude.{◌≡◌, ◌↔◌, ℕ, ◌<◌, ◌≤◌, Bool, false, IsTrue, List, length, slice_index, slice_index_or}
use Rattle.hinge_form.specs.Triples.{Triple}
use Rattle.hinge_form.specs.Lines.{IsMultiple}
use Rattle.parabola_region.specs.declared.hinge_list.Hinge.{Hinge}
use Rattle.parabola_region.specs.HingeLists.{hinge_at, form_at}

-- the first n hinges of a list have places among its different ones: at a hinge's place stands that hinge or an earlier one, with its form
pub record AreDifferent (forms firsts : List Hinge) (places : List ℕ) (n : ℕ) : Type 0 where
  pub as_many : length places ≡ n
  pub within : (k : ℕ) → k < n → slice_index places k < length firsts
  pub same : (k : ℕ) → k < n → form_at firsts (slice_index places k) ≡ form_at forms k
  pub earlier : (k : ℕ) → k < n → (m : ℕ) × (m ≤ k) × (hinge_at firsts (slice_index places k) ≡ hinge_at forms m)
  pub listed : (p : ℕ) → p < length firsts → (m : ℕ) × (m < n) × (hinge_at firsts p ≡ hinge_at forms m)

-- a hinge before hinge i has its form
abbrev pub HasFormBefore : List Hinge → ℕ → Type 0
HasFormBefore forms i = (m : ℕ) × (m < i) × (form_at forms m ≡ form_at forms i)

-- for each of the first n forms of a list, whether it is a positive multiple of l
pub record AreOwns (d : ℕ) (l : Triple) (forms : List Hinge) (n : ℕ) (owns : List Bool) : Type 0 where
  pub as_many : length owns ≡ n
  pub each : (p : ℕ) → p < n → IsTrue (slice_index_or owns p false) ↔ IsMultiple d l (form_at forms p)
