-- The classes that are reached from a base, and the places at a class where a formula is wide.
use Rattle.std.specs.Prelude.{◌≡◌, ◌↔◌, ℕ, ◌<◌, ◌≤◌, ℤ, Option, Some, None, List, length}
use Rattle.std.specs.List.{Contains}
use Rattle.std.specs.Ordering.{int_cmp}
use Rattle.std.specs.Cmp.Lexicographic.{slice_cmp}
use Rattle.quad_field.specs.declared.formula.Formula.{Formula}
use Rattle.tri_core.specs.declared.half.Half.{Half}
use Rattle.canon_code.specs.Canonical.{canonical}
use Rattle.terrain.specs.Places.{IsAt}
use Rattle.terrain.specs.Graphs.{IsAscending}
use Rattle.class_node.specs.Reached.{IsReachedCode}
use Rattle.class_node.specs.Stuck.{IsWideAt, IsWideAtWall}

-- exactly the codes that are reached from a base, strictly ascending in the order of lists of numbers, and at most so many
pub record AreClassesWithin (d : ℕ) (base : List Half) (limit : ℕ) (codes : List (List ℤ)) : Type 0 where
  pub reached : (code : List ℤ) → Contains codes code ↔ IsReachedCode d base code
  pub ascending : IsAscending (slice_cmp int_cmp) codes
  pub few : length codes ≤ limit

-- more than so many codes are reached from a base: there is a longer list of reached codes, each once
pub record MoreAreReachedCodes (d : ℕ) (base : List Half) (limit : ℕ) : Type 0 where
  pub codes : List (List ℤ)
  pub more : limit < length codes
  pub once : (i j : ℕ) (code : List ℤ) → IsAt codes i code → IsAt codes j code → i ≡ j
  pub reached : (i : ℕ) (code : List ℤ) → IsAt codes i code → IsReachedCode d base code

-- a formula is wide at a class, wherever it is: at its canonical triangulation, or at this wall of it
abbrev pub IsWideAtClass : ℕ → List ℤ → Option ℕ → Formula → Type 0
IsWideAtClass d code None formula = ∥ IsWideAt d (canonical d code) formula ∥₁
IsWideAtClass d code (Some wall) formula = ∥ IsWideAtWall d code wall formula ∥₁
