-- What an exploration of the classes from a base's code says of the codes that are reached from the base.
use Rattle.std.proofs.Common.{◌≡◌, ℕ, ◌<◌, ◌≤◌, ◌⊎◌, inl, inr, List, length, map, sym, subst}
use Rattle.std.specs.Prelude.{◌↔◌, ℤ, Option, None, Some}
use Rattle.std.specs.List.{Contains}
use Rattle.std.specs.Ordering.{int_cmp}
use Rattle.std.specs.Cmp.Lexicographic.{slice_cmp}
use Rattle.std.proofs.lemmas.List.{map-id}
use mathlib.Core.Logic.{∥∥₁_elim, ∥∥₁_prop}
use Rattle.quad_field.specs.FieldNumber.{IsFieldNumber}
use Rattle.plane.specs.Matrices.{FieldMatrix}
use Rattle.tri_core.specs.declared.half.Half.{Half}
use Rattle.tri_core.specs.Triangulation.{IsTriangulation}
use Rattle.canon_code.specs.Codes.{IsCode}
use Rattle.terrain.specs.declared.graph.Lead.{Lead}
use Rattle.terrain.specs.Graphs.{IsGraph}
use Rattle.terrain.specs.Causes.{MoreAreReached, IsStuckWithin}
use Rattle.class_node.specs.declared.fault.ClassFault.{ClassFault}
use Rattle.class_node.specs.Classes.{field_numbers, field_of, HasWalls}
use Rattle.class_node.specs.Leads.{LeadsBy}
use Rattle.class_node.specs.Reached.{IsReachedCode, IsReachedKey, IsRootOf}
use Rattle.class_node.specs.Stuck.{IsStuckOver, IsStuck, IsStuckAt}
use Rattle.veech_cli.specs.Classes.{AreClassesWithin, MoreAreReachedCodes, IsWideAtClass}

-- the law that reached keys are reached codes
abbrev pub AreSound : Type 0
AreSound = (t root : List ℤ) (base : List Half) (k : List ℤ) → IsRootOf t root base → IsReachedKey t root k → IsReachedCode (field_of t) base k

-- the law that the keys of a graph are exactly the reached codes
abbrev pub AreExact : Type 0
AreExact =
    (t root : List ℤ) (base : List Half) (keys : List (List ℤ)) (rows : List (List (Lead FieldMatrix))) (place : ℕ) → IsRootOf t root base
    → IsGraph (slice_cmp int_cmp) (HasWalls t) (LeadsBy t) root keys rows place → (k : List ℤ) → Contains keys k ↔ IsReachedCode (field_of t) base k

module _ (d : ℕ) (base : List Half) (root : List ℤ) (field : IsFieldNumber d) (valid : IsTriangulation d base) (code : IsCode d base root) where
  -- the code of the base is a root over its field
  is_root : IsRootOf (field_numbers d) root base
  is_root = record { field = field; valid = valid; code = code }

  -- the keys of the graph are the classes
  pub graph_classes : AreExact → (limit : ℕ) (codes : List (List ℤ)) (rows : List (List (Lead FieldMatrix))) (place : ℕ)
      → IsGraph (slice_cmp int_cmp) (HasWalls (field_numbers d)) (LeadsBy (field_numbers d)) root (map (λ code. code) codes) rows place → length codes ≤ limit → AreClassesWithin d base limit codes
  graph_classes exact limit codes rows place graph few = record { reached = exact (field_numbers d) root base codes rows place is_root own; ascending = own.ascending; few = few }
    where
      own : IsGraph (slice_cmp int_cmp) (HasWalls (field_numbers d)) (LeadsBy (field_numbers d)) root codes rows place
      own = subst (λ (keys : List (List ℤ)). IsGraph (slice_cmp int_cmp) (HasWalls (field_numbers d)) (LeadsBy (field_numbers d)) root keys rows place) (map-id codes) graph

  -- more keys are more classes
  pub more_classes : AreSound → (limit : ℕ) → MoreAreReached (HasWalls (field_numbers d)) (LeadsBy (field_numbers d)) root limit → MoreAreReachedCodes d base limit
  more_classes sound limit (keys, more, all) =
      record { codes = keys; more = more; once = all.once; reached = λ i k at. sound (field_numbers d) root base k is_root (all.reached i k at) }

  -- a stuck class is a reached one, and a formula is wide at it
  pub stuck_class : AreSound → (key : List ℤ) (fault : ClassFault)
      → IsStuckWithin (HasWalls (field_numbers d)) (LeadsBy (field_numbers d)) (IsStuck (field_numbers d)) (IsStuckAt (field_numbers d)) root key fault
      → IsReachedCode d base key × IsWideAtClass d key fault.wall fault.formula
  stuck_class sound key fault (known, stuck) = (sound (field_numbers d) root base key is_root known, ∥∥₁_elim stuck (one_proof fault.wall) wide)
    where
      one_proof : (wall : Option ℕ) → IsProp (IsWideAtClass d key wall fault.formula)
      one_proof None = ∥∥₁_prop
      one_proof (Some wall) = ∥∥₁_prop

      over : IsStuckOver d key fault → IsWideAtClass d key fault.wall fault.formula
      over (none, at) = subst (λ (wall : Option ℕ). IsWideAtClass d key wall fault.formula) (sym none) ∣ at ∣₁

      wide : IsStuck (field_numbers d) key fault ⊎ ((n w : ℕ) × HasWalls (field_numbers d) key n × (w < n) × IsStuckAt (field_numbers d) key w fault) → IsWideAtClass d key fault.wall fault.formula
      wide (inl own) = over own
      wide (inr (n, w, has, within, inl own)) = over own
      wide (inr (n, w, has, within, inr (some, at))) = subst (λ (wall : Option ℕ). IsWideAtClass d key wall fault.formula) (sym some) ∣ at ∣₁

-- a graph of the terrain over a field that is that of the base is one over the base's
pub graph_over : (t d : ℕ) → t ≡ d → (root : List ℤ) (codes : List (List ℤ)) (rows : List (List (Lead FieldMatrix))) (place : ℕ)
    → IsGraph (slice_cmp int_cmp) (HasWalls (field_numbers t)) (LeadsBy (field_numbers t)) root (map (λ code. code) codes) rows place
    → IsGraph (slice_cmp int_cmp) (HasWalls (field_numbers d)) (LeadsBy (field_numbers d)) root codes rows place
graph_over t d same root codes rows place graph =
    subst (λ (keys : List (List ℤ)). IsGraph (slice_cmp int_cmp) (HasWalls (field_numbers d)) (LeadsBy (field_numbers d)) root keys rows place) (map-id codes)
    (subst (λ (x : ℕ). IsGraph (slice_cmp int_cmp) (HasWalls (field_numbers x)) (LeadsBy (field_numbers x)) root (map (λ code. code) codes) rows place) same graph)

-- the same of the terrain over a field that is that of the base
module _ (t d : ℕ) (same : t ≡ d) (base : List Half) (root : List ℤ) (field : IsFieldNumber d) (valid : IsTriangulation d base) (code : IsCode d base root) where
  pub graph_there : AreExact → (limit : ℕ) (codes : List (List ℤ)) (rows : List (List (Lead FieldMatrix))) (place : ℕ)
      → IsGraph (slice_cmp int_cmp) (HasWalls (field_numbers t)) (LeadsBy (field_numbers t)) root (map (λ code. code) codes) rows place → length codes ≤ limit → AreClassesWithin d base limit codes
  graph_there exact limit codes rows place graph few =
      graph_classes d base root field valid code exact limit codes rows place
      (subst (λ (x : ℕ). IsGraph (slice_cmp int_cmp) (HasWalls (field_numbers x)) (LeadsBy (field_numbers x)) root (map (λ code. code) codes) rows place) same graph) few

  pub more_there : AreSound → (limit : ℕ) → MoreAreReached (HasWalls (field_numbers t)) (LeadsBy (field_numbers t)) root limit → MoreAreReachedCodes d base limit
  more_there sound limit more =
      more_classes d base root field valid code sound limit (subst (λ (x : ℕ). MoreAreReached (HasWalls (field_numbers x)) (LeadsBy (field_numbers x)) root limit) same more)

  pub stuck_there : AreSound → (key : List ℤ) (fault : ClassFault)
      → IsStuckWithin (HasWalls (field_numbers t)) (LeadsBy (field_numbers t)) (IsStuck (field_numbers t)) (IsStuckAt (field_numbers t)) root key fault
      → IsReachedCode d base key × IsWideAtClass d key fault.wall fault.formula
  stuck_there sound key fault stuck =
      stuck_class d base root field valid code sound key fault
      (subst (λ (x : ℕ). IsStuckWithin (HasWalls (field_numbers x)) (LeadsBy (field_numbers x)) (IsStuck (field_numbers x)) (IsStuckAt (field_numbers x)) root key fault) same stuck)
