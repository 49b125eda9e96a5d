-- The classes that crossings reach from a triangulation.
use Rattle.std.specs.Prelude.{ℕ, ◌<◌, ℤ, List}
use Rattle.quad_field.specs.FieldNumber.{IsFieldNumber}
use Rattle.plane.specs.Matrices.{FieldMatrix}
use Rattle.tri_core.specs.declared.half.Half.{Half}
use Rattle.tri_core.specs.Triangulation.{IsTriangulation}
use Rattle.wall_cross.specs.Crossings.{IsReached}
use Rattle.terrain.specs.Reach as keys
use Rattle.canon_code.specs.Codes.{IsCode}
use Rattle.class_node.specs.Classes.{field_of, HasWalls}
use Rattle.class_node.specs.Leads.{LeadsBy}

-- a reached code: the code of a triangulation that finitely many crossings reach from the base
abbrev pub IsReachedCode : ℕ → List Half → List ℤ → Type 0
IsReachedCode d base code = ∥ ((end : List Half) × IsReached d base end × IsCode d end code) ∥₁

-- a key that is reached from a root by the leads of a terrain
abbrev pub IsReachedKey : List ℤ → List ℤ → List ℤ → Type 0
IsReachedKey t root k = keys.IsReached (HasWalls t) (LeadsBy t) root k

-- each key that is reached has a number of walls, each of which leads to a key
abbrev pub HasAllLeads : List ℤ → List ℤ → Type 0
HasAllLeads t root = (k : List ℤ) → IsReachedKey t root k → ∥ ((n : ℕ) × HasWalls t k n × ((w : ℕ) → w < n → (to : List ℤ) × (link : FieldMatrix) × LeadsBy t k w to link)) ∥₁

-- the root is the code of the base, a triangulation over the field of the terrain
pub record IsRootOf (t root : List ℤ) (base : List Half) : Type 0 where
  pub field : IsFieldNumber (field_of t)
  pub valid : IsTriangulation (field_of t) base
  pub code : IsCode (field_of t) base root
