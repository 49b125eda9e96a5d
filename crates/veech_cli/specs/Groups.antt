-- The matrices of a base: the quotients of the tree of its classes, and of their turns.
use Rattle.std.specs.Prelude.{ℕ, ◌≤◌, ℤ, List, length}
use Rattle.std.specs.Ordering.{int_cmp}
use Rattle.std.specs.Cmp.Lexicographic.{slice_cmp}
use Rattle.quad_field.specs.declared.formula.Formula.{Formula}
use Rattle.plane.specs.Matrices.{FieldMatrix}
use Rattle.tri_core.specs.declared.half.Half.{Half}
use Rattle.terrain.specs.declared.graph.Lead.{Lead}
use Rattle.terrain.specs.Graphs.{IsGraph}
use Rattle.canon_code.specs.Codes.{IsCode}
use Rattle.class_node.specs.Classes.{field_numbers, HasWalls}
use Rattle.class_node.specs.Leads.{IsFrame, LeadsBy}
use Rattle.quotient.specs.Trees.{IsTree}
use Rattle.quotient.specs.Quotients.{AreQuotients}
use Rattle.quotient.specs.Width.{IsWideIn}
use Rattle.returning.specs.Turns.{AreTurns}

-- the graph of the classes that are reached from a base: the base's frame, the codes, the leads of each class, the place of the base's class, and the turns of each class
pub record IsGraphOf (d : ℕ) (base : List Half) (first : FieldMatrix) (codes : List (List ℤ)) (rows : List (List (Lead FieldMatrix))) (place : ℕ) (turns : List (List FieldMatrix)) : Type 0 where
  pub root : List ℤ
  pub code : IsCode d base root
  pub frame : IsFrame d base root first
  pub graph : IsGraph (slice_cmp int_cmp) (HasWalls (field_numbers d)) (LeadsBy (field_numbers d)) root codes rows place
  pub turns_each : AreTurns d codes turns

-- the matrices of a base with these classes: the quotients of the tree of its graph and of the turns
pub record AreMatricesOf (d : ℕ) (base : List Half) (codes : List (List ℤ)) (matrices : List FieldMatrix) : Type 0 where
  pub first : FieldMatrix
  pub rows : List (List (Lead FieldMatrix))
  pub place : ℕ
  pub turns : List (List FieldMatrix)
  pub graph : IsGraphOf d base first codes rows place turns
  pub tree : List FieldMatrix
  pub is_tree : IsTree d rows place first tree
  pub quotients : AreQuotients d tree rows turns matrices

-- at most so many classes are reached from a base, and a formula is wide in the tree of its graph or in the quotients
pub record IsWideInMatrices (d : ℕ) (base : List Half) (limit : ℕ) (formula : Formula) : Type 0 where
  pub first : FieldMatrix
  pub codes : List (List ℤ)
  pub rows : List (List (Lead FieldMatrix))
  pub place : ℕ
  pub turns : List (List FieldMatrix)
  pub graph : IsGraphOf d base first codes rows place turns
  pub few : length codes ≤ limit
  pub wide : IsWideIn d rows turns place first formula
