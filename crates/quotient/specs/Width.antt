-- When a formula is wide in the tree of a graph or in its quotients.
use Rattle.std.specs.Prelude.{◌≡◌, ◌⊎◌, ℕ, List}
use Rattle.quad_field.specs.declared.formula.Formula.{Formula}
use Rattle.quad_field.specs.declared.formula.Formula.TheVariants.{F10, F11}
use Rattle.plane.specs.Matrices.{FieldMatrix, IsInLowestTerms, IsInverseOf}
use Rattle.plane.specs.MatrixWidth.{ProductFits, InverseFits}
use Rattle.terrain.specs.declared.graph.Lead.{Lead}
use Rattle.terrain.specs.Places.{IsAt}
use Rattle.quotient.specs.Trees.{row_at, HasLead, IsProduct}
use Rattle.quotient.specs.TreeParts.{IsMatrixOf}

-- H(c)·g·H(e)⁻¹ is one of the quotients: g is the link of a lead from place c to place e, or it is a turn of place c, which is e
abbrev pub AreJoined : List (List (Lead FieldMatrix)) → List (List FieldMatrix) → ℕ → FieldMatrix → ℕ → Type 0
AreJoined rows turns c g e =
    ((w : ℕ) × (lead : Lead FieldMatrix) × HasLead rows c w lead × (lead.link ≡ g) × (lead.to ≡ e)) ⊎ ((w : ℕ) × IsAt (row_at turns c) w g × (c ≡ e))

-- i is the inverse of k, in lowest terms
abbrev pub IsInverse : ℕ → FieldMatrix → FieldMatrix → Type 0
IsInverse d k i = IsInLowestTerms i × IsInverseOf d i k

-- the formula is wide in a product or an inverse of the tree or of its quotients, where each factor is in lowest terms
pub data IsWideIn (d : ℕ) (rows : List (List (Lead FieldMatrix))) (turns : List (List FieldMatrix)) (root : ℕ) (first : FieldMatrix) : Formula → Type 0 where
  -- F10 in H(c)·g
  in_product : (c e : ℕ) (g h : FieldMatrix) → AreJoined rows turns c g e → IsMatrixOf d rows root first c h → ¬ (ProductFits d h g) → IsWideIn d rows turns root first F10
  -- F11 in H(c)⁻¹
  in_inverse : (c : ℕ) (h : FieldMatrix) → IsMatrixOf d rows root first c h → ¬ (InverseFits d h) → IsWideIn d rows turns root first F11
  -- F10 in p·H(e)⁻¹, where p is H(c)·g
  in_quotient : (c e : ℕ) (g h k p i : FieldMatrix) → AreJoined rows turns c g e → IsMatrixOf d rows root first c h → IsMatrixOf d rows root first e k
      → IsProduct d h g p → IsInverse d k i → ¬ (ProductFits d p i) → IsWideIn d rows turns root first F10
