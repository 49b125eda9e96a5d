-- What the crates above cite: lemmas on trees and their quotients that speak of public definitions alone.
use Rattle.std.proofs.Common.{◌≡◌, ℕ, ◌<◌, sym, subst, List, length}
use Rattle.rings.specs.Matrices.{matrix_det}
use Rattle.quad_field.specs.FieldNumber.{IsFieldNumber}
use Rattle.quad_field.specs.Quads.{quad_ops, IsPositive}
use Rattle.plane.specs.Matrices.{FieldMatrix}
use Rattle.plane.proofs.CallerLemmas.{positive_some}
use Rattle.terrain.specs.declared.graph.Lead.{Lead}
use Rattle.terrain.specs.Places.{IsAt}
use Rattle.quotient.specs.Trees.{row_at, HasLead, IsTree}
use Rattle.quotient.specs.Quotients.{AreQuotients}
-- there is one tree, its matrices have inverses, and there is one list of its quotients
pub use Rattle.quotient.proofs.OneTree.{same_tree, tree_invertible}
pub use Rattle.quotient.proofs.OneList.{same_quotients}

-- where the first matrix, the links and the turns have positive determinants, there is one list
pub one_group : (d : ℕ) (field : IsFieldNumber d) (rows : List (List (Lead FieldMatrix))) (root : ℕ) (first : FieldMatrix) (turns : List (List FieldMatrix))
    → (0 < first.denominator) × IsPositive d (matrix_det (quad_ops d) first.rows)
    → ((c w : ℕ) (lead : Lead FieldMatrix) → c < length rows → HasLead rows c w lead → (0 < lead.link.denominator) × IsPositive d (matrix_det (quad_ops d) lead.link.rows))
    → ((c w : ℕ) (turn : FieldMatrix) → c < length turns → IsAt (row_at turns c) w turn → (0 < turn.denominator) × IsPositive d (matrix_det (quad_ops d) turn.rows))
    → (tree tree_too mats mats_too : List FieldMatrix) → IsTree d rows root first tree → IsTree d rows root first tree_too
    → AreQuotients d tree rows turns mats → AreQuotients d tree_too rows turns mats_too → (tree ≡ tree_too) × (mats ≡ mats_too)
one_group d field rows root first turns first_is links turns_are tree tree_too mats mats_too own its are are_too =
    let some : (c w : ℕ) (lead : Lead FieldMatrix) → c < length rows → HasLead rows c w lead → 0 < lead.link.denominator = λ c w lead inside has. (links c w lead inside has).0 in
    let same : tree ≡ tree_too = same_tree d rows root first first_is.0 some tree tree_too own its in
    let invertible = tree_invertible d rows root first first_is.0 some field (positive_some d field first first_is.1)
    (λ c w lead inside has. positive_some d field lead.link (links c w lead inside has).1) tree own in (
      same,
      same_quotients d field tree rows turns (λ c inside. invertible c (subst (λ (n : ℕ). c < n) own.as_many inside)) some
          (λ c w turn inside has. (turns_are c w turn inside has).0) mats mats_too are (subst (λ (t : List FieldMatrix). AreQuotients d t rows turns mats_too) (sym same) are_too),
    )
