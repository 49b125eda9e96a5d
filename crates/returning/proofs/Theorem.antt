-- The quotients of a complete graph generate exactly the returning derivatives, and each has determinant one.
use Rattle.std.proofs.Common.{ℕ, ◌<◌, refl, sym, subst, List, length}
use mathlib.Core.Logic.{∥∥₁_elim, ∥∥₁_map, ∥∥₁_prop}
use Rattle.std.specs.Prelude.{ℤ, ◌↔◌}
use Rattle.std.specs.List.{Contains}
use Rattle.std.specs.Coded.{×_prop}
use Rattle.std.specs.Ordering.{int_cmp}
use Rattle.std.specs.Cmp.Lexicographic.{slice_cmp}
use Rattle.plane.specs.Matrices.{FieldMatrix}
use Rattle.tri_core.specs.declared.half.Half.{Half}
use Rattle.tri_core.specs.Images.{IsImageBy}
use Rattle.wall_cross.specs.Crossings.{LiesBehind, IsReached}
use Rattle.wall_cross.proofs.CarriedCallers.{reached_valid}
use Rattle.terrain.specs.declared.graph.Lead.{Lead}
use Rattle.terrain.specs.Graphs.{IsGraph}
use Rattle.class_node.specs.Classes.{field_of, HasWalls}
use Rattle.class_node.specs.Leads.{IsFrame}
use Rattle.class_node.specs.Leads as class
use Rattle.class_node.specs.Reached.{IsRootOf}
use Rattle.quotient.specs.Trees.{HasLead, IsTree}
use Rattle.quotient.specs.Quotients.{AreQuotients}
use Rattle.returning.specs.Returning.{IsMatrix, IsReturning, IsProductOf, empty, longer, divided, IsGenerated, HasDeterminantOne}
use Rattle.returning.specs.Turns.{AreTurns}
use Rattle.returning.proofs.Groups.{IsWord, empty as empty', longer as longer', divided as divided', Returns}
use Rattle.returning.proofs.Generation.{generation}
use Rattle.returning.proofs.Matrices.{Turning, Same, unit, product, matrix_group}
use Rattle.returning.proofs.Images.{Image, images, image_self, to_path, from_path}
use Rattle.returning.proofs.Classes.{StartsAreSymmetries, matrix_prop, model_at, model_valid, lead_matrix, turn_matrix, classes, root_known, first_matrix, first_image}
use Rattle.returning.proofs.Trees.{turned, in_tree, member_matrix, is_list}
use Rattle.returning.proofs.Areas.{returning_one}

module _ (t root : List ℤ) (base : List Half) (keys : List (List ℤ)) (rows : List (List (Lead FieldMatrix))) (place : ℕ) (first : FieldMatrix) (turns : List (List FieldMatrix)) (tree mats : List FieldMatrix)
    (symmetries : StartsAreSymmetries) (is : IsRootOf t root base) (graph : IsGraph (slice_cmp int_cmp) (HasWalls t) (class.LeadsBy t) root keys rows place)
    (frame : IsFrame (field_of t) base root first) (turns_are : AreTurns (field_of t) keys turns) (own : IsTree (field_of t) rows place first tree) (are : AreQuotients (field_of t) tree rows turns mats)
  where
    abbrev d : ℕ
    d = field_of t

    abbrev Member : Turning d is.field → Type 0
    Member x = Contains mats x.0

    abbrev Word : Turning d is.field → Type 0
    Word = IsWord (Same d is.field) (product d is.field) (unit d is.field) Member

    abbrev Return : Turning d is.field → Type 0
    Return = Returns (Image d is.field) (LiesBehind d) base

    start : IsMatrix d first
    start = first_matrix t root base is first frame

    leads : (c w : ℕ) (lead : Lead FieldMatrix) → c < length rows → HasLead rows c w lead → IsMatrix d lead.link
    leads = lead_matrix t root base is keys rows place graph

    abbrev tree' : ℕ → Turning d is.field
    tree' = turned d is.field rows place first tree own start leads

    framed : Image d is.field (tree' place) (model_at d keys place) base
    framed = (
      model_valid t root base is keys rows place graph place (root_known t root base is keys rows place graph),
      is.valid,
      subst (λ (x : FieldMatrix). IsImageBy d x.rows x.denominator (model_at d keys place) base) (sym own.root_matrix) (first_image t root base is keys rows place graph first frame),
    )

    exact : (a : Turning d is.field) → (Word a → ∥ Return a ∥₁) × (Return a → ∥ Word a ∥₁)
    exact a =
        generation (matrix_group d is.field) (images d is.field) base (image_self d is.field base is.valid)
        (classes t root base is keys rows place graph turns turns_are symmetries) tree' place (root_known t root base is keys rows place graph) framed
        (in_tree d is.field rows place first tree own start leads)
        (is_list d is.field rows place first tree own start leads turns mats are (turn_matrix t root base is keys rows place graph turns turns_are)) a

    -- ---- bundled and by their facts
    listed_matrix : (x : FieldMatrix) → Contains mats x → IsMatrix d x
    listed_matrix = member_matrix d is.field rows place first tree own start leads turns mats are (turn_matrix t root base is keys rows place graph turns turns_are)

    product_matrix : (a : FieldMatrix) → IsProductOf d mats a → IsMatrix d a
    product_matrix a (empty _ p e) = p
    product_matrix a (longer b g _ p m q e) = q
    product_matrix a (divided _ g b q m p e) = q

    forth : (a : FieldMatrix) (p : IsMatrix d a) → IsProductOf d mats a → Word (a, p)
    forth a p (empty _ q e) = empty' (a, p) e
    forth a p (longer b g _ q m r e) = longer' (b, product_matrix b q) (g, listed_matrix g m) (a, p) (forth b (product_matrix b q) q) m e
    forth a p (divided _ g b q m r e) = divided' (a, p) (g, listed_matrix g m) (b, product_matrix b r) (forth b (product_matrix b r) r) m e

    back : (a : Turning d is.field) → Word a → IsProductOf d mats a.0
    back a (empty' _ e) = empty a.0 a.1 e
    back a (longer' b g _ p m e) = longer b.0 g.0 a.0 (back b p) m a.1 e
    back a (divided' _ g b p m e) = divided a.0 g.0 b.0 a.1 m (back b p) e

    returning_prop : (a : FieldMatrix) → IsProp (IsReturning d base a)
    returning_prop a = ×_prop (matrix_prop d a) ∥∥₁_prop

    -- the quotients generate exactly the returning derivatives
    pub quotients_generate : (a : FieldMatrix) → IsGenerated d mats a ↔ IsReturning d base a
    quotients_generate a = (
      (λ generated.
          ∥∥₁_elim generated (returning_prop a) (λ (p : IsProductOf d mats a).
          let m = product_matrix a p in
          (m, ∥∥₁_map ((exact (a, m)).0 (forth a m p)) (λ (r : Return (a, m)). (r.0, from_path d base r.1, r.2.2))))),
      (λ (returning : IsReturning d base a).
          ∥∥₁_elim returning.1 ∥∥₁_prop (λ (r : (end : List Half) × IsReached d base end × IsImageBy d a.rows a.denominator base end).
          ∥∥₁_map ((exact (a, returning.0)).1 (r.0, to_path d base r.1.0 r.0 r.1.1, (is.valid, reached_valid d is.field base is.valid r.1.0 r.0 r.1.1, r.2)))
          (λ (p : Word (a, returning.0)). back (a, returning.0) p))),
    )

    -- a listed matrix is generated
    listed_generated : (x : FieldMatrix) → Contains mats x → IsGenerated d mats x
    listed_generated x m = ∣ back (x, listed_matrix x m) (longer' (unit d is.field) (x, listed_matrix x m) (x, listed_matrix x m) (empty' (unit d is.field) refl) m ((matrix_group d is.field).one-mul (x, listed_matrix x m))) ∣₁

    -- and so each quotient has determinant one
    pub quotients_one : (x : FieldMatrix) → Contains mats x → HasDeterminantOne d x
    quotients_one x m = returning_one d is.field base is.valid x ((quotients_generate x).0 (listed_generated x m))
