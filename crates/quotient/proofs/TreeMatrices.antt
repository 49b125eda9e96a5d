-- The matrices of a tree: those of its parts, and not of determinant zero.
use Rattle.std.proofs.Common.{◌≡◌, ℕ, zero, suc, ◌<◌, ◌≤◌, arith, refl, sym, ap, ◌∙◌, subst, List, length}
use Rattle.std.proofs.lemmas.Bool.{cases_lt}
use mathlib.Core.Logic.{inl, inr}
use Rattle.rings.specs.Matrices.{matrix_det}
use Rattle.quad_field.specs.FieldNumber.{IsFieldNumber}
use Rattle.quad_field.specs.Quads.{quad_ops, IsZero}
use Rattle.plane.specs.Matrices.{FieldMatrix, matrix_times}
use Rattle.plane.proofs.CallerLemmas.{same_not_zero, times_not_zero}
use Rattle.terrain.specs.declared.graph.Lead.{Lead}
use Rattle.quotient.specs.Trees.{matrix_at, HasLead, IsTree}
use Rattle.quotient.specs.TreeParts.{IsTreePart, IsMatrixOf}

module _ {d : ℕ} {rows : List (List (Lead FieldMatrix))} {root : ℕ} {first : FieldMatrix} {tree : List FieldMatrix} (own : IsTree d rows root first tree) (inside : root < length rows) where
  -- the tree is the part of all places
  whole_part : IsTreePart d rows root first own.found own.number (matrix_at tree) (length rows)
  whole_part = record {
    some = more root (length rows) inside;
    found_inside = own.order.found_inside;
    number_found = own.order.number_found;
    found_number = λ c p _. own.order.found_number c p;
    root_first = own.root_first;
    root_matrix = own.root_matrix;
    each = own.each;
  }
    where
      more : (k n : ℕ) → k < n → 0 < n
      more k n p = omega (arith, p)

  -- its matrices are those of the places
  pub matrix_of : (c : ℕ) → c < length rows → IsMatrixOf d rows root first c (matrix_at tree c)
  matrix_of c p = record {
    found = own.found;
    number = own.number;
    matrix = matrix_at tree;
    size = length rows;
    part = whole_part;
    inside = p;
    found_before = own.order.number_inside c p;
    is = refl;
  }

  -- none has the determinant zero where the first and the links don't
  module _ (field : IsFieldNumber d) (some : ¬ (IsZero (matrix_det (quad_ops d) first.rows)))
      (links : (c w : ℕ) (lead : Lead FieldMatrix) → HasLead rows c w lead → ¬ (IsZero (matrix_det (quad_ops d) lead.link.rows)))
    where
      along : (n t : ℕ) → t < n → t < length rows → ¬ (IsZero (matrix_det (quad_ops d) (matrix_at tree (own.found t)).rows))
      along zero t p q = absurd (omega (arith, p))
      along (suc n) zero p q =
          subst (λ (m : FieldMatrix). ¬ (IsZero (matrix_det (quad_ops d) m.rows))) (sym (ap (matrix_at tree) own.root_first ∙ own.root_matrix)) some
      along (suc n) (suc t) p q =
          let r = own.each (suc t) (omega arith) q in
          let h = matrix_at tree (own.found r.0) in
          let m = matrix_at tree (own.found (suc t)) in
          same_not_zero d field m (matrix_times d h r.2.link) r.4.0.positive (sym r.4.1)
          (times_not_zero d field h r.2.link (along n r.0 (lower r.0 t n r.3.before p) (less r.0 (suc t) (length rows) r.3.before q)) (links (own.found r.0) r.1 r.2 r.3.leads))
        where
          lower : (j t n : ℕ) → j < suc t → suc t < suc n → j < n
          lower j t n p q = omega (arith, p, q)

          less : (a b c : ℕ) → a < b → b < c → a < c
          less a b c p q = omega (arith, p, q)

      pub tree_not_zero : (c : ℕ) → c < length rows → ¬ (IsZero (matrix_det (quad_ops d) (matrix_at tree c).rows))
      tree_not_zero c p =
          subst (λ (e : ℕ). ¬ (IsZero (matrix_det (quad_ops d) (matrix_at tree e).rows))) (own.order.found_number c p)
          (along (length rows) (own.number c) (own.order.number_inside c p) (own.order.number_inside c p))
