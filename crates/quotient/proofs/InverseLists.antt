-- The list of the inverses of a tree's matrices, one after another.
use Rattle.std.proofs.Common.{◌≡◌, ℕ, suc, ◌+◌, ◌<◌, ◌≤◌, arith, refl, sym, ap, ◌∙◌, subst, List, [], ◌∷◌, ◌++◌, length}
use Rattle.std.specs.Prelude.{◌⊎◌}
use mathlib.Core.Logic.{inl, inr}
use Rattle.std.proofs.lemmas.Bool.{cases_eq}
use Rattle.plane.specs.Matrices.{FieldMatrix, identity, IsInLowestTerms}
use Rattle.quotient.specs.Trees.{matrix_at}
use Rattle.quotient.specs.Width.{IsInverse}
use Rattle.quotient.specs.Inverses.{AreInversesBelow}
use Rattle.quotient.proofs.Rows.{push_end, push_other}

pub one_longer : {A : Type 0} (xs : List A) (x : A) (n : ℕ) → length xs ≡ n → length (xs ++ x ∷ []) ≡ n + 1
one_longer [] x n e = omega (arith, e)
one_longer (y ∷ xs) x n e = let rest : length (xs ++ x ∷ []) ≡ length xs + 1 = one_longer xs x (length xs) refl in omega (arith, e, rest)

pub one_inverse_more : (d n : ℕ) (tree inverses : List FieldMatrix) (m x : FieldMatrix) → length inverses ≡ n → AreInversesBelow d n tree inverses
    → m ≡ matrix_at tree n → IsInLowestTerms m → IsInverse d m x → AreInversesBelow d (n + 1) tree (inverses ++ x ∷ [])
one_inverse_more d n tree inverses m x many before is low inverse c p = choose (cases_eq c n)
  where
    at_end : c ≡ n → matrix_at (inverses ++ x ∷ []) c ≡ x
    at_end e = push_end inverses x identity c (e ∙ sym many)

    choose : (c ≡ n) ⊎ ¬ (c ≡ n) → IsInLowestTerms (matrix_at tree c) × IsInverse d (matrix_at tree c) (matrix_at (inverses ++ x ∷ []) c)
    choose (inl e) =
        subst (λ (i : FieldMatrix). IsInLowestTerms (matrix_at tree c) × IsInverse d (matrix_at tree c) i) (sym (at_end e))
        (subst (λ (k : FieldMatrix). IsInLowestTerms k × IsInverse d k x) (is ∙ ap (matrix_at tree) (sym e)) (low, inverse))
    choose (inr not) =
        subst (λ (i : FieldMatrix). IsInLowestTerms (matrix_at tree c) × IsInverse d (matrix_at tree c) i)
        (sym (push_other inverses x identity c (λ e. not (e ∙ many)))) (before c (less c n p not))
      where
        less : (k n : ℕ) → k < n + 1 → ¬ (k ≡ n) → k < n
        less k n q ne = omega (arith, q, ne)
