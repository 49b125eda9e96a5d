-- Rows and elements that the code reads, and the errors that it passes on.
use Rattle.std.proofs.Common.{◌≡◌, ℕ, zero, suc, ◌<◌, List, [], ◌∷◌, ◌++◌, length, map, get_or, refl, sym, ap, ◌∙◌, subst, arith}
use Rattle.std.specs.Prelude.{Result, Ok, Err}
use Rattle.std.proofs.lemmas.Option.{slice_get_read}
use Rattle.quad_field.specs.declared.formula.Formula.{Formula}
use Rattle.terrain.specs.Places.{IsAt}
use Rattle.quotient.specs.declared.fault.QuotientFault.{QuotientFault}
use Rattle.quotient.specs.declared.fault.QuotientFault.TheVariants.{Wide}
use Rattle.quotient.specs.Trees.{row_at}

-- what is seen of a row that was read
pub row_read : {A B : Type 0} (seen : A → List B) (rows : List A) (c : ℕ) (v : A) → c < length rows → v ≡ get_or rows c v → row_at (map seen rows) c ≡ seen v
row_read seen [] c v p e = absurd (omega (arith, p))
row_read seen (x ∷ rows) zero v p e = ap seen (sym e)
row_read seen (x ∷ rows) (suc c) v p e = row_read seen rows c v (omega (arith, p)) e

-- an element that was read stands at its place
pub element_read : {A : Type 0} (row : List A) (w : ℕ) (x : A) → w < length row → x ≡ get_or row w x → IsAt row w x
element_read row w x p e = slice_get_read row (length row) w x refl p e

-- a place that has a lead is a place
pub lead_inside : {A : Type 0} (rows : List (List A)) (c w : ℕ) (x : A) → IsAt (row_at rows c) w x → c < length rows
lead_inside [] zero w x at = cc
lead_inside [] (suc c) w x at = cc
lead_inside (row ∷ rows) zero w x at = omega arith
lead_inside (row ∷ rows) (suc c) w x at = let rest = lead_inside rows c w x at in omega (arith, rest)

-- the last element of a list that was pushed to, and the others
pub push_end : {A : Type 0} (xs : List A) (x d : A) (k : ℕ) → k ≡ length xs → get_or (xs ++ x ∷ []) k d ≡ x
push_end [] x d zero e = refl
push_end [] x d (suc k) e = absurd (omega (arith, e))
push_end (y ∷ xs) x d zero e = absurd (omega (arith, e))
push_end (y ∷ xs) x d (suc k) e = push_end xs x d k (omega (arith, e))

pub push_other : {A : Type 0} (xs : List A) (x d : A) (k : ℕ) → ¬ (k ≡ length xs) → get_or (xs ++ x ∷ []) k d ≡ get_or xs k d
push_other [] x d zero n = absurd (n refl)
push_other [] x d (suc k) n = refl
push_other (y ∷ xs) x d zero n = refl
push_other (y ∷ xs) x d (suc k) n = push_other xs x d k (λ e. n (let f : suc k ≡ suc (length xs) = ap suc e in f))

-- ---- errors
-- what was answered is the one error
pub err_is : {X E : Type 0} (r : Result X E) (x y z : E) → r ≡ Err x → x ≡ y → r ≡ Err z → y ≡ z
err_is r x y z a b c = cc

-- a formula that is answered as wide is the one that a call named
pub formula_is : {X : Type 0} (r : Result X QuotientFault) (x : QuotientFault) (named formula : Formula) → r ≡ Err x → x ≡ Wide named → r ≡ Err (Wide formula) → formula ≡ named
formula_is r x named formula a b c = cc
