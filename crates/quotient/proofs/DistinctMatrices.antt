-- A list of different matrices, and the set of their parts.
use Rattle.std.proofs.Common.{◌≡◌, ℕ, zero, suc, ◌<◌, arith, refl, sym, ap, ◌∙◌, subst, List, [], ◌∷◌, ◌++◌, length, get_or}
use Rattle.std.specs.Prelude.{◌⊎◌, ℤ, pos, unsigned_abs, Bool, true, false, cond, not, IsTrue, slice_index_or}
use mathlib.Core.Logic.{inl, inr}
use Rattle.std.specs.List.{Contains}
use Rattle.std.specs.declared.cmp.Ordering.{Ordering}
use Rattle.std.specs.declared.cmp.Ordering.TheVariants.{Less, Equal, Greater}
use Rattle.std.specs.Ordering.{int_cmp, is_eq, ordering_then}
use Rattle.std.specs.Cmp.Lexicographic.{slice_cmp}
use Rattle.std.specs.BTreeMap.{is_at}
use Rattle.std.specs.BTreeSet.{BTreeSet, contains}
use Rattle.std.proofs.lemmas.Cmp.{lists_total, int_cmp_total, tied_itself}
use Rattle.std.proofs.lemmas.Map.Lookups.{exact_signed}
use Rattle.std.proofs.lemmas.List.Elements.{Contains-append_left, Contains-append_right, Contains-append_cases}
use Rattle.quad_field.specs.Quads.{quad}
use Rattle.plane.specs.Matrices.{FieldMatrix, identity}
use Rattle.quotient.specs.Distinct.{parts_of, IsKept, HasTaken}

-- ---- matrices with one list of parts
pub one_parts : (x y : FieldMatrix) → parts_of x ≡ parts_of y → x ≡ y
one_parts x y e i = record {
  rows = (quad (part 0 i) (part 1 i), quad (part 2 i) (part 3 i), quad (part 4 i) (part 5 i), quad (part 6 i) (part 7 i));
  denominator = unsigned_abs (part 8 i);
}
  where
    part : (k : ℕ) → get_or (parts_of x) k (pos 0) ≡ get_or (parts_of y) k (pos 0)
    part k = ap (λ (l : List ℤ). get_or l k (pos 0)) e

-- lists that aren't told apart by their order are one
first_and_rest : (x y : ℤ) (xs ys : List ℤ) → (slice_cmp int_cmp xs ys ≡ Equal → xs ≡ ys) → (o : Ordering) → int_cmp x y ≡ o → ordering_then o (slice_cmp int_cmp xs ys) ≡ Equal → x ∷ xs ≡ y ∷ ys
first_and_rest x y xs ys rest Less a h = cc
first_and_rest x y xs ys rest Greater a h = cc
first_and_rest x y xs ys rest Equal a h = let f = exact_signed x y a in let s = rest h in cc

ints_exact : (xs ys : List ℤ) → slice_cmp int_cmp xs ys ≡ Equal → xs ≡ ys
ints_exact [] [] e = refl
ints_exact [] (y ∷ ys) e = cc
ints_exact (x ∷ xs) [] e = cc
ints_exact (x ∷ xs) (y ∷ ys) e = first_and_rest x y xs ys (ints_exact xs ys) (int_cmp x y) refl e

is_equal : (o : Ordering) → is_eq o ≡ true → o ≡ Equal
is_equal Less e = cc
is_equal Equal e = refl
is_equal Greater e = cc

-- ---- one more matrix
only_one : (x y : FieldMatrix) → Contains (x ∷ []) y → x ≡ y
only_one x y (zero, p, e) = e
only_one x y (suc k, p, e) = absurd (omega (arith, p))

one_in : (x : FieldMatrix) → Contains (x ∷ []) x
one_in x = (0, omega arith, refl)

pub not_true : (b : Bool) → not b ≡ true → b ≡ false
not_true true e = cc
not_true false e = refl

pub not_false : (b : Bool) → not b ≡ false → b ≡ true
not_false true e = refl
not_false false e = cc

module _ (matrices : List FieldMatrix) (x : FieldMatrix) (set : BTreeSet (List ℤ)) (kept : IsKept matrices set) where
  -- what the set lacks is new
  pub is_new : contains (slice_cmp int_cmp) set (parts_of x) ≡ false → ¬ (x ≡ identity) × ¬ (Contains matrices x)
  is_new e = ((λ a. let c = (kept x).1 (inl a) in cc), (λ a. let c = (kept x).1 (inr a) in cc))

  module _ (later : BTreeSet (List ℤ))
      (updates : (q : List ℤ) → contains (slice_cmp int_cmp) later q ≡ cond (is_at (slice_cmp int_cmp (parts_of x)) q) true (contains (slice_cmp int_cmp) set q))
    where
      abbrev Told : FieldMatrix → Type 0
      Told y =
          ((x ≡ y) × (contains (slice_cmp int_cmp) later (parts_of y) ≡ true))
          ⊎ (¬ (x ≡ y) × (contains (slice_cmp int_cmp) later (parts_of y) ≡ contains (slice_cmp int_cmp) set (parts_of y)))

      told : (y : FieldMatrix) (b : Bool) → is_at (slice_cmp int_cmp (parts_of x)) (parts_of y) ≡ b → Told y
      told y true e = inl (
        one_parts x y (ints_exact (parts_of x) (parts_of y) (is_equal (slice_cmp int_cmp (parts_of x) (parts_of y)) e)),
        updates (parts_of y) ∙ ap (λ (b : Bool). cond b true (contains (slice_cmp int_cmp) set (parts_of y))) e,
      )
      told y false e = inr (
        (λ s.
            let tied : is_eq (slice_cmp int_cmp (parts_of x) (parts_of x)) ≡ true = ap is_eq (tied_itself (lists_total int_cmp_total) (parts_of x)) in
            let untied : is_eq (slice_cmp int_cmp (parts_of x) (parts_of x)) ≡ false =
            subst (λ (z : FieldMatrix). is_eq (slice_cmp int_cmp (parts_of x) (parts_of z)) ≡ false) (sym s) e in
            cc),
        updates (parts_of y) ∙ ap (λ (b : Bool). cond b true (contains (slice_cmp int_cmp) set (parts_of y))) e,
      )

      forth : (y : FieldMatrix) → Told y → IsTrue (contains (slice_cmp int_cmp) later (parts_of y)) → (y ≡ identity) ⊎ Contains (matrices ++ x ∷ []) y
      forth y (inl p) c = inr (subst (Contains (matrices ++ x ∷ [])) p.0 (Contains-append_right matrices (x ∷ []) x (one_in x)))
      forth y (inr p) c = elim ((kept y).0 (sym p.1 ∙ c)) [
        | inl e ↦ inl e
        | inr m ↦ inr (Contains-append_left matrices (x ∷ []) y m)
      ]

      back : (y : FieldMatrix) → Told y → (y ≡ identity) ⊎ Contains (matrices ++ x ∷ []) y → IsTrue (contains (slice_cmp int_cmp) later (parts_of y))
      back y (inl p) m = p.1
      back y (inr p) (inl e) = p.1 ∙ (kept y).1 (inl e)
      back y (inr p) (inr m) = elim (Contains-append_cases matrices (x ∷ []) y m) [
        | inl a ↦ p.1 ∙ (kept y).1 (inr a)
        | inr a ↦ absurd (p.0 (only_one x y a))
      ]

      -- with the parts of x the set holds those of the list with x
      pub kept_more : IsKept (matrices ++ x ∷ []) later
      kept_more y = let t = told y (is_at (slice_cmp int_cmp (parts_of x)) (parts_of y)) refl in (forth y t, back y t)
