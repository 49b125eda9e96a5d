-- A tree and turns have one list of quotients.
use Rattle.std.proofs.Common.{◌≡◌, ◌⊎◌, ℕ, zero, suc, ◌<◌, ◌≤◌, arith, refl, sym, ◌∙◌, subst, List, [], ◌∷◌, ◌++◌, map, length, inl, inr}
use mathlib.Core.Path.{ap₂}
use Rattle.std.specs.Prelude.{pos}
use Rattle.std.specs.List.{All, Contains}
use Rattle.std.proofs.lemmas.List.{get_or_past}
use Rattle.std.proofs.lemmas.List.Elements.{All-nil, All-cons, All-append, All-map, All-contains, Contains-append_left, Contains-push}
use Rattle.std.proofs.lemmas.Bool.{cases_lt}
use Rattle.rings.specs.Ring.{var, expr}
use Rattle.rings.specs.Order.{Sign, is_zero, is_positive, is_negative}
use Rattle.rings.specs.Matrices.{matrix_det}
use Rattle.rings.proofs.Solver as solver
use Rattle.quad_field.specs.declared.quad.Quad.{Quad}
use Rattle.quad_field.specs.FieldNumber.{IsFieldNumber}
use Rattle.quad_field.specs.Quads.{quad_ops, IsPositive, IsZero}
use Rattle.quad_field.specs.Multiples.{HasWhole}
use Rattle.quad_field.proofs.CallerLemmas.{quad_ring, order_of, is_zero_from, has_whole}
use Rattle.plane.specs.Matrices.{FieldMatrix, identity, matrix_times, IsInverseOf}
use Rattle.plane.proofs.CallerLemmas.{one_value, product_some, same_on, cancel_right, adjugate_inverse, scaled_adjugate, identity_not_zero}
use Rattle.terrain.specs.declared.graph.Lead.{Lead}
use Rattle.terrain.specs.Places.{IsAt}
use Rattle.quotient.specs.Trees.{row_at, matrix_at, HasLead}
use Rattle.quotient.specs.Quotients.{Quotient, IsValueOf, lead_quotient, lead_quotients, turn_quotient, turn_quotients, quotients, AreValues, none, kept, left_out, AreQuotients}

-- ---- lists
heads : {X : Type 0} {a b : X} {xs ys : List X} → a ∷ xs ≡ b ∷ ys → a ≡ b
heads e = cc

tails : {X : Type 0} {a b : X} {xs ys : List X} → a ∷ xs ≡ b ∷ ys → xs ≡ ys
tails e = cc

-- a list with a last element isn't empty
no_last : {X : Type 0} (xs : List X) (x : X) → ¬ ([] ≡ xs ++ x ∷ [])
no_last [] x e = cc
no_last (y ∷ ys) x e = cc

-- a list tells its last element, and those before it
last_is : {X : Type 0} (xs ys : List X) (x y : X) → xs ++ x ∷ [] ≡ ys ++ y ∷ [] → (xs ≡ ys) × (x ≡ y)
last_is [] [] x y e = (refl, heads e)
last_is [] (b ∷ ys) x y e = absurd (no_last ys y (tails e))
last_is (a ∷ xs) [] x y e = absurd (no_last xs x (sym (tails e)))
last_is (a ∷ xs) (b ∷ ys) x y e = let rest = last_is xs ys x y (tails e) in (ap₂ (λ c l. c ∷ l) (heads e) rest.0, rest.1)

-- what holds of the elements at all places holds of all
all_at : {X : Type 0} (P : X → Type 0) (xs : List X) → ((w : ℕ) (x : X) → IsAt xs w x → P x) → All P xs
all_at P [] each = All-nil P
all_at P (x ∷ xs) each = All-cons P x xs (each zero x refl) (all_at P xs (λ w y has. each (suc w) y has))

-- ---- the value of a quotient
module _ (d : ℕ) (field : IsFieldNumber d) where
  -- some multiple of a number other than zero is a whole number above zero
  whole_multiple : (x : Quad) → ¬ (IsZero x) → HasWhole d x
  whole_multiple x some = of_sign ((order_of d field).sign x)
    where
      of_sign : Sign (quad_ops d) (IsPositive d) x → HasWhole d x
      of_sign (is_zero e) = absurd (some (is_zero_from d x e))
      of_sign (is_positive p) = has_whole d field x p
      of_sign (is_negative p) =
          let whole : HasWhole d ((quad_ops d).neg x) = has_whole d field ((quad_ops d).neg x) p in
          record {
            multiplier = (quad_ops d).neg whole.multiplier;
            whole = whole.whole;
            positive = whole.positive;
            multiple = solver.identity (quad_ops d) (quad_ring d) (x ∷ whole.multiplier ∷ []) (expr.mul (var 0) (expr.neg (var 1))) (expr.mul (expr.neg (var 0)) (var 1)) tt ∙ whole.multiple;
          }

  -- a matrix whose determinant isn't zero has an inverse
  inverse_of : (a : FieldMatrix) → ¬ (IsZero (matrix_det (quad_ops d) a.rows)) → (b : FieldMatrix) × (0 < b.denominator) × IsInverseOf d b a
  inverse_of a some =
      let whole : HasWhole d (matrix_det (quad_ops d) a.rows) = whole_multiple (matrix_det (quad_ops d) a.rows) some in (
        record { rows = scaled_adjugate (quad_ops d) ((quad_ops d).int (pos a.denominator)) whole.multiplier a.rows; denominator = whole.whole },
        whole.positive,
        adjugate_inverse d a whole.multiplier whole.whole whole.multiple,
      )

  -- all denominators of a quotient are above zero, and its right factor has an inverse
  abbrev pub IsDefined : Quotient → Type 0
  IsDefined q = (0 < q.left.denominator) × (0 < q.middle.denominator) × (0 < q.right.denominator) × ¬ (IsZero (matrix_det (quad_ops d) q.right.rows))

  -- it has one value
  same_value : (q : Quotient) (x y : FieldMatrix) → IsDefined q → IsValueOf d q x → IsValueOf d q y → x ≡ y
  same_value q x y (left, middle, right, some) is is_too =
      let inverse = inverse_of q.right some in
      one_value x y is.0 is_too.0
      (cancel_right d x y q.right inverse.0 is.0.positive is_too.0.positive right inverse.1 inverse.2.1
      (same_on (matrix_times d x q.right) (matrix_times d q.left q.middle) (matrix_times d y q.right) (product_some q.left.denominator q.middle.denominator left middle) is.1 (sym is_too.1)))

  -- ---- the values of a list
  -- ys is xs with the value x, or xs where x is left out
  abbrev IsNext : List FieldMatrix → FieldMatrix → List FieldMatrix → Type 0
  IsNext xs x ys = ((ys ≡ xs ++ x ∷ []) × ¬ (x ≡ identity) × ¬ (Contains xs x)) ⊎ ((ys ≡ xs) × ((x ≡ identity) ⊎ Contains xs x))

  -- the list of one more quotient
  more_of : (rs : List Quotient) (ys : List FieldMatrix) → AreValues d rs ys → (qs : List Quotient) (q : Quotient) → rs ≡ qs ++ q ∷ []
      → (xs : List FieldMatrix) × (x : FieldMatrix) × AreValues d qs xs × IsValueOf d q x × IsNext xs x ys
  more_of _ _ none qs q e = absurd (no_last qs q e)
  more_of _ _ (kept rs xs r x are is other new) qs q e =
      let same = last_is rs qs r q e in
      (xs, x, subst (λ (l : List Quotient). AreValues d l xs) same.0 are, subst (λ (s : Quotient). IsValueOf d s x) same.1 is, inl (refl, other, new))
  more_of _ _ (left_out rs xs r x are is old) qs q e =
      let same = last_is rs qs r q e in
      (xs, x, subst (λ (l : List Quotient). AreValues d l xs) same.0 are, subst (λ (s : Quotient). IsValueOf d s x) same.1 is, inr (refl, old))

  -- and that of none
  none_of : (rs : List Quotient) (ys : List FieldMatrix) → AreValues d rs ys → [] ≡ rs → [] ≡ ys
  none_of _ _ none e = refl
  none_of _ _ (kept rs xs r x are is other new) e = absurd (no_last rs r e)
  none_of _ _ (left_out rs xs r x are is old) e = absurd (no_last rs r e)

  old_too : (xs zs : List FieldMatrix) (x z : FieldMatrix) → xs ≡ zs → x ≡ z → (x ≡ identity) ⊎ Contains xs x → (z ≡ identity) ⊎ Contains zs z
  old_too xs zs x z e f old = subst (λ (l : List FieldMatrix). (z ≡ identity) ⊎ Contains l z) e (subst (λ (y : FieldMatrix). (y ≡ identity) ⊎ Contains xs y) f old)

  not_both : (xs : List FieldMatrix) (x : FieldMatrix) → ¬ (x ≡ identity) → ¬ (Contains xs x) → ¬ ((x ≡ identity) ⊎ Contains xs x)
  not_both xs x other new (inl e) = other e
  not_both xs x other new (inr c) = new c

  kept_last : (xs zs ys : List FieldMatrix) (x z : FieldMatrix) → xs ≡ zs → x ≡ z → ¬ (x ≡ identity) → ¬ (Contains xs x) → IsNext zs z ys → xs ++ x ∷ [] ≡ ys
  kept_last xs zs ys x z e f other new (inl (is, _, _)) = ap₂ (λ (l : List FieldMatrix) (y : FieldMatrix). l ++ y ∷ []) e f ∙ sym is
  kept_last xs zs ys x z e f other new (inr (_, old)) = absurd (not_both xs x other new (old_too zs xs z x (sym e) (sym f) old))

  left_last : (xs zs ys : List FieldMatrix) (x z : FieldMatrix) → xs ≡ zs → x ≡ z → (x ≡ identity) ⊎ Contains xs x → IsNext zs z ys → xs ≡ ys
  left_last xs zs ys x z e f old (inl (_, other, new)) = absurd (not_both zs z other new (old_too xs zs x z e f old))
  left_last xs zs ys x z e f old (inr (is, _)) = e ∙ sym is

  -- quotients have one list of values
  same_values : (rs : List Quotient) (zs : List FieldMatrix) → AreValues d rs zs → ((q : Quotient) → Contains rs q → IsDefined q) → (ys : List FieldMatrix) → AreValues d rs ys → zs ≡ ys
  same_values _ _ none defined ys its = none_of [] ys its refl
  same_values _ _ (kept qs xs q x are is other new) defined ys its =
      let m = more_of (qs ++ q ∷ []) ys its qs q refl in
      kept_last xs m.0 ys x m.1 (same_values qs xs are (λ r has. defined r (Contains-append_left qs (q ∷ []) r has)) m.0 m.2)
      (same_value q x m.1 (defined q (Contains-push qs q)) is m.3) other new m.4
  same_values _ _ (left_out qs xs q x are is old) defined ys its =
      let m = more_of (qs ++ q ∷ []) ys its qs q refl in
      left_last xs m.0 ys x m.1 (same_values qs xs are (λ r has. defined r (Contains-append_left qs (q ∷ []) r has)) m.0 m.2)
      (same_value q x m.1 (defined q (Contains-push qs q)) is m.3) old m.4

  -- ---- the quotients of a tree
  module _ (tree : List FieldMatrix) (rows : List (List (Lead FieldMatrix))) (turns : List (List FieldMatrix))
      (matrices : (c : ℕ) → c < length tree → (0 < (matrix_at tree c).denominator) × ¬ (IsZero (matrix_det (quad_ops d) (matrix_at tree c).rows)))
      (links : (c w : ℕ) (lead : Lead FieldMatrix) → c < length rows → HasLead rows c w lead → 0 < lead.link.denominator)
      (turns_some : (c w : ℕ) (turn : FieldMatrix) → c < length turns → IsAt (row_at turns c) w turn → 0 < turn.denominator)
    where
      -- past the end a tree has the identity
      any_matrix : (c : ℕ) → (0 < (matrix_at tree c).denominator) × ¬ (IsZero (matrix_det (quad_ops d) (matrix_at tree c).rows))
      any_matrix c = go (cases_lt c (length tree))
        where
          go : (c < length tree) ⊎ (length tree ≤ c) → (0 < (matrix_at tree c).denominator) × ¬ (IsZero (matrix_det (quad_ops d) (matrix_at tree c).rows))
          go (inl p) = matrices c p
          go (inr p) =
              subst (λ (m : FieldMatrix). (0 < m.denominator) × ¬ (IsZero (matrix_det (quad_ops d) m.rows))) (sym (get_or_past tree c identity p))
              (omega arith, identity_not_zero d field)

      leads_defined : (n : ℕ) → n ≤ length rows → All IsDefined (lead_quotients tree rows n)
      leads_defined zero inside = All-nil IsDefined
      leads_defined (suc n) inside =
          let own = any_matrix n in
          let lead_of : Lead FieldMatrix → Quotient = lead_quotient tree (matrix_at tree n) in
          All-append IsDefined (lead_quotients tree rows n) (map lead_of (row_at rows n)) (leads_defined n (omega (arith, inside)))
          (All-map IsDefined lead_of (row_at rows n)
          (all_at (λ lead. IsDefined (lead_of lead)) (row_at rows n) (λ w lead has. let end = any_matrix lead.to in (own.0, links n w lead (omega (arith, inside)) has, end.0, end.1))))

      turns_defined : (n : ℕ) → n ≤ length turns → All IsDefined (turn_quotients tree turns n)
      turns_defined zero inside = All-nil IsDefined
      turns_defined (suc n) inside =
          let own = any_matrix n in
          let turn_of : FieldMatrix → Quotient = turn_quotient (matrix_at tree n) in
          All-append IsDefined (turn_quotients tree turns n) (map turn_of (row_at turns n)) (turns_defined n (omega (arith, inside)))
          (All-map IsDefined turn_of (row_at turns n)
          (all_at (λ turn. IsDefined (turn_of turn)) (row_at turns n) (λ w turn has. (own.0, turns_some n w turn (omega (arith, inside)) has, own.0, own.1))))

      all_defined : All IsDefined (quotients tree rows turns)
      all_defined =
          All-append IsDefined (lead_quotients tree rows (length rows)) (turn_quotients tree turns (length turns))
          (leads_defined (length rows) (omega arith)) (turns_defined (length turns) (omega arith))

      -- a tree and turns have one list of quotients
      pub same_quotients : (one other : List FieldMatrix) → AreQuotients d tree rows turns one → AreQuotients d tree rows turns other → one ≡ other
      same_quotients one other own its =
          same_values (quotients tree rows turns) one own (λ q has. All-contains IsDefined (quotients tree rows turns) q all_defined has) other its
