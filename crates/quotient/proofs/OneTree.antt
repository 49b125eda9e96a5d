-- A graph has one tree: its leads tell the order in which the places are found, and the matrices.
use Rattle.std.proofs.Common.{◌≡◌, ◌⊎◌, ℕ, zero, suc, ◌<◌, arith, sym, ap, ◌∙◌, subst, List, length, inl, inr}
use mathlib.Core.Path.{ap₂}
use Rattle.std.specs.Prelude.{Some, slice_get}
use Rattle.std.proofs.lemmas.Bool.{cases_order}
use Rattle.std.proofs.lemmas.List.{ext_get_or}
use Rattle.rings.specs.Matrices.{matrix_det}
use Rattle.quad_field.specs.FieldNumber.{IsFieldNumber}
use Rattle.quad_field.specs.Quads.{quad_ops, IsZero}
use Rattle.plane.specs.Matrices.{FieldMatrix, identity, matrix_times, HaveOneValue}
use Rattle.plane.proofs.CallerLemmas.{one_value, product_some, same_on, same_not_zero, times_not_zero}
use Rattle.terrain.specs.declared.graph.Lead.{Lead}
use Rattle.quotient.specs.Trees.{row_at, matrix_at, HasLead, IsOrder, IsFoundBy, IsProduct, IsTree}

some_is : {X : Type 0} {a b : X} → Some a ≡ Some b → a ≡ b
some_is e = cc

-- one wall has one lead
same_lead : (rows : List (List (Lead FieldMatrix))) (c w e v : ℕ) (lead other : Lead FieldMatrix) → c ≡ e → w ≡ v → HasLead rows c w lead → HasLead rows e v other → lead ≡ other
same_lead rows c w e v lead other p q has has_other = some_is (sym has ∙ ap₂ (λ (k i : ℕ). slice_get (row_at rows k) i) p q ∙ has_other)

-- ---- the order in which the places are found
-- wall w of the j-th place comes before wall v of the i-th
abbrev IsBefore : ℕ → ℕ → ℕ → ℕ → Type 0
IsBefore j w i v = (j < i) ⊎ ((j ≡ i) × (w < v))

-- two walls neither of which comes before the other are one
one_wall : (j w i v : ℕ) → ¬ (IsBefore j w i v) → ¬ (IsBefore i v j w) → (j ≡ i) × (w ≡ v)
one_wall j w i v first second = places (cases_order j i)
  where
    walls : j ≡ i → (w ≡ v) ⊎ ((w < v) ⊎ (v < w)) → w ≡ v
    walls e (inl f) = f
    walls e (inr (inl p)) = absurd (first (inr (e, p)))
    walls e (inr (inr p)) = absurd (second (inr (sym e, p)))

    places : (j ≡ i) ⊎ ((j < i) ⊎ (i < j)) → (j ≡ i) × (w ≡ v)
    places (inl e) = (e, walls e (cases_order w v))
    places (inr (inl p)) = absurd (first (inl p))
    places (inr (inr p)) = absurd (second (inl p))

-- two orders that agree before the t-th place
module _ (rows : List (List (Lead FieldMatrix))) (found number found_too number_too : ℕ → ℕ) (order : IsOrder (length rows) found number)
    (order_too : IsOrder (length rows) found_too number_too) (t : ℕ) (inside : t < length rows) (agree : (s : ℕ) → s < t → found s ≡ found_too s)
  where
    -- the t-th place of one isn't found before by the other
    not_found : ¬ (number_too (found t) < t)
    not_found p =
        let s : ℕ = number_too (found t) in
        let same : found s ≡ found t = agree s p ∙ order_too.found_number (found t) (order.found_inside t inside) in
        let is : s ≡ t = sym (order.number_found s (omega (arith, p, inside))) ∙ ap number same ∙ order.number_found t inside in
        omega (arith, p, is)

    -- and the wall that finds it doesn't come before the one by which the other finds its t-th place
    not_before : (j w i v : ℕ) (lead other : Lead FieldMatrix) → IsFoundBy rows found number t j w lead → IsFoundBy rows found_too number_too t i v other → ¬ (IsBefore j w i v)
    not_before j w i v lead other by by_too earlier =
        not_found (subst (λ c. number_too c < t) by.to (by_too.first j w lead earlier (subst (λ c. HasLead rows c w lead) (agree j by.before) by.leads)))

-- ---- the matrices
-- a product in lowest terms is told by its factors
one_product : (d : ℕ) (a b c e : FieldMatrix) → 0 < a.denominator → 0 < b.denominator → IsProduct d a b c → IsProduct d a b e → c ≡ e
one_product d a b c e pa pb is is_too = one_value c e is.0 is_too.0 (same_on c (matrix_times d a b) e (product_some a.denominator b.denominator pa pb) (sym is.1) is_too.1)

module _ (d : ℕ) (rows : List (List (Lead FieldMatrix))) (root : ℕ) (first : FieldMatrix) (some : 0 < first.denominator)
    (links : (c w : ℕ) (lead : Lead FieldMatrix) → c < length rows → HasLead rows c w lead → 0 < lead.link.denominator)
  where
    -- the denominators of a tree
    found_some : (tree : List FieldMatrix) (own : IsTree d rows root first tree) (t : ℕ) → t < length rows → 0 < (matrix_at tree (own.found t)).denominator
    found_some tree own zero inside = subst (λ (m : FieldMatrix). 0 < m.denominator) (sym (ap (matrix_at tree) own.root_first ∙ own.root_matrix)) some
    found_some tree own (suc t) inside = let r = own.each (suc t) (omega arith) inside in r.4.0.positive

    pub tree_some : (tree : List FieldMatrix) → IsTree d rows root first tree → (c : ℕ) → c < length rows → 0 < (matrix_at tree c).denominator
    tree_some tree own c inside =
        subst (λ (e : ℕ). 0 < (matrix_at tree e).denominator) (own.order.found_number c inside) (found_some tree own (own.number c) (own.order.number_inside c inside))

    module _ (one other : List FieldMatrix) (own : IsTree d rows root first one) (its : IsTree d rows root first other) where
      -- the t-th places and their matrices are equal
      abbrev Agree : ℕ → Type 0
      Agree t = (own.found t ≡ its.found t) × (matrix_at one (own.found t) ≡ matrix_at other (its.found t))

      agree_first : Agree 0
      agree_first = (
        own.root_first ∙ sym its.root_first,
        ap (matrix_at one) own.root_first ∙ own.root_matrix ∙ sym its.root_matrix ∙ ap (matrix_at other) (sym its.root_first),
      )

      agree_next : (t : ℕ) → 0 < t → t < length rows → ((s : ℕ) → s < t → Agree s) → Agree t
      agree_next t after inside before =
          let r = own.each t after inside in
          let q = its.each t after inside in
          let wall : (r.0 ≡ q.0) × (r.1 ≡ q.1) =
          one_wall r.0 r.1 q.0 q.1
          (not_before rows own.found own.number its.found its.number own.order its.order t inside (λ s p. (before s p).0) r.0 r.1 q.0 q.1 r.2 q.2 r.3 q.3)
          (not_before rows its.found its.number own.found own.number its.order own.order t inside (λ s p. sym (before s p).0) q.0 q.1 r.0 r.1 q.2 r.2 q.3 r.3) in
          let from : own.found r.0 ≡ its.found q.0 = (before r.0 r.3.before).0 ∙ ap its.found wall.0 in
          let lead : r.2 ≡ q.2 = same_lead rows (own.found r.0) r.1 (its.found q.0) q.1 r.2 q.2 from wall.1 r.3.leads q.3.leads in
          let matrix : matrix_at one (own.found r.0) ≡ matrix_at other (its.found q.0) = (before r.0 r.3.before).1 ∙ ap (λ (j : ℕ). matrix_at other (its.found j)) wall.0 in
          let below : r.0 < length rows = less r.0 t (length rows) r.3.before inside in
          let is : IsProduct d (matrix_at one (own.found r.0)) r.2.link (matrix_at other (its.found t)) =
          (q.4.0, subst (λ (m : FieldMatrix). HaveOneValue m (matrix_at other (its.found t))) (ap₂ (λ (h : FieldMatrix) (l : Lead FieldMatrix). matrix_times d h l.link) (sym matrix) (sym lead)) q.4.1) in (
            sym r.3.to ∙ ap (λ (l : Lead FieldMatrix). l.to) lead ∙ q.3.to,
            one_product d (matrix_at one (own.found r.0)) r.2.link (matrix_at one (own.found t)) (matrix_at other (its.found t)) (found_some one own r.0 below)
                (links (own.found r.0) r.1 r.2 (own.order.found_inside r.0 below) r.3.leads) r.4 is,
          )
        where
          less : (a b c : ℕ) → a < b → b < c → a < c
          less a b c p q = omega (arith, p, q)

      agree : (n t : ℕ) → t < n → t < length rows → Agree t
      agree zero t p inside = absurd (omega (arith, p))
      agree (suc n) zero p inside = agree_first
      agree (suc n) (suc t) p inside = agree_next (suc t) (omega arith) inside (λ s q. agree n s (omega (arith, p, q)) (omega (arith, inside, q)))

      at_place : (c : ℕ) → c < length rows → matrix_at one c ≡ matrix_at other c
      at_place c inside =
          let t : ℕ = own.number c in
          let is : own.found t ≡ c = own.order.found_number c inside in
          let both : Agree t = agree (suc t) t (omega arith) (own.order.number_inside c inside) in
          ap (matrix_at one) (sym is) ∙ both.1 ∙ ap (matrix_at other) (sym both.0 ∙ is)

      -- a graph has one tree
      pub same_tree : one ≡ other
      same_tree = ext_get_or identity one other (own.as_many ∙ sym its.as_many) (λ c inside. at_place c (subst (λ (n : ℕ). c < n) own.as_many inside))

    -- no matrix of a tree has determinant zero where the root's and the links don't
    module _ (field : IsFieldNumber d) (root_some : ¬ (IsZero (matrix_det (quad_ops d) first.rows)))
        (links_some : (c w : ℕ) (lead : Lead FieldMatrix) → c < length rows → HasLead rows c w lead → ¬ (IsZero (matrix_det (quad_ops d) lead.link.rows)))
        (tree : List FieldMatrix) (own : IsTree d rows root first tree)
      where
        found_not_zero : (n t : ℕ) → t < n → t < length rows → ¬ (IsZero (matrix_det (quad_ops d) (matrix_at tree (own.found t)).rows))
        found_not_zero zero t p inside = absurd (omega (arith, p))
        found_not_zero (suc n) zero p inside =
            subst (λ (m : FieldMatrix). ¬ (IsZero (matrix_det (quad_ops d) m.rows))) (sym (ap (matrix_at tree) own.root_first ∙ own.root_matrix)) root_some
        found_not_zero (suc n) (suc t) p inside =
            let r = own.each (suc t) (omega arith) inside in
            let before : r.0 < suc t = r.3.before in
            let below : r.0 < length rows = omega (arith, inside, before) in
            let h = matrix_at tree (own.found r.0) in
            same_not_zero d field (matrix_at tree (own.found (suc t))) (matrix_times d h r.2.link) r.4.0.positive (sym r.4.1)
            (times_not_zero d field h r.2.link (found_not_zero n r.0 (omega (arith, p, before)) below) (links_some (own.found r.0) r.1 r.2 (own.order.found_inside r.0 below) r.3.leads))

        pub tree_invertible : (c : ℕ) → c < length rows → (0 < (matrix_at tree c).denominator) × ¬ (IsZero (matrix_det (quad_ops d) (matrix_at tree c).rows))
        tree_invertible c inside = (
          tree_some tree own c inside,
          subst (λ (e : ℕ). ¬ (IsZero (matrix_det (quad_ops d) (matrix_at tree e).rows))) (own.order.found_number c inside)
              (found_not_zero (suc (own.number c)) (own.number c) (omega arith) (own.order.number_inside c inside)),
        )
