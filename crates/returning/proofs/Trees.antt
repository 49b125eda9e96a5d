-- A tree joins the root to each place, its matrices have positive determinants, and the values of its quotients are the list of it.
use Rattle.std.proofs.Common.{◌≡◌, ◌⊎◌, ℕ, zero, suc, ◌<◌, ◌≤◌, arith, refl, sym, subst, List, [], ◌∷◌, length, get_or, inl, inr}
use Rattle.std.specs.List.{Contains}
use Rattle.std.proofs.lemmas.List.Elements.{Contains-append_left, Contains-append_right, Contains-append_cases}
use Rattle.std.proofs.lemmas.Bool.{cases_lt}
use Rattle.quad_field.specs.FieldNumber.{IsFieldNumber}
use Rattle.plane.specs.Matrices.{FieldMatrix, identity, matrix_times, HaveOneValue}
use Rattle.terrain.specs.declared.graph.Lead.{Lead}
use Rattle.terrain.specs.Places.{IsAt}
use Rattle.quotient.specs.Trees.{row_at, matrix_at, HasLead, IsTree}
use Rattle.quotient.specs.Quotients.{Quotient, lead_quotient, lead_quotients, turn_quotient, turn_quotients, quotients, IsValueOf, AreQuotients}
use Rattle.returning.specs.Returning.{IsMatrix}
use Rattle.returning.proofs.Groups.{InTree, at_root, found, IsList}
use Rattle.returning.proofs.Matrices.{Turning, Same, unit, unit_is, product, product_is, same_matrix, quotient_matrix}
use Rattle.returning.proofs.Lists.{either, lead_asked, lead_meant, turn_asked, turn_meant, valued, values_only}

past_end : {X : Type 0} (xs : List X) (k : ℕ) (x : X) → length xs ≤ k → get_or xs k x ≡ x
past_end [] k x p = refl
past_end (y ∷ ys) zero x p = absurd (omega (arith, p))
past_end (y ∷ ys) (suc k) x p = past_end ys k x (omega (arith, p))

-- a wall of place c leads to place e by a matrix
abbrev pub LeadsBy : List (List (Lead FieldMatrix)) → ℕ → ℕ → FieldMatrix → Type 0
LeadsBy rows c e g = (w : ℕ) × (lead : Lead FieldMatrix) × (c < length rows) × HasLead rows c w lead × (lead.to ≡ e) × (lead.link ≡ g)

-- a matrix is a turn of place c
abbrev pub TurnsBy : List (List FieldMatrix) → ℕ → FieldMatrix → Type 0
TurnsBy turns c g = (w : ℕ) × (c < length turns) × IsAt (row_at turns c) w g

module _ (d : ℕ) (field : IsFieldNumber d) (rows : List (List (Lead FieldMatrix))) (root : ℕ) (first : FieldMatrix) (tree : List FieldMatrix) (own : IsTree d rows root first tree)
    (start : IsMatrix d first) (leads : (c w : ℕ) (lead : Lead FieldMatrix) → c < length rows → HasLead rows c w lead → IsMatrix d lead.link)
  where
    -- ---- the tree
    found_matrix : (b t : ℕ) → t < b → t < length rows → IsMatrix d (matrix_at tree (own.found t))
    found_matrix zero t p below = absurd (omega (arith, p))
    found_matrix (suc b) zero p below = subst (λ c. IsMatrix d (matrix_at tree c)) (sym own.root_first) (subst (IsMatrix d) (sym own.root_matrix) start)
    found_matrix (suc b) (suc t) p below =
        let r = own.each (suc t) (omega arith) below in
        let before : r.0 < suc t = r.3.before in
        let inside : r.0 < length rows = omega (arith, below, before) in
        same_matrix d field (matrix_at tree (own.found (suc t))) (matrix_times d (matrix_at tree (own.found r.0)) r.2.link) r.4.0.positive
        (product_is d field (matrix_at tree (own.found r.0)) r.2.link (found_matrix b r.0 (omega (arith, p, before)) inside) (leads (own.found r.0) r.1 r.2 (own.order.found_inside r.0 inside) r.3.leads))
        (sym r.4.1)

    pub tree_matrix : (c : ℕ) → IsMatrix d (matrix_at tree c)
    tree_matrix c = go (cases_lt c (length rows))
      where
        go : (c < length rows) ⊎ (length rows ≤ c) → IsMatrix d (matrix_at tree c)
        go (inl p) = subst (λ e. IsMatrix d (matrix_at tree e)) (own.order.found_number c p) (found_matrix (suc (own.number c)) (own.number c) (omega arith) (own.order.number_inside c p))
        go (inr p) = subst (IsMatrix d) (sym (past_end tree c identity (subst (λ n. n ≤ c) (sym own.as_many) p))) (unit_is d field)

    abbrev pub turned : ℕ → Turning d field
    turned c = (matrix_at tree c, tree_matrix c)

    abbrev pub Leads : ℕ → ℕ → Turning d field → Type 0
    Leads c e g = LeadsBy rows c e g.0

    by_number : (b t : ℕ) → t < b → t < length rows → InTree (Same d field) (product d field) Leads turned root (own.found t)
    by_number zero t p below = absurd (omega (arith, p))
    by_number (suc b) zero p below = subst (InTree (Same d field) (product d field) Leads turned root) (sym own.root_first) at_root
    by_number (suc b) (suc t) p below =
        let r = own.each (suc t) (omega arith) below in
        let before : r.0 < suc t = r.3.before in
        let inside : r.0 < length rows = omega (arith, below, before) in
        let there : own.found r.0 < length rows = own.order.found_inside r.0 inside in
        found {g = (r.2.link, leads (own.found r.0) r.1 r.2 there r.3.leads)} (by_number b r.0 (omega (arith, p, before)) inside) (r.1, r.2, there, r.3.leads, r.3.to, refl) r.4.1

    pub in_tree : (c : ℕ) → c < length rows → InTree (Same d field) (product d field) Leads turned root c
    in_tree c below =
        subst (InTree (Same d field) (product d field) Leads turned root) (own.order.found_number c below) (by_number (suc (own.number c)) (own.number c) (omega arith) (own.order.number_inside c below))

    module _ (turns : List (List FieldMatrix)) (mats : List FieldMatrix) (are : AreQuotients d tree rows turns mats)
        (turns_are : (c w : ℕ) (turn : FieldMatrix) → c < length turns → IsAt (row_at turns c) w turn → IsMatrix d turn)
      where
        abbrev pub Turns : ℕ → Turning d field → Type 0
        Turns c f = TurnsBy turns c f.0

        abbrev pub Member : Turning d field → Type 0
        Member x = Contains mats x.0

        -- the value of a quotient of matrices of positive determinant is one
        value_matrix : (q : Quotient) (x : FieldMatrix) → IsValueOf d q x → IsMatrix d q.left → IsMatrix d q.middle → IsMatrix d q.right → IsMatrix d x
        value_matrix q x v l m r = quotient_matrix d field x q.left q.middle q.right v.0.positive l m r v.1

        listed : (q : Quotient) → Contains (quotients tree rows turns) q → (l : IsMatrix d q.left) (m : IsMatrix d q.middle) (r : IsMatrix d q.right)
            → (x : Turning d field) × (Member x ⊎ Same d field x (unit d field)) × HaveOneValue (matrix_times d x.0 q.right) (matrix_times d q.left q.middle)
        listed q m h g k =
            let r = valued d (quotients tree rows turns) mats are q m in
            ((r.0, value_matrix q r.0 r.2 h g k), member r.0 r.1, r.2.1)
          where
            member : (x : FieldMatrix) → Contains mats x ⊎ (x ≡ identity) → Contains mats x ⊎ HaveOneValue x identity
            member x (inl m) = inl m
            member x (inr e) = inr (subst (λ (y : FieldMatrix). HaveOneValue y identity) (sym e) refl)

        -- what a listed matrix is the value of
        abbrev Origin : FieldMatrix → Type 0
        Origin x = ((c : ℕ) × (e : ℕ) × (g : Turning d field) × Leads c e g × HaveOneValue (matrix_times d x (matrix_at tree e)) (matrix_times d (matrix_at tree c) g.0))
            ⊎ ((c : ℕ) × (f : Turning d field) × Turns c f × HaveOneValue (matrix_times d x (matrix_at tree c)) (matrix_times d (matrix_at tree c) f.0))

        origin : (x : FieldMatrix) → Contains mats x → Origin x × IsMatrix d x
        origin x m =
            let r = values_only d (quotients tree rows turns) mats are x m in
            either
            (λ (m : Contains (lead_quotients tree rows (length rows)) r.0).
            let l = lead_meant tree rows (length rows) r.0 m in
            let v : IsValueOf d (lead_quotient tree (matrix_at tree l.0) l.2) x = subst (λ q. IsValueOf d q x) (sym l.5) r.2 in
            let own = leads l.0 l.1 l.2 l.3 l.4 in
            let origin : Origin x = inl (l.0, l.2.to, (l.2.link, own), (l.1, l.2, l.3, l.4, refl, refl), v.1) in
            (origin, value_matrix (lead_quotient tree (matrix_at tree l.0) l.2) x v (tree_matrix l.0) own (tree_matrix l.2.to)))
            (λ (m : Contains (turn_quotients tree turns (length turns)) r.0).
            let l = turn_meant tree turns (length turns) r.0 m in
            let v : IsValueOf d (turn_quotient (matrix_at tree l.0) l.2) x = subst (λ q. IsValueOf d q x) (sym l.5) r.2 in
            let own = turns_are l.0 l.1 l.2 l.3 l.4 in
            let origin : Origin x = inr (l.0, (l.2, own), (l.1, l.3, l.4), v.1) in
            (origin, value_matrix (turn_quotient (matrix_at tree l.0) l.2) x v (tree_matrix l.0) own (tree_matrix l.0)))
            (Contains-append_cases (lead_quotients tree rows (length rows)) (turn_quotients tree turns (length turns)) r.0 r.1)

        pub member_matrix : (x : FieldMatrix) → Contains mats x → IsMatrix d x
        member_matrix x m = (origin x m).1

        -- the values are the list of the tree
        pub is_list : IsList (Same d field) (product d field) (unit d field) ℕ Leads Turns turned Member
        is_list = record {
          lead = λ {c = c} {d = e} {g = g} l.
              let x = listed (lead_quotient tree (matrix_at tree c) l.1)
              (Contains-append_left (lead_quotients tree rows (length rows)) (turn_quotients tree turns (length turns)) (lead_quotient tree (matrix_at tree c) l.1) (lead_asked tree rows (length rows) c l.0 l.1 l.2 l.3))
              (tree_matrix c) (leads c l.0 l.1 l.2 l.3) (tree_matrix l.1.to) in (
                x.0,
                x.1,
                subst (λ (y : FieldMatrix). HaveOneValue (matrix_times d x.0.0 (matrix_at tree e)) (matrix_times d (matrix_at tree c) y)) l.5
                    (subst (λ (k : ℕ). HaveOneValue (matrix_times d x.0.0 (matrix_at tree k)) (matrix_times d (matrix_at tree c) l.1.link)) l.4 x.2),
              );
          turn = λ {c = c} {f = f} t.
              listed (turn_quotient (matrix_at tree c) f.0)
              (Contains-append_right (lead_quotients tree rows (length rows)) (turn_quotients tree turns (length turns)) (turn_quotient (matrix_at tree c) f.0) (turn_asked tree turns (length turns) c t.0 f.0 t.1 t.2))
              (tree_matrix c) f.1 (tree_matrix c);
          only = λ {x = x} m. (origin x.0 m).0;
        }
