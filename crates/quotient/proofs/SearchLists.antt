-- The search of a tree as lists: its start, its steps, and its end.
use Rattle.std.proofs.Common.{◌≡◌, ℕ, zero, suc, ◌<◌, ◌≤◌, arith, refl, sym, ap, ◌∙◌, subst, List, [], ◌∷◌, ◌++◌, length, get_or, set, replicate, length-set}
use Rattle.std.specs.Prelude.{◌⊎◌, Bool, true, false, IsTrue, ◌↔◌}
use mathlib.Core.Logic.{inl, inr}
use Rattle.std.proofs.lemmas.Bool.{cases_eq}
use Rattle.std.proofs.lemmas.List.{get_or-set_same, get_or-set_other, get_or-replicate, length-replicate}
use Rattle.quad_field.specs.declared.formula.Formula.TheVariants.{F10}
use Rattle.plane.specs.Matrices.{FieldMatrix, identity}
use Rattle.plane.specs.MatrixWidth.{ProductFits}
use Rattle.terrain.specs.declared.graph.Lead.{Lead}
use Rattle.quotient.specs.Trees.{row_at, matrix_at, HasLead, IsReachedFrom, IsProduct, IsTree}
use Rattle.quotient.specs.TreeParts.{IsTreePart, IsMatrixOf}
use Rattle.quotient.specs.TreeSearch.{IsTreeSearch, IsSearch, IsSearchAt}
use Rattle.quotient.specs.Width.{IsWideIn}
use Rattle.quotient.specs.Width.IsWideIn.{in_product}
use Rattle.quotient.proofs.Rows.{push_end, push_other}
use Rattle.quotient.proofs.TreeSearch.{changed, changed_at, changed_other, looked_on, below, appended, not_more, room_for, next_row, as_many, tree_found}

-- ---- lists as functions
pub push_read : (order : List ℕ) (x k : ℕ) → get_or (order ++ x ∷ []) k 0 ≡ changed (λ j. get_or order j 0) (length order) x k
push_read order x k = elim (cases_eq k (length order)) [
  | inl e ↦ push_end order x 0 k e ∙ sym (changed_at (λ j. get_or order j 0) (length order) x k e)
  | inr n ↦ push_other order x 0 k n ∙ sym (changed_other (λ j. get_or order j 0) (length order) x k n)
]

pub set_read : (tree : List FieldMatrix) (c : ℕ) (x : FieldMatrix) (k : ℕ) → c < length tree → matrix_at (set tree c x) k ≡ changed (matrix_at tree) c x k
set_read tree c x k inside = elim (cases_eq k c) [
  | inl e ↦ ap (matrix_at (set tree c x)) e ∙ get_or-set_same tree c x identity inside ∙ sym (changed_at (matrix_at tree) c x k e)
  | inr n ↦ get_or-set_other tree c k x identity n ∙ sym (changed_other (matrix_at tree) c x k n)
]

longer : (order : List ℕ) (x : ℕ) → length (order ++ x ∷ []) ≡ suc (length order)
longer [] x = refl
longer (o ∷ order) x = ap suc (longer order x)

not_both : (b : Bool) → b ≡ true → b ≡ false → ⊥
not_both b p q = cc

less_more : (k n m : ℕ) → k < n → m ≡ suc n → k < m
less_more k n m p e = omega (arith, p, e)

-- ---- the start
module _ (d : ℕ) (rows : List (List (Lead FieldMatrix))) (root : ℕ) (first : FieldMatrix) (is_found : List Bool) (tree : List FieldMatrix) (inside : root < length rows) where
  abbrev numbered : ℕ → ℕ
  numbered = changed (λ _. length rows) root 0

  at_root : (c : ℕ) → c ≡ root → numbered c ≡ 0
  at_root c e = changed_at (λ _. length rows) root 0 c e

  elsewhere : (c : ℕ) → ¬ (c ≡ root) → numbered c ≡ length rows
  elsewhere c n = changed_other (λ _. length rows) root 0 c n

  far : (c : ℕ) → ¬ (c ≡ root) → numbered c < 1 → ⊥
  far c n p = let e = elsewhere c n in omega (arith, e, p, inside)

  begun : matrix_at tree root ≡ first → IsTreeSearch d rows root first (λ k. get_or (root ∷ []) k 0) numbered (matrix_at tree) 1 0 0
  begun matrix = record {
    part = record {
      some = omega arith;
      found_inside = found_inside;
      number_found = number_found;
      found_number = found_number;
      root_first = refl;
      root_matrix = matrix;
      each = λ t p q. absurd (omega (arith, p, q));
    };
    none = none;
    looked = looked;
  }
    where
      found_inside : (t : ℕ) → t < 1 → get_or (root ∷ []) t 0 < length rows
      found_inside zero p = inside
      found_inside (suc t) p = absurd (omega (arith, p))

      number_found : (t : ℕ) → t < 1 → numbered (get_or (root ∷ []) t 0) ≡ t
      number_found zero p = at_root root refl
      number_found (suc t) p = absurd (omega (arith, p))

      found_number : (c : ℕ) → c < length rows → numbered c < 1 → get_or (root ∷ []) (numbered c) 0 ≡ c
      found_number c _ p = elim (cases_eq c root) [
        | inl e ↦ ap (λ k. get_or (root ∷ []) k 0) (at_root c e) ∙ sym e
        | inr n ↦ absurd (far c n p)
      ]

      none : (c : ℕ) → c < length rows → ¬ (numbered c < 1) → length rows ≤ numbered c
      none c _ m = elim (cases_eq c root) [
        | inl e ↦ let z = at_root c e in absurd (m (omega (arith, z)))
        | inr n ↦ let z = elsewhere c n in omega (arith, z)
      ]

      looked : (i v : ℕ) (lead : Lead FieldMatrix) → (i < 0) ⊎ ((i ≡ 0) × (v < 0)) → HasLead rows (get_or (root ∷ []) i 0) v lead → numbered lead.to < 1
      looked i v lead (inl p) has = absurd (omega (arith, p))
      looked i v lead (inr p) has = let q = p.1 in absurd (omega (arith, q))

  pub started : length is_found ≡ length rows → length tree ≡ length rows → matrix_at tree root ≡ first
      → get_or is_found root false ≡ true → ((c : ℕ) → c < length rows → ¬ (c ≡ root) → get_or is_found c false ≡ false)
      → IsSearch d rows root first (root ∷ []) is_found tree 0 0
  started marks matrices matrix here other = record { number = numbered; search = begun matrix; marked = marked; marks = marks; matrices = matrices }
    where
      marked : (c : ℕ) → c < length rows → IsTrue (get_or is_found c false) ↔ (numbered c < 1)
      marked c p = elim (cases_eq c root) [
        | inl e ↦ ((λ _. let z = at_root c e in omega (arith, z)), λ _. ap (λ k. get_or is_found k false) e ∙ here)
        | inr n ↦ ((λ q. absurd (not_both (get_or is_found c false) q (other c p n))), λ q. absurd (far c n q))
      ]

-- the lists with which a search starts
pub started_lists : (d : ℕ) (rows : List (List (Lead FieldMatrix))) (root places : ℕ) (first : FieldMatrix) (is_found : List Bool) (tree : List FieldMatrix) → root < places → length rows ≡ places
    → is_found ≡ replicate places false → tree ≡ replicate places first → IsSearch d rows root first (root ∷ []) (set is_found root true) tree 0 0
started_lists d rows root places first is_found tree inside long marks matrices =
    started d rows root first (set is_found root true) tree (subst (λ n. root < n) (sym long) inside)
    (length-set is_found root true ∙ ap length marks ∙ length-replicate places false ∙ sym long)
    (ap length matrices ∙ length-replicate places first ∙ sym long)
    (ap (λ (ms : List FieldMatrix). matrix_at ms root) matrices ∙ get_or-replicate places root first identity inside)
    (get_or-set_same is_found root true false (subst (λ n. root < n) (sym (ap length marks ∙ length-replicate places false)) inside))
    (λ c p n. get_or-set_other is_found root c true false n ∙ ap (λ (bs : List Bool). get_or bs c false) marks ∙ get_or-replicate places c false false (subst (λ n. c < n) long p))

-- ---- the steps
module _ (d : ℕ) (rows : List (List (Lead FieldMatrix))) (root : ℕ) (first : FieldMatrix) (order : List ℕ) (is_found : List Bool) (tree : List FieldMatrix) (t from w : ℕ)
    (at : IsSearchAt d rows root first order is_found tree t from w)
  where
    -- the place has its matrix
    pub matrix_here : IsMatrixOf d rows root first from (matrix_at tree from)
    matrix_here = record {
      found = λ k. get_or order k 0;
      number = at.search.number;
      matrix = matrix_at tree;
      size = length order;
      part = at.search.search.part;
      inside = subst (λ c. c < length rows) at.place (at.search.search.part.found_inside t at.here);
      found_before = subst (λ c. at.search.number c < length order) at.place (subst (λ k. k < length order) (sym (at.search.search.part.number_found t at.here)) at.here);
      is = refl;
    }

    -- a product that is wide
    pub wide_here : (turns : List (List FieldMatrix)) (lead : Lead FieldMatrix) → HasLead rows from w lead → ¬ (ProductFits d (matrix_at tree from) lead.link) → IsWideIn d rows turns root first F10
    wide_here turns lead has wide = in_product from lead.to lead.link (matrix_at tree from) (inl (w, lead, has, refl, refl)) matrix_here wide

    -- the walls of the place are all looked at
    pub next_place : length (row_at rows from) ≤ w → IsSearch d rows root first order is_found tree (suc t) 0
    next_place end = record {
      number = at.search.number;
      search = next_row at.search.search (subst (λ c. length (row_at rows c) ≤ w) (sym at.place) end);
      marked = at.search.marked;
      marks = at.search.marks;
      matrices = at.search.matrices;
    }

    module _ (lead : Lead FieldMatrix) (has : HasLead rows from w lead) (inside : lead.to < length rows) where
      there : HasLead rows (get_or order t 0) w lead
      there = subst (λ c. HasLead rows c w lead) (sym at.place) has

      -- a lead to a place that is found
      pub found_on : get_or is_found lead.to false ≡ true → IsSearchAt d rows root first order is_found tree t from (suc w)
      found_on e = record {
        search = record {
          number = at.search.number;
          search = looked_on at.search.search lead there ((at.search.marked lead.to inside).0 e);
          marked = at.search.marked;
          marks = at.search.marks;
          matrices = at.search.matrices;
        };
        here = at.here;
        place = at.place;
      }

      -- a lead to a new place
      module _ (x : FieldMatrix) (new : get_or is_found lead.to false ≡ false) (product : IsProduct d (matrix_at tree from) lead.link x) where
        not_found : ¬ (at.search.number lead.to < length order)
        not_found p = not_both (get_or is_found lead.to false) ((at.search.marked lead.to inside).1 p) new

        room : length order < length rows
        room = room_for at.search.search.part lead.to inside not_found

        number' : ℕ → ℕ
        number' = changed at.search.number lead.to (length order)

        later : IsTreeSearch d rows root first (λ k. get_or (order ++ lead.to ∷ []) k 0) (changed at.search.number lead.to (length order)) (matrix_at (set tree lead.to x)) (length (order ++ lead.to ∷ [])) t (suc w)
        later =
            subst (λ (n : ℕ). IsTreeSearch d rows root first (λ k. get_or (order ++ lead.to ∷ []) k 0) (changed at.search.number lead.to (length order)) (matrix_at (set tree lead.to x)) n t (suc w))
            (sym (longer order lead.to))
            (subst (λ (m : ℕ → FieldMatrix). IsTreeSearch d rows root first (λ k. get_or (order ++ lead.to ∷ []) k 0) (changed at.search.number lead.to (length order)) m (suc (length order)) t (suc w))
            (λ i c. sym (set_read tree lead.to x c within) i)
            (subst (λ (f : ℕ → ℕ). IsTreeSearch d rows root first f (changed at.search.number lead.to (length order)) (changed (matrix_at tree) lead.to x) (suc (length order)) t (suc w))
            (λ i k. sym (push_read order lead.to k) i)
            (appended at.search.search lead x there inside not_found at.here room (subst (λ c. IsProduct d (matrix_at tree c) lead.link x) (sym at.place) product))))
          where
            within : lead.to < length tree
            within = subst (λ n. lead.to < n) (sym at.search.matrices) inside

        marked : (c : ℕ) → c < length rows → IsTrue (get_or (set is_found lead.to true) c false) ↔ (changed at.search.number lead.to (length order) c < length (order ++ lead.to ∷ []))
        marked c p = elim (cases_eq c lead.to) [
          | inl e ↦ (
            (λ _. less_equal (changed at.search.number lead.to (length order) c) (length order) (length (order ++ lead.to ∷ []))
                (changed_at at.search.number lead.to (length order) c e) (longer order lead.to)),
            λ _. ap (λ k. get_or (set is_found lead.to true) k false) e ∙ get_or-set_same is_found lead.to true false (subst (λ n. lead.to < n) (sym at.search.marks) inside),
          )
          | inr n ↦
              let same = changed_other at.search.number lead.to (length order) c n in
              let read = get_or-set_other is_found lead.to c true false n in (
                (λ q. less_more (changed at.search.number lead.to (length order) c) (length order) (length (order ++ lead.to ∷ []))
                    (subst (λ k. k < length order) (sym same) ((at.search.marked c p).0 (sym read ∙ q))) (longer order lead.to)),
                λ q. read ∙ (at.search.marked c p).1 (below at.search.search room c p (subst (λ k. k < suc (length order)) same (subst (λ m. changed at.search.number lead.to (length order) c < m) (longer order lead.to) q))),
              )
        ]
          where
            less_equal : (k n m : ℕ) → k ≡ n → m ≡ suc n → k < m
            less_equal k n m e f = omega (arith, e, f)

        pub new_on : IsSearchAt d rows root first (order ++ lead.to ∷ []) (set is_found lead.to true) (set tree lead.to x) t from (suc w)
        new_on = record {
          search = record {
            number = changed at.search.number lead.to (length order);
            search = later;
            marked = marked;
            marks = length-set is_found lead.to true ∙ at.search.marks;
            matrices = length-set tree lead.to x ∙ at.search.matrices;
          };
          here = less_more t (length order) (length (order ++ lead.to ∷ [])) at.here (longer order lead.to);
          place = push_other order lead.to 0 t (λ e. unlike t (length order) at.here e) ∙ at.place;
        }
          where
            unlike : (k n : ℕ) → k < n → k ≡ n → ⊥
            unlike k n p e = omega (arith, p, e)

-- ---- the end
module _ (d : ℕ) (rows : List (List (Lead FieldMatrix))) (root : ℕ) (first : FieldMatrix) (order : List ℕ) (is_found : List Bool) (tree : List FieldMatrix) (t : ℕ)
    (own : IsSearch d rows root first order is_found tree t 0)
  where
    -- a found place is a place
    pub place_inside : t < length order → get_or order t 0 < length rows
    place_inside p = own.search.part.found_inside t p

    -- a place whose leads are to be followed
    pub at_next : t < length order → IsSearchAt d rows root first order is_found tree t (get_or order t 0) 0
    at_next p = record { search = own; here = p; place = refl }

    module _ (before : t ≤ length order) (reached : (c : ℕ) → c < length rows → IsReachedFrom rows root c) where
      -- where all found places are looked at, these are all places
      ended : t ≡ length order → IsTreeSearch d rows root first (λ k. get_or order k 0) own.number (matrix_at tree) (length order) (length order) 0
      ended e = subst (λ (n : ℕ). IsTreeSearch d rows root first (λ k. get_or order k 0) own.number (matrix_at tree) (length order) n 0) e own.search

      all_places : t ≡ length order → length order ≡ length rows
      all_places e = as_many (ended e) reached

      -- while places are left, there is a next one
      pub has_next : t < length rows → t < length order
      has_next p = next (cases_eq t (length order))
        where
          next : (t ≡ length order) ⊎ ¬ (t ≡ length order) → t < length order
          next (inl e) = let all = all_places e in absurd (omega (arith, p, e, all))
          next (inr n) = less t (length order) n before
            where
              less : (k n : ℕ) → ¬ (k ≡ n) → k ≤ n → k < n
              less k n ne le = omega (arith, ne, le)

      -- and the tree is found in the end
      pub whole_tree : t ≡ length rows → IsTree d rows root first tree
      whole_tree e = tree_found (ended (all t (length order) (length rows) e before (not_more own.search.part))) reached tree own.matrices (λ c. refl)
        where
          all : (k n l : ℕ) → k ≡ l → k ≤ n → n ≤ l → k ≡ n
          all k n l e p q = omega (arith, e, p, q)
