-- The steps of the search that finds a tree, and what it has found in the end.
use Rattle.std.proofs.Common.{◌≡◌, ℕ, zero, suc, ◌<◌, ◌≤◌, arith, refl, sym, ap, ◌∙◌, subst, List, length, ◌==◌, if◌then◌else◌}
use mathlib.Core.Path.{subst₂}
use Rattle.std.specs.Prelude.{◌⊎◌}
use native.Mathlib.Bridge.{le_prop}
use mathlib.Core.Logic.{inl, inr, ∥∥₁_elim}
use Rattle.std.proofs.lemmas.Bool.{cases_eq, cases_lt}
use Rattle.std.proofs.lemmas.Option.{slice_get_within}
use Rattle.rings.proofs.Pigeonhole.{Repeats, repeats}
use Rattle.plane.specs.Matrices.{FieldMatrix}
use Rattle.terrain.specs.declared.graph.Lead.{Lead}
use Rattle.terrain.specs.Reach.{Path}
use Rattle.terrain.specs.Reach.Path.{start, on}
use Rattle.quotient.specs.Trees.{row_at, matrix_at, HasLead, LeadsTo, IsReachedFrom, IsFoundBy, IsProduct, IsTree}
use Rattle.quotient.specs.TreeParts.{IsTreePart}
use Rattle.quotient.specs.TreeSearch.{IsTreeSearch}

-- a function with the value at k replaced
abbrev pub changed : {X : Type 0} → (ℕ → X) → ℕ → X → ℕ → X
changed f k v i = if i == k then v else f i

pub changed_at : {X : Type 0} (f : ℕ → X) (k : ℕ) (v : X) (i : ℕ) → i ≡ k → changed f k v i ≡ v
changed_at f k v i e = grind arith

pub changed_other : {X : Type 0} (f : ℕ → X) (k : ℕ) (v : X) (i : ℕ) → ¬ (i ≡ k) → changed f k v i ≡ f i
changed_other f k v i n = grind arith

-- one lead stands at a wall
one_lead : (rows : List (List (Lead FieldMatrix))) (c w : ℕ) (a b : Lead FieldMatrix) → HasLead rows c w a → HasLead rows c w b → a ≡ b
one_lead rows c w a b p q = cc

trans : (a b c : ℕ) → a < b → b < c → a < c
trans a b c p q = omega (arith, p, q)

at_end : (k n : ℕ) → k < suc n → n ≤ k → k ≡ n
at_end k n p q = omega (arith, p, q)

less_more : {k n : ℕ} → k < n → k < suc n
less_more p = omega (arith, p)

never : {X : Type 0} (k n : ℕ) → k < n → n ≤ k → X
never k n p q = absurd (omega (arith, p, q))

module _ {d : ℕ} {rows : List (List (Lead FieldMatrix))} {root : ℕ} {first : FieldMatrix} {found number : ℕ → ℕ} {matrix : ℕ → FieldMatrix} {size t w : ℕ} (own : IsTreeSearch d rows root first found number matrix size t w) where
  -- a wall that leads to a place that is found
  pub looked_on : (lead : Lead FieldMatrix) → HasLead rows (found t) w lead → number lead.to < size → IsTreeSearch d rows root first found number matrix size t (suc w)
  looked_on lead has here = record { part = own.part; none = own.none; looked = looked }
    where
      looked : (i v : ℕ) (k : Lead FieldMatrix) → (i < t) ⊎ ((i ≡ t) × (v < suc w)) → HasLead rows (found i) v k → number k.to < size
      looked i v k (inl p) q = own.looked i v k (inl p) q
      looked i v k (inr p) q = elim (cases_lt v w) [
        | inl less ↦ own.looked i v k (inr (p.0, less)) q
        | inr more ↦
            let e : v ≡ w = at_end v w p.1 more in
            subst (λ (m : Lead FieldMatrix). number m.to < size)
            (one_lead rows (found t) w lead k has (subst (λ u. HasLead rows (found t) u k) e (subst (λ j. HasLead rows (found j) v k) p.0 q))) here
      ]

  -- while a place is left to be found, no place has the next number
  pub below : size < length rows → (c : ℕ) → c < length rows → number c < suc size → number c < size
  below room c inside p = elim (cases_lt (number c) size) [
    | inl q ↦ q
    | inr q ↦ far (number c) size (length rows) p q (own.none c inside (λ r. never {X = ⊥} (number c) size r q)) room
  ]
    where
      far : (n s l : ℕ) → n < suc s → s ≤ n → l ≤ n → s < l → n < s
      far n s l p q r o = absurd (omega (arith, p, q, r, o))

  -- a wall that leads to a new place
  module _ (lead : Lead FieldMatrix) (x : FieldMatrix) (has : HasLead rows (found t) w lead) (within : lead.to < length rows) (new : ¬ (number lead.to < size)) (before : t < size) (room : size < length rows)
      (product : IsProduct d (matrix (found t)) lead.link x)
    where
      abbrev found' : ℕ → ℕ
      found' = changed found size lead.to

      abbrev number' : ℕ → ℕ
      number' = changed number lead.to size

      abbrev matrix' : ℕ → FieldMatrix
      matrix' = changed matrix lead.to x

      earlier : (k : ℕ) → k < size → found' k ≡ found k
      earlier k p = changed_other found size lead.to k (λ e. less k size p e)
        where
          less : (k size : ℕ) → k < size → k ≡ size → ⊥
          less k size p e = omega (arith, p, e)

      -- what is found isn't the new place
      apart : (c : ℕ) → number c < size → ¬ (c ≡ lead.to)
      apart c p e = new (subst (λ c. number c < size) e p)

      number_earlier : (c : ℕ) → number c < size → number' c ≡ number c
      number_earlier c p = changed_other number lead.to size c (apart c p)

      matrix_earlier : (k : ℕ) → k < size → matrix' (found k) ≡ matrix (found k)
      matrix_earlier k p = changed_other matrix lead.to x (found k) (apart (found k) (subst (λ n. n < size) (sym (own.part.number_found k p)) p))

      found_by : (s j v : ℕ) (m : Lead FieldMatrix) → s < size → IsFoundBy rows found number s j v m → IsFoundBy rows found' number' s j v m
      found_by s j v m p b = record {
        before = b.before;
        leads = subst (λ c. HasLead rows c v m) (sym (earlier j (trans j s size b.before p))) b.leads;
        to = b.to ∙ sym (earlier s p);
        first = λ i u k o q.
            let r = b.first i u k o (subst (λ c. HasLead rows c u k) (earlier i (place i o)) q) in
            subst (λ n. n < s) (sym (number_earlier k.to (trans (number k.to) s size r p))) r;
      }
        where
          place : (i : ℕ) {P : Type 0} → (i < j) ⊎ ((i ≡ j) × P) → i < size
          place i (inl q) = trans i s size (trans i j s q b.before) p
          place i (inr q) = trans i s size (subst (λ k. k < s) (sym q.0) b.before) p

      newest : found' size ≡ lead.to
      newest = changed_at found size lead.to size refl

      numbered : number' lead.to ≡ size
      numbered = changed_at number lead.to size lead.to refl

      number_less : (c : ℕ) → number c < size → number' c < suc size
      number_less c p = subst (λ n. n < suc size) (sym (number_earlier c p)) (less_more p)

      -- the place of a wall that is looked at isn't beyond
      place_less : (i : ℕ) {P : Type 0} → (i < t) ⊎ ((i ≡ t) × P) → i < size
      place_less i (inl p) = trans i t size p before
      place_less i (inr p) = subst (λ k. k < size) (sym p.0) before

      found_inside : (k : ℕ) → k < suc size → found' k < length rows
      found_inside k p = elim (cases_lt k size) [
        | inl q ↦ subst (λ c. c < length rows) (sym (earlier k q)) (own.part.found_inside k q)
        | inr q ↦ subst (λ c. c < length rows) (sym (changed_at found size lead.to k (at_end k size p q))) within
      ]

      number_found : (k : ℕ) → k < suc size → number' (found' k) ≡ k
      number_found k p = elim (cases_lt k size) [
        | inl q ↦ ap number' (earlier k q) ∙ number_earlier (found k) (subst (λ n. n < size) (sym (own.part.number_found k q)) q) ∙ own.part.number_found k q
        | inr q ↦ let e : k ≡ size = at_end k size p q in ap number' (changed_at found size lead.to k e) ∙ numbered ∙ sym e
      ]

      found_number : (c : ℕ) → c < length rows → number' c < suc size → found' (number' c) ≡ c
      found_number c inside p = elim (cases_eq c lead.to) [
        | inl e ↦ ap (λ c. found' (number' c)) e ∙ ap found' numbered ∙ newest ∙ sym e
        | inr n ↦
            let same : number' c ≡ number c = changed_other number lead.to size c n in
            let q : number c < size = below room c inside (subst (λ k. k < suc size) same p) in
            ap found' same ∙ earlier (number c) q ∙ own.part.found_number c inside q
      ]

      none : (c : ℕ) → c < length rows → ¬ (number' c < suc size) → length rows ≤ number' c
      none c inside n = elim (cases_eq c lead.to) [
        | inl e ↦ absurd (n (subst (λ k. k < suc size) (sym (ap number' e ∙ numbered)) (omega arith)))
        | inr m ↦
            let same : number' c ≡ number c = changed_other number lead.to size c m in
            subst (λ k. length rows ≤ k) (sym same) (own.none c inside (λ q. n (number_less c q)))
      ]

      each : (s : ℕ) → 0 < s → s < suc size → (j : ℕ) × (v : ℕ) × (m : Lead FieldMatrix) × IsFoundBy rows found' number' s j v m × IsProduct d (matrix' (found' j)) m.link (matrix' (found' s))
      each s p q = elim (cases_lt s size) [
        | inl less ↦
            let r = own.part.each s p less in
            let j_less : r.0 < size = trans r.0 s size r.3.before less in (
              r.0,
              r.1,
              r.2,
              found_by s r.0 r.1 r.2 less r.3,
              subst₂ (λ (a b : FieldMatrix). IsProduct d a r.2.link b)
                  (sym (ap matrix' (earlier r.0 j_less) ∙ matrix_earlier r.0 j_less)) (sym (ap matrix' (earlier s less) ∙ matrix_earlier s less)) r.4,
            )
        | inr more ↦
            let e : size ≡ s = sym (at_end s size q more) in (
              t,
              w,
              lead,
              subst (λ s. IsFoundBy rows found' number' s t w lead) e
                  (record {
                    before = before;
                    leads = subst (λ c. HasLead rows c w lead) (sym (earlier t before)) has;
                    to = sym newest;
                    first = λ i u k o q.
                        let r = own.looked i u k o (subst (λ c. HasLead rows c u k) (earlier i (place_less i o)) q) in
                        subst (λ n. n < size) (sym (number_earlier k.to r)) r;
                  }),
              subst₂ (λ (a b : FieldMatrix). IsProduct d a lead.link b)
                  (sym (ap matrix' (earlier t before) ∙ matrix_earlier t before)) (sym (ap matrix' (ap found' (sym e) ∙ newest) ∙ changed_at matrix lead.to x lead.to refl)) product,
            )
      ]

      looked : (i v : ℕ) (k : Lead FieldMatrix) → (i < t) ⊎ ((i ≡ t) × (v < suc w)) → HasLead rows (found' i) v k → number' k.to < suc size
      looked i v k (inl p) q = number_less k.to (own.looked i v k (inl p) (subst (λ c. HasLead rows c v k) (earlier i (place_less i {P = ℕ} (inl p))) q))
      looked i v k (inr p) q = elim (cases_lt v w) [
        | inl less ↦ number_less k.to (own.looked i v k (inr (p.0, less)) (subst (λ c. HasLead rows c v k) (earlier i (place_less i {P = v < suc w} (inr p))) q))
        | inr more ↦
            let e : v ≡ w = at_end v w p.1 more in
            let there : HasLead rows (found t) w k =
            subst (λ u. HasLead rows (found t) u k) e (subst (λ j. HasLead rows (found j) v k) p.0 (subst (λ c. HasLead rows c v k) (earlier i (place_less i {P = v < suc w} (inr p))) q)) in
            subst (λ (m : Lead FieldMatrix). number' m.to < suc size) (one_lead rows (found t) w lead k has there) (subst (λ n. n < suc size) (sym numbered) (omega arith))
      ]

      pub appended : IsTreeSearch d rows root first found' number' matrix' (suc size) t (suc w)
      appended = record {
        part = record {
          some = omega arith;
          found_inside = found_inside;
          number_found = number_found;
          found_number = found_number;
          root_first = earlier 0 own.part.some ∙ own.part.root_first;
          root_matrix = ap matrix' (sym own.part.root_first) ∙ matrix_earlier 0 own.part.some ∙ ap matrix own.part.root_first ∙ own.part.root_matrix;
          each = each;
        };
        none = none;
        looked = looked;
      }

-- no more places are found than there are
pub not_more : {d : ℕ} {rows : List (List (Lead FieldMatrix))} {root : ℕ} {first : FieldMatrix} {found number : ℕ → ℕ} {matrix : ℕ → FieldMatrix} {size : ℕ}
    → IsTreePart d rows root first found number matrix size → size ≤ length rows
not_more {rows = rows} {found = found} {number = number} {size = size} part = elim (cases_lt (length rows) size) [
  | inl less ↦ absurd (many less (repeats (length rows) found (λ i p. part.found_inside i (within i p less))))
  | inr le ↦ le
]
  where
    within : (i : ℕ) → i < suc (length rows) → length rows < size → i < size
    within i p q = omega (arith, p, q)

    many : length rows < size → Repeats (length rows) found → ⊥
    many less (i, j, p, q, e) =
        equal i j p (sym (part.number_found i (within i (lower i j (length rows) p q) less)) ∙ ap number e ∙ part.number_found j (within j q less))
      where
        lower : (i j n : ℕ) → i < j → j < suc n → i < suc n
        lower i j n p q = omega (arith, p, q)

        equal : (i j : ℕ) → i < j → i ≡ j → ⊥
        equal i j p e = omega (arith, p, e)

-- where a place isn't found, fewer are found than there are
pub room_for : {d : ℕ} {rows : List (List (Lead FieldMatrix))} {root : ℕ} {first : FieldMatrix} {found number : ℕ → ℕ} {matrix : ℕ → FieldMatrix} {size : ℕ}
    → IsTreePart d rows root first found number matrix size → (c : ℕ) → c < length rows → ¬ (number c < size) → size < length rows
room_for {rows = rows} {found = found} {number = number} {size = size} part c inside new = elim (cases_lt size (length rows)) [
  | inl less ↦ less
  | inr more ↦ absurd (surely more (repeats (length rows) with_c (λ i p. with_inside i (below i p more))))
]
  where
    with_c : ℕ → ℕ
    with_c = changed found (length rows) c

    below : (i : ℕ) → i < suc (length rows) → length rows ≤ size → (i < size) ⊎ (i ≡ length rows)
    below i p q = elim (cases_lt i (length rows)) [
      | inl less ↦ inl (omega (arith, less, q))
      | inr more ↦ inr (at_end i (length rows) p more)
    ]

    only : (i : ℕ) → ¬ (i ≡ length rows) → (i < size) ⊎ (i ≡ length rows) → i < size
    only i n (inl q) = q
    only i n (inr q) = absurd (n q)

    with_inside : (i : ℕ) → (i < size) ⊎ (i ≡ length rows) → with_c i < length rows
    with_inside i p = elim (cases_eq i (length rows)) [
      | inl e ↦ subst (λ k. k < length rows) (sym (changed_at found (length rows) c i e)) inside
      | inr n ↦ subst (λ k. k < length rows) (sym (changed_other found (length rows) c i n)) (part.found_inside i (only i n p))
    ]

    low : (i j l s : ℕ) → i < j → j < suc l → l ≤ s → i < s
    low i j l s p q r = omega (arith, p, q, r)

    unlike : (i j l : ℕ) → i < j → j < suc l → i ≡ l → ⊥
    unlike i j l p q e = omega (arith, p, q, e)

    high : (j l s : ℕ) → j < suc l → ¬ (j ≡ l) → l ≤ s → j < s
    high j l s q n r = elim (cases_lt j l) [
      | inl less ↦ omega (arith, less, r)
      | inr more ↦ absurd (n (at_end j l q more))
    ]

    equal : (i j : ℕ) → i < j → i ≡ j → ⊥
    equal i j p e = omega (arith, p, e)

    surely : length rows ≤ size → Repeats (length rows) with_c → ⊥
    surely more (i, j, p, q, e) = elim (cases_eq j (length rows)) [
      | inl at ↦
          let i_less : i < size = low i j (length rows) size p q more in
          let i_not : ¬ (i ≡ length rows) = λ r. unlike i j (length rows) p q r in
          let same : found i ≡ c = sym (changed_other found (length rows) c i i_not) ∙ e ∙ changed_at found (length rows) c j at in
          new (subst (λ k. number k < size) same (subst (λ n. n < size) (sym (part.number_found i i_less)) i_less))
      | inr not ↦
          let j_less : j < size = high j (length rows) size q not more in
          let i_less : i < size = trans i j size p j_less in
          let i_not : ¬ (i ≡ length rows) = λ r. unlike i j (length rows) p q r in
          let same : found i ≡ found j = sym (changed_other found (length rows) c i i_not) ∙ e ∙ changed_other found (length rows) c j not in
          equal i j p (sym (part.number_found i i_less) ∙ ap number same ∙ part.number_found j j_less)
    ]

module _ {d : ℕ} {rows : List (List (Lead FieldMatrix))} {root : ℕ} {first : FieldMatrix} {found number : ℕ → ℕ} {matrix : ℕ → FieldMatrix} {size : ℕ} where
  -- the walls of a place are all looked at
  pub next_row : {t w : ℕ} → IsTreeSearch d rows root first found number matrix size t w → length (row_at rows (found t)) ≤ w
      → IsTreeSearch d rows root first found number matrix size (suc t) 0
  next_row {t = t} {w = w} own end = record { part = own.part; none = own.none; looked = looked }
    where
      looked : (i v : ℕ) (k : Lead FieldMatrix) → (i < suc t) ⊎ ((i ≡ suc t) × (v < 0)) → HasLead rows (found i) v k → number k.to < size
      looked i v k (inr p) q = let absent = p.1 in absurd (omega (arith, absent))
      looked i v k (inl p) q = elim (cases_lt i t) [
        | inl less ↦ own.looked i v k (inl less) q
        | inr more ↦
            let e : i ≡ t = at_end i t p more in
            let there : HasLead rows (found t) v k = subst (λ j. HasLead rows (found j) v k) e q in
            let short = slice_get_within (row_at rows (found t)) v k there in
            own.looked i v k (inr (e, omega (arith, short, end))) q
      ]

  -- where all that is found is looked at, all places are found
  module _ (own : IsTreeSearch d rows root first found number matrix size size 0) (reached : (c : ℕ) → c < length rows → IsReachedFrom rows root c) where
    all_found : (c : ℕ) → c < length rows → number c < size
    all_found c inside = ∥∥₁_elim (reached c inside) (λ p q. le_prop p q) along
      where
        along : {e : ℕ} → Path (LeadsTo rows) root e → number e < size
        along start = subst (λ c. number c < size) own.part.root_first (subst (λ n. n < size) (sym (own.part.number_found 0 own.part.some)) own.part.some)
        along (on {k} path step) =
            let less = along path in
            subst (λ c. number c < size) step.1.3
            (own.looked (number k) step.1.0 step.1.1 (inl less) (subst (λ c. HasLead rows c step.1.0 step.1.1) (sym (own.part.found_number k step.0 less)) step.1.2))

    pub as_many : size ≡ length rows
    as_many = elim (cases_lt size (length rows)) [
      | inl less ↦ absurd (few less (repeats size number (λ i p. all_found i (before i p less))))
      | inr more ↦ let le = not_more own.part in omega (arith, more, le)
    ]
      where
        before : (i : ℕ) → i < suc size → size < length rows → i < length rows
        before i p q = omega (arith, p, q)

        few : size < length rows → Repeats size number → ⊥
        few less (i, j, p, q, e) =
            let i_in = before i (lower i j size p q) less in
            let j_in = before j q less in
            equal i j p (sym (own.part.found_number i i_in (all_found i i_in)) ∙ ap found e ∙ own.part.found_number j j_in (all_found j j_in))
          where
            lower : (i j n : ℕ) → i < j → j < suc n → i < suc n
            lower i j n p q = omega (arith, p, q)

            equal : (i j : ℕ) → i < j → i ≡ j → ⊥
            equal i j p e = omega (arith, p, e)

    -- and the tree is there
    pub tree_found : (tree : List FieldMatrix) → length tree ≡ length rows → ((c : ℕ) → matrix c ≡ matrix_at tree c) → IsTree d rows root first tree
    tree_found tree long same = record {
      found = found;
      number = number;
      order = record {
        found_inside = λ k p. own.part.found_inside k (subst (λ n. k < n) (sym as_many) p);
        number_inside = λ c p. subst (λ n. number c < n) as_many (all_found c p);
        number_found = λ k p. own.part.number_found k (subst (λ n. k < n) (sym as_many) p);
        found_number = λ c p. own.part.found_number c p (all_found c p);
      };
      as_many = long;
      root_first = own.part.root_first;
      root_matrix = sym (same root) ∙ own.part.root_matrix;
      each = λ t p q.
          let r = own.part.each t p (subst (λ n. t < n) (sym as_many) q) in
          (r.0, r.1, r.2, r.3, subst₂ (λ (a b : FieldMatrix). IsProduct d a r.2.link b) (same (found r.0)) (same (found t)) r.4);
    }
