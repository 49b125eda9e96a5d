-- Each kind of step keeps the rule.
use Rattle.std.proofs.Common.{◌≡◌, ◌≢◌, ◌⊎◌, ℕ, zero, suc, ◌+◌, ◌%◌, ◌^◌, ◌<◌, List, [], ◌∷◌, ◌++◌, length, set, Some, None, true, false, true≢false, refl, sym, ap, ◌∙◌, subst, arith, ⊎_elim, length-append}
use Rattle.std.specs.Prelude.{slice_index, ℤ}
use mathlib.Core.Option.{some-ne-none, some-injective}
use mathlib.Core.List.{IsPrefix}
use lib.ListN.{get_elem?}
use Rattle.atomic_table.specs.Table.{State, Me, Allows, Splits, Joins, keeps as stays}
use Rattle.atomic_table.proofs.Lists.{at_set, at_snoc, set_again}
use Rattle.receipt_log.specs.declared.view.View.{View}
use Rattle.receipt_log.specs.Views.{view, keeper, receipt, spent, took}
use Rattle.receipt_log.specs.Rule.{IsViewAt, ArePrefixes, Fits, IsLog, Rule}
use Rattle.receipt_log.specs.Told.{Appended, Looked}
use Rattle.receipt_log.proofs.Prefixes.{prefix_self, prefix_push, none_begin, begin_push, begin_more}

abbrev pub holds : State ℕ View → Type 0
holds s = Rule s.words s.views

off : false ≡ true → ⊥
off e = true≢false (sym e)

no_place : (p : ℕ) → None ≡ Some p → ⊥
no_place p e = absurd cc

a_place : (p : ℕ) → Some p ≡ None → ⊥
a_place p e = absurd cc

-- views by their places
set_here : (views : List View) (i : ℕ) (v w : View) → IsViewAt views i v → IsViewAt (set views i w) i w
set_here [] i v w e = absurd (some-ne-none v (sym e))
set_here (x ∷ xs) zero v w e = refl
set_here (x ∷ xs) (suc i) v w e = set_here xs i v w e

set_else : (views : List View) (i j : ℕ) (w u : View) → j ≢ i → IsViewAt views j u → IsViewAt (set views i w) j u
set_else [] i j w u ne e = e
set_else (x ∷ xs) zero zero w u ne e = absurd (ne refl)
set_else (x ∷ xs) zero (suc j) w u ne e = e
set_else (x ∷ xs) (suc i) zero w u ne e = e
set_else (x ∷ xs) (suc i) (suc j) w u ne e = set_else xs i j w u (λ h. ne (ap suc h)) e

snoc_left : (views : List View) (j : ℕ) (w u : View) → IsViewAt views j u → IsViewAt (views ++ w ∷ []) j u
snoc_left [] j w u e = absurd (some-ne-none u (sym e))
snoc_left (x ∷ xs) zero w u e = e
snoc_left (x ∷ xs) (suc j) w u e = snoc_left xs j w u e

-- what the rule says where a view is the keeper's
record Owned (word : ℕ) (views : List View) (id : ℕ) (v : View) : Type 0 where
  number : word ≡ length v.list
  one : (by : ℕ) (u : View) → IsViewAt views by u → u.keeps ≡ true → by ≡ id
  fits : (by : ℕ) (u : View) → IsViewAt views by u → Fits v.list u

owned : (word : ℕ) (views : List View) (id : ℕ) (v : View) → IsLog word views → IsViewAt views id v → v.keeps ≡ true → Owned word views id v
owned word views id v log at keeps =
    let mine : id ≡ log.seat = log.one id v at keeps in
    let same : log.keeper ≡ v = some-injective log.keeper v (sym log.at ∙ ap (get_elem? views) (sym mine) ∙ at) in record {
      number = log.number ∙ ap (λ (u : View). length u.list) same;
      one = λ by u e k. log.one by u e k ∙ sym mine;
      fits = λ by u e. subst (λ (x : View). Fits x.list u) same (log.fits by u e);
    }

-- the view at one place changes
fits_set : (all : List (List ℤ)) (views : List View) (by : ℕ) (w : View) → ((j : ℕ) (u : View) → IsViewAt views j u → Fits all u) → Fits all w → (j : ℕ) (u : View) → IsViewAt (set views by w) j u → Fits all u
fits_set all views by w others mine j u e =
    ⊎_elim
    (λ (x : (j ≡ by) × (w ≡ u)). subst (Fits all) x.1 mine)
    (λ (x : (j ≢ by) × IsViewAt views j u). others j u x.1)
    (at_set views by j w u e)

-- it stays the only keeper's
one_set : (word : ℕ) (views : List View) (id : ℕ) (v w : View) → Owned word views id v → (by : ℕ) (u : View) → IsViewAt (set views id w) by u → u.keeps ≡ true → by ≡ id
one_set word views id v w o by u e k = ⊎_elim (λ (x : (by ≡ id) × (w ≡ u)). x.0) (λ (x : (by ≢ id) × IsViewAt views by u). o.one by u x.1 k) (at_set views id by w u e)

-- the keeper's view changes
keeper_changes : (word word' : ℕ) (views : List View) (id : ℕ) (v w : View) → IsViewAt views id v → Owned word views id v → w.keeps ≡ true → word' ≡ length w.list → ((u : View) → Fits v.list u → Fits w.list u) → Fits w.list w → IsLog word' (set views id w)
keeper_changes word word' views id v w at o keeps number others mine = record {
  keeper = w;
  seat = id;
  at = set_here views id v w at;
  keeps = keeps;
  one = one_set word views id v w o;
  number = number;
  fits = fits_set w.list views id w (λ j u e. others u (o.fits j u e)) mine;
}

spent_fits : (all : List (List ℤ)) → Fits all spent
spent_fits all = record { seen = (all, refl); olds = none_begin all; within = λ p e. absurd (no_place p e); spent = λ _ _. (refl, refl) }

word_of : (words : List ℕ) (n : ℕ) → words ≡ n ∷ [] → slice_index words 0 ≡ n
word_of words n e = ap (λ ws. slice_index ws 0) e

word_set : (words : List ℕ) (n m : ℕ) → words ≡ n ∷ [] → set words 0 m ≡ m ∷ []
word_set words n m e = ap (λ ws. set ws 0 m) e

-- `start`
pub starts : Rule (0 ∷ []) (keeper [] ∷ [])
starts = (0, refl, record { keeper = keeper []; seat = 0; at = refl; keeps = refl; one = λ by u e k. only by u e; number = refl; fits = λ by u e. fits by u e })
  where
    only : (by : ℕ) (u : View) → IsViewAt (keeper [] ∷ []) by u → by ≡ 0
    only zero u e = refl
    only (suc by) u e = absurd (some-ne-none u (sym e))

    fits : (by : ℕ) (u : View) → IsViewAt (keeper [] ∷ []) by u → Fits [] u
    fits zero u e = subst (Fits []) (some-injective _ _ e) (record { seen = ([], refl); olds = none_begin []; within = λ p h. absurd (no_place p h); spent = λ h. absurd (true≢false h) })
    fits (suc by) u e = absurd (some-ne-none u (sym e))

-- `append`
pub appends : (slots id : ℕ) (v : View) (c : List (ℕ × ℕ)) (entry : List ℤ) → v.keeps ≡ true → v.place ≡ None → length v.list < 2 ^ 32 → Allows holds slots id (v, c) 0 (λ n. (n + 1) % 2 ^ 64) (Appended entry (v, c))
appends slots id v c entry keeps plain small s h homes at fits =
    let o = owned h.0 s.views id v h.2 at keeps in
    let f = o.fits id v at in
    let found = word_of s.words h.0 h.1 ∙ o.number in
    let w : View = view v.keeps (v.list ++ entry ∷ []) v.olds v.place in
    let next : (slice_index s.words 0 + 1) % 2 ^ 64 ≡ length w.list = omega (arith, length-append v.list (entry ∷ []), found) in (
      w,
      stays,
      tt,
      (
        (slice_index s.words 0 + 1) % 2 ^ 64,
        word_set s.words h.0 ((slice_index s.words 0 + 1) % 2 ^ 64) h.1,
        keeper_changes h.0 ((slice_index s.words 0 + 1) % 2 ^ 64) s.views id v w at o keeps next (λ u g. record { seen = prefix_push u.list v.list (entry ∷ []) g.seen; olds = begin_push u.olds v.list (entry ∷ []) g.olds; within = g.within; spent = g.spent }) (record {
          seen = prefix_self w.list;
          olds = begin_push v.olds v.list (entry ∷ []) f.olds;
          within = λ p e. absurd (no_place p (sym plain ∙ e));
          spent = λ e. absurd (true≢false (sym keeps ∙ e));
        }),
      ),
      (found, refl, refl),
    )

-- `look`
pub looks : (slots id : ℕ) (v : View) (c : List (ℕ × ℕ)) → v.keeps ≡ true → Allows holds slots id (v, c) 0 (λ n. n) (Looked (v, c))
looks slots id v c keeps s h homes at fits =
    let o = owned h.0 s.views id v h.2 at keeps in
    let f = o.fits id v at in
    let found = word_of s.words h.0 h.1 ∙ o.number in
    let w : View = view v.keeps v.list [] v.place in (
      w,
      stays,
      tt,
      (
        slice_index s.words 0,
        word_set s.words h.0 (slice_index s.words 0) h.1,
        keeper_changes h.0 (slice_index s.words 0) s.views id v w at o keeps found (λ u g. g) (record { seen = f.seen; olds = none_begin v.list; within = f.within; spent = λ e. absurd (true≢false (sym keeps ∙ e)) }),
      ),
      (found, f.olds, refl, refl),
    )

-- `split`, into a view that fits
forks : (id : ℕ) (v r : View) → r.keeps ≡ false → ((all : List (List ℤ)) → Fits all v → Fits all r) → Splits holds id v v r
forks id v r plain fits s h at =
    let log = h.2 in
    let again : set s.views id v ≡ s.views = set_again s.views id v at in
    let before : (j : ℕ) (u : View) → IsViewAt (set s.views id v ++ r ∷ []) j u → IsViewAt s.views j u ⊎ (r ≡ u) = λ j u e. at_snoc s.views r u j (subst (λ l. IsViewAt (l ++ r ∷ []) j u) again e) in (
      h.0,
      h.1,
      record {
        keeper = log.keeper;
        seat = log.seat;
        at = subst (λ l. IsViewAt (l ++ r ∷ []) log.seat log.keeper) (sym again) (snoc_left s.views log.seat r log.keeper log.at);
        keeps = log.keeps;
        one = λ by u e k. ⊎_elim (λ (was : IsViewAt s.views by u). log.one by u was k) (λ (same : r ≡ u). absurd (off (sym plain ∙ ap (λ (x : View). x.keeps) same ∙ k))) (before by u e);
        number = log.number;
        fits = λ by u e. ⊎_elim (λ (was : IsViewAt s.views by u). log.fits by u was) (λ (same : r ≡ u). subst (Fits log.keeper.list) same (fits log.keeper.list (log.fits id v at))) (before by u e);
      },
    )

pub notes : (id place : ℕ) (v : View) → place < length v.list → Splits holds id v v (receipt place v.list)
notes id place v within = forks id v (receipt place v.list) refl (λ all f. record { seen = f.seen; olds = none_begin all; within = λ p e. subst (λ q. q < length v.list) (same p e) within; spent = λ _ e. absurd (a_place place e) })
  where
    same : (p : ℕ) → Some place ≡ Some p → place ≡ p
    same p e = cc

pub copies : (id : ℕ) (v : View) → v.keeps ≡ false → Splits holds id v v v
copies id v plain = forks id v v plain (λ all f. f)

-- `join`
pub takes_in : (id : ℕ) (v : View) (other : ℕ) (u : View) → v.keeps ≡ true → u.keeps ≡ false → Joins holds id v other u (took v u) spent
takes_in id v other u keeps plain s h at apart at' =
    let o = owned h.0 s.views id v h.2 at keeps in
    let f = o.fits id v at in
    let both : View = took v u in
    let was : IsViewAt s.views other u = ⊎_elim (λ (x : (other ≡ id) × (both ≡ u)). absurd (apart x.0)) (λ (x : (other ≢ id) × IsViewAt s.views other u). x.1) (at_set s.views id other both u at') in
    let g = o.fits other u was in
    let mine : Fits v.list both = record { seen = f.seen; olds = begin_more u.list v.olds v.list g.seen f.olds; within = f.within; spent = λ e. absurd (true≢false (sym keeps ∙ e)) } in (
      h.0,
      h.1,
      record {
        keeper = both;
        seat = id;
        at = set_else (set s.views id both) other id spent both (λ e. apart (sym e)) (set_here s.views id v both at);
        keeps = keeps;
        one = λ by x e k. ⊎_elim (λ (y : (by ≡ other) × (spent ≡ x)). absurd (off (ap (λ (z : View). z.keeps) y.1 ∙ k))) (λ (y : (by ≢ other) × IsViewAt (set s.views id both) by x). one_set h.0 s.views id v both o by x y.1 k) (at_set (set s.views id both) other by spent x e);
        number = o.number;
        fits = fits_set v.list (set s.views id both) other spent (fits_set v.list s.views id both o.fits mine) (spent_fits v.list);
      },
    )

-- what `meet` is told
pub met : (v u : View) (k w : Me ℕ View) (found : ℕ) (c : List (ℕ × ℕ)) → k ≡ (took v u, c) → Looked k found w → IsPrefix u.list v.list
met v u k w found c is told = subst (λ (x : Me ℕ View). ArePrefixes x.0.olds x.0.list) is told.1 0 u.list refl
