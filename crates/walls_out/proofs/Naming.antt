-- Naming a keeper keeps the rule.
use Rattle.std.proofs.Common.{◌≡◌, ◌≢◌, ◌⊎◌, ℕ, ◌+◌, ◌<◌, ◌≤◌, ◌==◌, List, [], ◌∷◌, ◌++◌, length, set, Bool, true, false, Some, None, Option, refl, sym, ap, ◌∙◌, subst, arith, ⊎_elim}
use mathlib.Core.Option.{some}
use lib.ListN.{get_elem?}
use Rattle.atomic_table.specs.Table.{Splits}
use Rattle.atomic_table.proofs.Lists.{at_set, at_snoc, set_else}
use Rattle.walls_out.specs.declared.view.View.{View}
use Rattle.std.proofs.lemmas.Bool.Decides.{nat_tests}
use Rattle.walls_out.specs.Views.{spent, one_up, named, new_keeper}
use Rattle.walls_out.specs.Counting.{total, owes, owes_root, has_done, has_made, is_keeper, keeps, names, one_some, numbered, one_if, below, Fits, Counts}
use Rattle.walls_out.proofs.CallerLemmas.{total-set, at-le-total, total-none}
use Rattle.walls_out.proofs.Changes.{swaps_more}
use Rattle.walls_out.proofs.Steps.{holds, off, apart_none}

numbered_else : (n k : ℕ) → (k ≡ n) ⊎ (numbered (Some n) k ≡ 0)
numbered_else n k = grind (arith, nat_tests)

numbered_less : (o : Option ℕ) (n : ℕ) → ((k : ℕ) → o ≡ Some k → k < n) → numbered o n ≡ 0
numbered_less None n h = refl
numbered_less (Some b) n h = less b n (h b refl)
  where
    less : (b n : ℕ) → b < n → one_if (b == n) ≡ 0
    less b n h = grind (arith, nat_tests)

below_none : (n k i : ℕ) → below (Some n) 0 k i ≡ 0
below_none n k i = grind (arith, nat_tests)

no_name : (o : Option ℕ) → one_some o ≡ 0 → o ≡ None
no_name None e = refl
no_name (Some n) e = absurd (omega arith)

name_one : (word next n : ℕ) (views : List View) (id : ℕ) (v : View) → Counts word next views → get_elem? views id ≡ some v → v.naming ≡ Some n → n < 64 → Counts word (n + 1) (set views id (named v) ++ new_keeper v ∷ [])
name_one word next n views id v c at is few =
    let f = c.each id v at in
    let here : n ≡ next = f.naming n is in
    let s = swaps_more views id v (named v) (new_keeper v) at in
    let made : (k i : ℕ) → below v.naming 0 k i ≡ 0 = λ k i. ap (λ o. below o 0 k i) is ∙ below_none n k i in
    let up : one_up v.naming ≡ Some (n + 1) = ap one_up is in
    let one : one_some v.naming ≡ 1 = ap one_some is in
    let one' : one_some (one_up v.naming) ≡ 1 = ap (λ o. one_some (one_up o)) is in
    let unnamed : (j : ℕ) (u : View) → j ≢ id → get_elem? views j ≡ some u → u.naming ≡ None = λ j u other e.
    no_name u.naming (omega (arith, total-set names views id v spent at, c.one_names, one, at-le-total names (set views id spent) j u (set_else views id j spent other ∙ e))) in
    let new_number : (k : ℕ) → v.naming ≡ Some k → k < n + 1 = λ k e. omega (arith, f.naming k e) in
    let others : (j : ℕ) (u : View) → j ≢ id → get_elem? views j ≡ some u → Fits word (n + 1) u = λ j u other e. let g = c.each j u e in
    record { own = g.own; no_root = g.no_root; seen = g.seen; plain = g.plain; number = λ k e'. omega (arith, g.number k e'); naming = λ m e'. absurd (apart_none m (sym (unnamed j u other e) ∙ e')); few = g.few } in
    let first : Fits word (n + 1) (named v) = record { own = f.own; no_root = f.no_root; seen = f.seen; plain = f.plain; number = λ k e. omega (arith, f.number k e); naming = λ m e. sym (same_some (n + 1) m (sym up ∙ e)); few = f.few } in
    let last : Fits word (n + 1) (new_keeper v) = record { own = λ k i h. absurd (omega arith); no_root = refl; seen = λ e. absurd (off e); plain = λ _. (refl, refl); number = new_number; naming = λ m e. absurd (apart_none m e); few = omega arith } in
    record {
      word_is = omega (arith, s.sums (λ v. length v.owed), c.word_is);
      root = omega (arith, s.sums owes_root, c.root);
      walls = λ k i. omega (arith, s.sums (owes k i), s.sums (has_done k i), s.sums (has_made k i), made k i, c.walls k i);
      apart = λ k. ⊎_elim
          (λ (e : k ≡ n). let none : total (is_keeper k) views ≡ 0 = total-none (is_keeper k) views (λ j u at'. numbered_less u.keeper k (λ b e'. let g = (c.each j u at').number b e' in omega arith)) in
          omega (arith, s.sums (is_keeper k), none, at_most_one v.naming k))
          (λ (e : numbered (Some n) k ≡ 0). omega (arith, s.sums (is_keeper k), c.apart k, ap (λ o. numbered o k) is ∙ e))
          (numbered_else n k);
      short = omega (arith, s.sums (λ v. length v.done), s.sums (λ v. v.made), c.short);
      keepers = omega (arith, s.sums keeps, c.keepers, one);
      most = omega arith;
      one_names = omega (arith, s.sums names, c.one_names, one, one');
      each = λ j u e. ⊎_elim
          (λ (e' : get_elem? (set views id (named v)) j ≡ some u). ⊎_elim (λ (x : (j ≡ id) × (named v ≡ u)). subst (Fits word (n + 1)) x.1 first) (λ (x : (j ≢ id) × (get_elem? views j ≡ some u)). others j u x.0 x.1) (at_set views id j (named v) u e'))
          (λ (e' : new_keeper v ≡ u). subst (Fits word (n + 1)) e' last)
          (at_snoc (set views id (named v)) (new_keeper v) u j e);
    }
  where
    same_some : (a b : ℕ) → Some a ≡ Some b → a ≡ b
    same_some a b e = cc

    at_most_one : (o : Option ℕ) (k : ℕ) → numbered o k ≤ 1
    at_most_one None k = omega arith
    at_most_one (Some b) k = bit (b == k)
      where
        bit : (x : Bool) → one_if x ≤ 1
        bit true = omega arith
        bit false = omega arith

pub names_one : (id n : ℕ) (v : View) → v.naming ≡ Some n → n < 64 → Splits holds id v (named v) (new_keeper v)
names_one id n v is few s h at = (h.0, n + 1, h.2, name_one h.0 h.1 n s.views id v h.3 at is few)
