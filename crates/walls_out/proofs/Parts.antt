-- The parts of the rule, from its counts.
use Rattle.std.proofs.Common.{◌≡◌, ◌≢◌, ◌⊎◌, ℕ, zero, suc, ◌+◌, ◌<◌, ◌≤◌, ◌==◌, ◌&&◌, List, [], ◌∷◌, Some, None, Option, refl, sym, ap, ◌∙◌, subst, arith, inl, inr, ltb}
use Rattle.std.proofs.lemmas.Bool.Decides.{nat_tests}
use mathlib.Core.Option.{some-ne-none, some-injective}
use mathlib.Core.Logic.{dite}
use native.Mathlib.Decide.{ℕ_discrete}
use lib.ListN.{get_elem?}
use Rattle.walls_out.specs.declared.entry.Entry.{Entry}
use Rattle.walls_out.specs.declared.entry.Entry.TheVariants.{Root, Wall}
use Rattle.walls_out.specs.declared.view.View.{View}
use Rattle.walls_out.specs.Counting.{total, one_if, numbered, below, one_some, has_done, has_made, is_keeper, names, Counts}
use Rattle.walls_out.specs.Rule.{times_owed, IsAt, IsCounting}
use Rattle.walls_out.proofs.CallerLemmas.{at-le-total, total-le, some-in-total}
use Rattle.walls_out.proofs.Owed.{numbered_self, below_self}
use Rattle.walls_out.proofs.Steps.{done_alone}

two_at : (f : View → ℕ) (views : List View) (i j : ℕ) (v w : View) → i ≢ j → IsAt views i v → IsAt views j w → f v + f w ≤ total f views
two_at f [] i j v w ne e e' = absurd (some-ne-none v (sym e))
two_at f (x ∷ xs) zero zero v w ne e e' = absurd (ne refl)
two_at f (x ∷ xs) zero (suc j) v w ne e e' = omega (arith, ap f (some-injective x v e), at-le-total f xs j w e')
two_at f (x ∷ xs) (suc i) zero v w ne e e' = omega (arith, ap f (some-injective x w e'), at-le-total f xs i v e)
two_at f (x ∷ xs) (suc i) (suc j) v w ne e e' = omega (arith, two_at f xs i j v w (λ h. ne (ap suc h)) e e')

-- two places whose terms add up to more than the sum are one
same_place : (f : View → ℕ) (views : List View) (i j : ℕ) (v w : View) → IsAt views i v → IsAt views j w → total f views ≤ 1 → f v ≡ 1 → f w ≡ 1 → i ≡ j
same_place f views i j v w e e' most one one' = dite (ℕ_discrete i j) (λ h. h) (λ ne. absurd (omega (arith, two_at f views i j v w ne e e')))

test_le : (b k i m : ℕ) → one_if ((b == k) && ltb i m) ≤ one_if (b == k)
test_le b k i m = grind (arith, nat_tests)

made_le : (o : Option ℕ) (m k i : ℕ) → below o m k i ≤ numbered o k
made_le None m k i = omega arith
made_le (Some b) m k i = test_le b k i m

test_says : (b k i m : ℕ) → 0 < one_if ((b == k) && ltb i m) → (b ≡ k) × (i < m)
test_says b k i m h = grind (arith, nat_tests)

made_says : (o : Option ℕ) (m k i : ℕ) → 0 < below o m k i → (o ≡ Some k) × (i < m)
made_says None m k i h = absurd (omega arith)
made_says (Some b) m k i h = let r = test_says b k i m h in (ap Some r.0, r.1)

named_one : (o : Option ℕ) (n : ℕ) → o ≡ Some n → one_some o ≡ 1
named_one o n e = ap one_some e

module _ (word next : ℕ) (views : List View) (c : Counts word next views) where
  made_once : (k i : ℕ) → total (has_made k i) views ≤ 1
  made_once k i = omega (arith, total-le (has_made k i) (is_keeper k) views (λ j u at. made_le u.keeper u.made k i), c.apart k)

  owed_once : (e : Entry) → times_owed e views ≤ 1
  owed_once Root = c.root
  owed_once (Wall k i) = omega (arith, c.walls k i, made_once k i)

  owed_by : (k i : ℕ) → 0 < times_owed (Wall k i) views → (by : ℕ) × (v : View) × IsAt views by v × (v.keeper ≡ Some k) × (i < v.made) × (has_done k i v ≡ 0)
  owed_by k i h =
      let r = some-in-total (has_made k i) views (omega (arith, c.walls k i)) in
      let says = made_says (r.1).keeper (r.1).made k i r.3 in
      (r.0, r.1, r.2, says.0, says.1, omega (arith, c.walls k i, made_once k i, at-le-total (has_done k i) views r.0 r.1 r.2))

  keepers_apart : (by at : ℕ) (v w : View) (k : ℕ) → IsAt views by v → IsAt views at w → v.keeper ≡ Some k → w.keeper ≡ Some k → by ≡ at
  keepers_apart by at v w k e e' h h' = same_place (is_keeper k) views by at v w e e' (c.apart k) (numbered_self v.keeper k h) (numbered_self w.keeper k h')

  done_by : (by : ℕ) (v : View) (k i : ℕ) → IsAt views by v → 0 < has_done k i v → (v.keeper ≡ Some k) × (i < v.made) × (has_done k i v ≡ 1)
  done_by by v k i e h =
      let own = (c.each by v e).own k i h in
      let le = at-le-total (has_done k i) views by v e in
      let r = some-in-total (has_made k i) views (omega (arith, c.walls k i)) in
      let says = made_says (r.1).keeper (r.1).made k i r.3 in
      let here = keepers_apart r.0 by r.1 v k r.2 e says.0 own in
      let same : r.1 ≡ v = some-injective r.1 v (sym r.2 ∙ ap (get_elem? views) here ∙ e) in
      (own, subst (λ (u : View). i < u.made) same says.1, omega (arith, c.walls k i, made_once k i))

  made_by : (by : ℕ) (v : View) (k i : ℕ) → IsAt views by v → v.keeper ≡ Some k → i < v.made → (0 < has_done k i v) ⊎ (0 < times_owed (Wall k i) views)
  made_by by v k i e own h = either (has_done k i v) (omega (arith, c.walls k i, done_alone word next views by v k i c e own, at-le-total (has_made k i) views by v e, below_self v.keeper v.made k i own h))
    where
      either : (n : ℕ) → 0 < n + times_owed (Wall k i) views → (0 < n) ⊎ (0 < times_owed (Wall k i) views)
      either zero h = inr (omega arith)
      either (suc n) h = inl (omega arith)

  pub counted : IsCounting word views
  counted = record {
    once = owed_once;
    number = c.word_is;
    owed = owed_by;
    done = done_by;
    done_walls = λ by v e. (c.each by v e).no_root;
    made = made_by;
    seen = λ by v e. (c.each by v e).seen;
    plain = λ by v e. (c.each by v e).plain;
    apart = keepers_apart;
    names = λ by at v w m n e e' h h'. same_place names views by at v w e e' c.one_names (named_one v.naming m h) (named_one w.naming n h');
    below = λ by at v w k n e e' h h'. let a = (c.each by v e).number k h in let b = (c.each at w e').naming n h' in omega arith;
    most = λ by v n e h. let b = (c.each by v e).naming n h in omega (arith, c.most);
    numbers = λ by v k e h. let a = (c.each by v e).number k h in omega (arith, c.most);
    few = λ by v e. (c.each by v e).few;
  }
