-- A step takes some views out and puts others in. What it owes is about these alone.
use Rattle.std.proofs.Common.{◌≡◌, ◌≢◌, ℕ, zero, suc, ◌+◌, ◌≤◌, List, [], ◌∷◌, ◌++◌, length, set, refl, sym, arith, subst, ⊎_elim}
use mathlib.Core.Option.{some, some-ne-none, some-injective}
use lib.ListN.{get_elem?}
use Rattle.atomic_table.proofs.Lists.{at_set, at_snoc}
use Rattle.walls_out.specs.declared.view.View.{View}
use Rattle.walls_out.specs.Counting.{total, owes, owes_root, has_done, has_made, is_keeper, keeps, names, Fits, Counts}
use Rattle.walls_out.proofs.CallerLemmas.{total-append, total-set}

-- what holds of each view
abbrev pub Each : (View → Type 0) → List View → Type 0
Each P views = (by : ℕ) (v : View) → get_elem? views by ≡ some v → P v

-- in place of the views in olds there are those in news
pub record Swaps (views after olds news : List View) : Type 1 where
  pub sums : (f : View → ℕ) → total f after + total f olds ≡ total f views + total f news
  pub each : (P : View → Type 0) → Each P views → Each P news → Each P after

one_each : (P : View → Type 0) (xs : List View) (x : View) → Each P (x ∷ xs) → P x
one_each P xs x h = h 0 x refl

each_set : (P : View → Type 0) (views : List View) (by : ℕ) (w : View) → Each P views → P w → Each P (set views by w)
each_set P views by w h p j u e = ⊎_elim (λ (x : (j ≡ by) × (w ≡ u)). subst P x.1 p) (λ (x : (j ≢ by) × (get_elem? views j ≡ some u)). h j u x.1) (at_set views by j w u e)

each_snoc : (P : View → Type 0) (views : List View) (w : View) → Each P views → P w → Each P (views ++ w ∷ [])
each_snoc P views w h p j u e = ⊎_elim (λ (x : get_elem? views j ≡ some u). h j u x) (λ (x : w ≡ u). subst P x p) (at_snoc views w u j e)

-- one view
pub swaps_one : (views : List View) (by : ℕ) (v w : View) → get_elem? views by ≡ some v → Swaps views (set views by w) (v ∷ []) (w ∷ [])
swaps_one views by v w at = record {
  sums = λ f. omega (arith, total-set f views by v w at);
  each = λ P h new. each_set P views by w h (new 0 w refl);
}

-- one view, and a new one
pub swaps_more : (views : List View) (by : ℕ) (v l r : View) → get_elem? views by ≡ some v → Swaps views (set views by l ++ r ∷ []) (v ∷ []) (l ∷ r ∷ [])
swaps_more views by v l r at = record {
  sums = λ f. omega (arith, total-append f (set views by l) (r ∷ []), total-set f views by v l at);
  each = λ P h new. each_snoc P (set views by l) r (each_set P views by l h (new 0 l refl)) (new 1 r refl);
}

-- two views
pub swaps_two : (views : List View) (by other : ℕ) (v u w x : View) → get_elem? views by ≡ some v → get_elem? (set views by w) other ≡ some u → Swaps views (set (set views by w) other x) (v ∷ u ∷ []) (w ∷ x ∷ [])
swaps_two views by other v u w x at at' = record {
  sums = λ f. omega (arith, total-set f views by v w at, total-set f (set views by w) other u x at');
  each = λ P h new. each_set P (set views by w) other x (each_set P views by w h (new 0 w refl)) (new 1 x refl);
}

pub each_one : (P : View → Type 0) (w : View) → P w → Each P (w ∷ [])
each_one P w p zero u e = subst P (some-injective w u e) p
each_one P w p (suc j) u e = absurd (some-ne-none u (sym e))

pub each_two : (P : View → Type 0) (w x : View) → P w → P x → Each P (w ∷ x ∷ [])
each_two P w x p q zero u e = subst P (some-injective w u e) p
each_two P w x p q (suc zero) u e = subst P (some-injective x u e) q
each_two P w x p q (suc (suc j)) u e = absurd (some-ne-none u (sym e))

-- what a step owes that names nobody
pub record Keeps (word word' next : ℕ) (olds news : List View) : Type 0 where
  pub word_is : word' + total (λ v. length v.owed) olds ≡ word + total (λ v. length v.owed) news
  pub root : total owes_root news ≤ total owes_root olds
  pub walls : (k i : ℕ) → total (owes k i) news + total (has_done k i) news + total (has_made k i) olds ≡ total (owes k i) olds + total (has_done k i) olds + total (has_made k i) news
  pub apart : (k : ℕ) → total (is_keeper k) news ≤ total (is_keeper k) olds
  pub keepers : total keeps news ≤ total keeps olds
  pub names : total names news ≤ total names olds
  pub short : word' + total (λ v. length v.done) news + total (λ v. v.made) olds ≤ word + total (λ v. length v.done) olds + total (λ v. v.made) news
  pub zero : word ≡ 0 → word' ≡ 0
  pub each : Each (Fits word' next) news

pub kept : (word word' next : ℕ) (views after olds news : List View) → Swaps views after olds news → Keeps word word' next olds news → Counts word next views → Counts word' next after
kept word word' next views after olds news s k c = record {
  word_is = omega (arith, s.sums (λ v. length v.owed), k.word_is, c.word_is);
  root = omega (arith, s.sums owes_root, k.root, c.root);
  walls = λ n i. omega (arith, s.sums (owes n i), s.sums (has_done n i), s.sums (has_made n i), k.walls n i, c.walls n i);
  apart = λ n. omega (arith, s.sums (is_keeper n), k.apart n, c.apart n);
  short = omega (arith, s.sums (λ v. length v.done), s.sums (λ v. v.made), k.short, c.short);
  keepers = omega (arith, s.sums keeps, k.keepers, c.keepers);
  most = c.most;
  one_names = omega (arith, s.sums names, k.names, c.one_names);
  each = s.each (Fits word' next)
      (λ by v at. let f = c.each by v at in record { own = f.own; no_root = f.no_root; seen = λ e. k.zero (f.seen e); plain = f.plain; number = f.number; naming = f.naming; few = f.few })
      k.each;
}
