-- Each kind of step keeps the rule.
use Rattle.std.proofs.Common.{◌≡◌, ◌≢◌, ◌⊎◌, ℕ, zero, suc, ◌+◌, ◌-◌, ◌*◌, ◌%◌, ◌^◌, ◌<◌, ◌≤◌, ◌==◌, ◌&&◌, ◌||◌, List, [], ◌∷◌, ◌++◌, length, set, Bool, true, false, true≢false, Some, None, Option, refl, sym, ap, ◌∙◌, subst, arith, ⊎_elim, inl, inr, length-append}
use Rattle.std.specs.Prelude.{slice_index}
use mathlib.Core.Option.{some}
use lib.ListN.{get_elem?}
use Rattle.atomic_table.specs.Table.{State, Act, Allows, Splits, Joins, keeps as stays, Valid, stepped, carried_after}
use Rattle.atomic_table.proofs.Lists.{at_set, set_again}
use Rattle.walls_out.specs.declared.view.View.{View}
use Rattle.walls_out.specs.declared.entry.Entry.{Entry}
use Rattle.walls_out.specs.declared.entry.Entry.TheVariants.{Root, Wall}
use Rattle.std.proofs.Math.Nat.{mul-add}
use Rattle.std.proofs.lemmas.Bool.Decides.{nat_tests}
use Rattle.walls_out.specs.Views.{fresh, raised, last_of, keeps_front, holds_last, copy_seen, lowered, saw, joined, spent, first_seat}
use Rattle.walls_out.specs.Counting.{total, one_root, one_wall, owes, has_done, has_made, is_keeper, keeps, one_some, one_if, below, Fits, Counts, Rule}
use Rattle.walls_out.specs.Told.{HasDoneAll, WasOpen, Looked, Raised, Lowered, LoweredRoot}
use Rattle.walls_out.proofs.CallerLemmas.{total-le, total-append, at-le-total, total-none}
use Rattle.walls_out.proofs.Changes.{Each, Keeps, kept, swaps_one, swaps_more, swaps_two, each_one, each_two}
use Rattle.walls_out.proofs.Owed.{total-front_last, length-front_last, length-fresh, fresh-root, fresh-wall, numbered_self, below_self, below_le, below_says, none_left}

abbrev pub holds : State ℕ View → Type 0
holds s = Rule s.words s.views

pub off : false ≡ true → ⊥
off e = true≢false (sym e)

pub apart_none : {A : Type 0} (x : A) → None ≡ Some x → ⊥
apart_none x e = absurd cc

-- a view that holds nothing
pub spent_fits : (word next : ℕ) → Fits word next spent
spent_fits word next = record {
  own = λ k i h. absurd (omega arith);
  no_root = refl;
  seen = λ e. absurd (off e);
  plain = λ _. (refl, refl);
  number = λ k e. absurd (apart_none k e);
  naming = λ n e. absurd (apart_none n e);
  few = omega arith;
}

pub owes_at_most : (word next : ℕ) (views : List View) (id : ℕ) (v : View) → Counts word next views → get_elem? views id ≡ some v → length v.owed ≤ word
owes_at_most word next views id v c at = omega (arith, c.word_is, at-le-total (λ (u : View). length u.owed) views id v at)

-- of the keeper k no other view has done an entry
pub done_alone : (word next : ℕ) (views : List View) (id : ℕ) (v : View) (k i : ℕ) → Counts word next views → get_elem? views id ≡ some v → v.keeper ≡ Some k → total (has_done k i) views ≡ has_done k i v
done_alone word next views id v k i c at e =
    let rest : List View = set views id spent in
    let s = swaps_one views id v spent at in
    let fits : Each (Fits word next) rest = s.each (Fits word next) c.each (each_one (Fits word next) spent (spent_fits word next)) in
    let no_keeper : total (is_keeper k) rest ≡ 0 = omega (arith, s.sums (is_keeper k), c.apart k, numbered_self v.keeper k e) in
    let none : total (has_done k i) rest ≡ 0 = total-none (has_done k i) rest (λ j u at'. zero_or (has_done k i u) (λ h. let o = (fits j u at').own k i h in omega (arith, numbered_self u.keeper k o, at-le-total (is_keeper k) rest j u at', no_keeper))) in
    omega (arith, s.sums (has_done k i), none)
  where
    zero_or : (n : ℕ) → (0 < n → ⊥) → n ≡ 0
    zero_or zero h = refl
    zero_or (suc n) h = absurd (h (omega arith))

-- Where the word is 0 the keeper has done all that it made
pub all_done : (next : ℕ) (views : List View) (id : ℕ) (v : View) → Counts 0 next views → get_elem? views id ≡ some v → HasDoneAll v
all_done next views id v c at k i e h =
    let no_entry : total (owes k i) views ≡ 0 = total-none (owes k i) views (λ j u at'. let r = none_left u.owed (omega (arith, owes_at_most 0 next views j u c at')) in ap (total (one_wall k i)) r) in
    omega (arith, c.walls k i, no_entry, done_alone 0 next views id v k i c at e, at-le-total (has_made k i) views id v at, below_self v.keeper v.made k i e h)

saw_keeps : (word next : ℕ) (v : View) → word ≡ 0 → Fits word next v → Keeps word word next (v ∷ []) (saw v ∷ [])
saw_keeps word next v none f = record {
  word_is = refl;
  root = omega arith;
  walls = λ k i. refl;
  apart = λ k. omega arith;
  keepers = omega arith;
  names = omega arith;
  short = omega arith;
  zero = λ h. h;
  each = each_one (Fits word next) (saw v) (record { own = f.own; no_root = f.no_root; seen = λ _. none; plain = f.plain; number = f.number; naming = f.naming; few = f.few });
}

look_at : (n next : ℕ) (views : List View) (id : ℕ) (v : View) (c : List (ℕ × ℕ)) → Counts n next views → get_elem? views id ≡ some v → (w : View) × Counts n next (set views id w) × Looked (v, c) n (w, c)
look_at zero next views id v c k at = (
  saw v,
  kept 0 0 next views (set views id (saw v)) (v ∷ []) (saw v ∷ []) (swaps_one views id v (saw v) at) (saw_keeps 0 next v refl (k.each id v at)) k,
  ((λ _. (refl, none_left v.owed (omega (arith, owes_at_most 0 next views id v k at)), all_done next views id v k at)), (λ ne. absurd (ne refl)), (λ _. refl), refl),
)
look_at (suc n) next views id v c k at =
    (v, subst (Counts (suc n) next) (sym (set_again views id v at)) k, ((λ e. absurd (omega arith)), (λ _. refl), (λ s. (k.each id v at).seen s), refl))

-- what the one word holds
word_of : (words : List ℕ) (word : ℕ) → words ≡ word ∷ [] → slice_index words 0 ≡ word
word_of words word e = ap (λ ws. slice_index ws 0) e

word_set : (words : List ℕ) (word n : ℕ) → words ≡ word ∷ [] → set words 0 n ≡ n ∷ []
word_set words word n e = ap (λ ws. set ws 0 n) e

pub looks : (slots id : ℕ) (v : View) (c : List (ℕ × ℕ)) → Allows holds slots id (v, c) 0 (λ n. n) (Looked (v, c))
looks slots id v c s h homes at fits =
    let found = word_of s.words h.0 h.2 in
    let r = look_at h.0 h.1 s.views id v c h.3 at in
    (r.0, stays, tt, (h.0, h.1, word_set s.words h.0 (slice_index s.words 0) h.2 ∙ ap (λ n. n ∷ []) found, r.1), subst (λ n. Looked (v, c) n (r.0, c)) (sym found) r.2)

-- `raise`: there is room in the word, by the number of keepers and what each may have made
made_bound : (most : ℕ) (views : List View) → Each (λ v. v.made ≤ most * keeps v) views → total (λ v. v.made) views ≤ most * total keeps views
made_bound most [] h = omega arith
made_bound most (v ∷ vs) h = let here = h 0 v refl in let more = made_bound most vs (λ i u e. h (suc i) u e) in omega (arith, mul-add most (keeps v) (total keeps vs))

made_by : (o : Option ℕ) (made most : ℕ) → made ≤ most → (o ≡ None → made ≡ 0) → made ≤ most * one_some o
made_by None made most le none = omega (arith, none refl)
made_by (Some b) made most le none = omega arith

pub room : (word next : ℕ) (views : List View) → Counts word next views → word ≤ 2 ^ 61 + 1
room word next views c =
    let made = made_bound (2 ^ 55) views (λ by v at. let f = c.each by v at in made_by v.keeper v.made (2 ^ 55) f.few (λ e. (f.plain e).0)) in
    omega (arith, made, c.short, c.keepers, c.most)

raised_keeps : (word next k b : ℕ) (v : View) → v.keeper ≡ Some b → 0 < word → v.made + k ≤ 2 ^ 55 → Fits word next v → Keeps word (word + k) next (v ∷ []) (raised k v ∷ [])
raised_keeps word next k b v e not_zero few f =
    let size : length (fresh v.keeper v.made k) ≡ k = ap (λ o. length (fresh o v.made k)) e ∙ length-fresh b v.made k in record {
      word_is = omega (arith, length-append v.owed (fresh v.keeper v.made k), size);
      root = omega (arith, total-append one_root v.owed (fresh v.keeper v.made k), fresh-root v.keeper v.made k);
      walls = λ n i. omega (arith, total-append (one_wall n i) v.owed (fresh v.keeper v.made k), fresh_by v.keeper b v.made k n i e);
      apart = λ n. omega arith;
      keepers = omega arith;
      names = omega arith;
      short = omega arith;
      zero = λ h. absurd (omega arith);
      each = each_one (Fits (word + k) next) (raised k v) (record { own = f.own; no_root = f.no_root; seen = λ h. absurd (omega (arith, f.seen h)); plain = λ h. absurd (apart_none b (sym h ∙ e)); number = f.number; naming = f.naming; few = few });
    }
  where
    fresh_by : (o : Option ℕ) (b m k n i : ℕ) → o ≡ Some b → total (one_wall n i) (fresh o m k) + below o m n i ≡ below o (m + k) n i
    fresh_by o b m k n i e = subst (λ (o : Option ℕ). total (one_wall n i) (fresh o m k) + below o m n i ≡ below o (m + k) n i) (sym e) (fresh-wall b m k n i)

pub raises : (slots id k b : ℕ) (v : View) (c : List (ℕ × ℕ)) → v.keeper ≡ Some b → 0 < length v.owed → v.made + k ≤ 2 ^ 55 → Allows holds slots id (v, c) 0 (λ n. (n + k) % 2 ^ 64) (λ n. Raised k (v, c))
raises slots id k b v c e owes few s h homes at fits =
    let found = word_of s.words h.0 h.2 in
    let least = owes_at_most h.0 h.1 s.views id v h.3 at in
    let sum : (slice_index s.words 0 + k) % 2 ^ 64 ≡ h.0 + k = omega (arith, room h.0 h.1 s.views h.3) in
    let w = raised k v in (
      w,
      stays,
      tt,
      (
        h.0 + k,
        h.1,
        word_set s.words h.0 ((slice_index s.words 0 + k) % 2 ^ 64) h.2 ∙ ap (λ n. n ∷ []) sum,
        kept h.0 (h.0 + k) h.1 s.views (set s.views id w) (v ∷ []) (w ∷ []) (swaps_one s.views id v w at) (raised_keeps h.0 h.1 k b v e (omega arith) few (h.3.each id v at)) h.3,
      ),
      (refl, refl),
    )

-- `lower`
single : (b n k i : ℕ) → 0 < one_if ((b == k) && (n == i)) → b ≡ k
single b n k i h = grind (arith, nat_tests)

own_after : (done last : List Entry) (o : Option ℕ) (b i k n : ℕ) → last ≡ Wall b i ∷ [] → o ≡ Some b → (0 < total (one_wall k n) done → o ≡ Some k) → 0 < total (one_wall k n) (done ++ last) → (m : ℕ) → total (one_wall k n) done ≡ m → o ≡ Some k
own_after done last o b i k n is e was h zero none = e ∙ ap Some (single b i k n (omega (arith, total-append (one_wall k n) done last, ap (total (one_wall k n)) is)))
own_after done last o b i k n is e was h (suc m) by = was (omega arith)

lowered_keeps : (word next b i : ℕ) (v : View) → v.keeper ≡ Some b → last_of v.owed ≡ Wall b i ∷ [] → Fits (suc word) next v → Keeps (suc word) word next (v ∷ []) (lowered v ∷ [])
lowered_keeps word next b i v e last f =
    let size : length (last_of v.owed) ≡ 1 = ap length last in record {
      word_is = omega (arith, length-front_last v.owed, size);
      root = omega (arith, total-front_last one_root v.owed);
      walls = λ k n. omega (arith, total-front_last (one_wall k n) v.owed, total-append (one_wall k n) v.done (last_of v.owed));
      apart = λ k. omega arith;
      keepers = omega arith;
      names = omega arith;
      short = omega (arith, length-append v.done (last_of v.owed), size);
      zero = λ h. absurd (omega arith);
      each = each_one (Fits word next) (lowered v) (record {
        own = λ k n h. own_after v.done (last_of v.owed) v.keeper b i k n last e (f.own k n) h (has_done k n v) refl;
        no_root = omega (arith, total-append one_root v.done (last_of v.owed), f.no_root, ap (total one_root) last);
        seen = λ h. absurd (omega (arith, f.seen h));
        plain = λ h. absurd (apart_none b (sym h ∙ e));
        number = f.number;
        naming = f.naming;
        few = f.few;
      });
    }

-- of the keeper k no other view has made an entry
made_alone : (word next : ℕ) (views : List View) (id : ℕ) (v : View) (k i : ℕ) → Counts word next views → get_elem? views id ≡ some v → v.keeper ≡ Some k → total (has_made k i) views ≡ has_made k i v
made_alone word next views id v k i c at e =
    let rest : List View = set views id spent in
    let s = swaps_one views id v spent at in
    let no_keeper : total (is_keeper k) rest ≡ 0 = omega (arith, s.sums (is_keeper k), c.apart k, numbered_self v.keeper k e) in
    let none : total (has_made k i) rest ≤ total (is_keeper k) rest = total-le (has_made k i) (is_keeper k) rest (λ j u at'. below_le u.keeper u.made k i) in
    omega (arith, s.sums (has_made k i), none, no_keeper)

was_open : (word next : ℕ) (views : List View) (id : ℕ) (v : View) → Counts word next views → get_elem? views id ≡ some v → WasOpen v
was_open word next views id v c at k i e last =
    let here : 0 < owes k i v = omega (arith, total-front_last (one_wall k i) v.owed, ap (total (one_wall k i)) last, self_wall k i) in
    let made = made_alone word next views id v k i c at e in
    let done = done_alone word next views id v k i c at e in
    let owed = at-le-total (owes k i) views id v at in
    let one : has_made k i v ≤ 1 = omega (arith, below_le v.keeper v.made k i, at-le-total (is_keeper k) views id v at, c.apart k) in
    (below_says v.keeper v.made k i e (omega (arith, c.walls k i)), omega (arith, c.walls k i))
  where
    self_wall : (k i : ℕ) → one_if ((k == k) && (i == i)) ≡ 1
    self_wall k i = grind (arith, nat_tests)

pub lowers : (slots id b i : ℕ) (v : View) (c : List (ℕ × ℕ)) → v.keeper ≡ Some b → last_of v.owed ≡ Wall b i ∷ [] → Allows holds slots id (v, c) 0 (λ n. (n + (2 ^ 64 - 1)) % 2 ^ 64) (λ n. Lowered (v, c))
lowers slots id b i v c e last s h homes at fits = lower_at h.0 refl
  where
    lower_at : (word : ℕ) → h.0 ≡ word → (w : View) × (a : Act ℕ) × Valid s.homes c a × holds (stepped s 0 ((slice_index s.words 0 + (2 ^ 64 - 1)) % 2 ^ 64) id c w a) × Lowered (v, c) (w, carried_after c a)
    lower_at zero is = absurd (omega (arith, owes_at_most h.0 h.1 s.views id v h.3 at, length-front_last v.owed, ap length last))
    lower_at (suc word) is =
        let found = word_of s.words h.0 h.2 in
        let less : (slice_index s.words 0 + (2 ^ 64 - 1)) % 2 ^ 64 ≡ word = omega arith in
        let w = lowered v in
        let k : Counts (suc word) h.1 s.views = subst (λ (n : ℕ). Counts n h.1 s.views) is h.3 in (
          w,
          stays,
          tt,
          (
            word,
            h.1,
            word_set s.words h.0 ((slice_index s.words 0 + (2 ^ 64 - 1)) % 2 ^ 64) h.2 ∙ ap (λ n. n ∷ []) less,
            kept (suc word) word h.1 s.views (set s.views id w) (v ∷ []) (w ∷ []) (swaps_one s.views id v w at) (lowered_keeps word h.1 b i v e last (k.each id v at)) k,
          ),
          (refl, refl, was_open h.0 h.1 s.views id v h.3 at),
        )

-- `split`
moved_keeps : (word next : ℕ) (v : View) → Fits word next v → Keeps word word next (v ∷ []) (keeps_front v ∷ holds_last v ∷ [])
moved_keeps word next v f = record {
  word_is = omega (arith, length-front_last v.owed);
  root = omega (arith, total-front_last one_root v.owed);
  walls = λ k n. omega (arith, total-front_last (one_wall k n) v.owed);
  apart = λ k. omega arith;
  keepers = omega arith;
  names = omega arith;
  short = omega arith;
  zero = λ h. h;
  each = each_two (Fits word next) (keeps_front v) (holds_last v)
      (record { own = f.own; no_root = f.no_root; seen = f.seen; plain = f.plain; number = f.number; naming = f.naming; few = f.few })
      (record { own = λ k i h. absurd (omega arith); no_root = refl; seen = λ e. absurd (off e); plain = λ _. (refl, refl); number = λ k e. absurd (apart_none k e); naming = λ n e. absurd (apart_none n e); few = omega arith });
}

pub moves : (id : ℕ) (v : View) → Splits holds id v (keeps_front v) (holds_last v)
moves id v s h at = (h.0, h.1, h.2, kept h.0 h.0 h.1 s.views (set s.views id (keeps_front v) ++ holds_last v ∷ []) (v ∷ []) (keeps_front v ∷ holds_last v ∷ []) (swaps_more s.views id v (keeps_front v) (holds_last v) at) (moved_keeps h.0 h.1 v (h.3.each id v at)) h.3)

copied_keeps : (word next : ℕ) (v : View) → Fits word next v → Keeps word word next (v ∷ []) (v ∷ copy_seen v ∷ [])
copied_keeps word next v f = record {
  word_is = omega arith;
  root = omega arith;
  walls = λ k n. omega arith;
  apart = λ k. omega arith;
  keepers = omega arith;
  names = omega arith;
  short = omega arith;
  zero = λ h. h;
  each = each_two (Fits word next) v (copy_seen v) f
      (record { own = λ k i h. absurd (omega arith); no_root = refl; seen = f.seen; plain = λ _. (refl, refl); number = λ k e. absurd (apart_none k e); naming = λ n e. absurd (apart_none n e); few = omega arith });
}

pub copies : (id : ℕ) (v : View) → Splits holds id v v (copy_seen v)
copies id v s h at = (h.0, h.1, h.2, kept h.0 h.0 h.1 s.views (set s.views id v ++ copy_seen v ∷ []) (v ∷ []) (v ∷ copy_seen v ∷ []) (swaps_more s.views id v v (copy_seen v) at) (copied_keeps h.0 h.1 v (h.3.each id v at)) h.3)

-- `join`
or_cases : (a b : Bool) → (a || b) ≡ true → (a ≡ true) ⊎ (b ≡ true)
or_cases true b e = inl refl
or_cases false b e = inr e

joined_keeps : (word next : ℕ) (v u : View) → u.keeper ≡ None → Fits word next v → Fits word next u → Keeps word word next (v ∷ u ∷ []) (joined v u ∷ spent ∷ [])
joined_keeps word next v u plain f g = let nothing = g.plain plain in record {
  word_is = omega (arith, length-append v.owed u.owed);
  root = omega (arith, total-append one_root v.owed u.owed);
  walls = λ k n. omega (arith, total-append (one_wall k n) v.owed u.owed, ap (total (one_wall k n)) nothing.1, ap (λ o. below o u.made k n) plain);
  apart = λ k. omega arith;
  keepers = omega arith;
  names = omega arith;
  short = omega (arith, nothing.0);
  zero = λ h. h;
  each = each_two (Fits word next) (joined v u) spent
      (record { own = f.own; no_root = f.no_root; seen = λ e. ⊎_elim f.seen g.seen (or_cases v.seen u.seen e); plain = f.plain; number = f.number; naming = f.naming; few = f.few })
      (spent_fits word next);
}

pub joins : (id : ℕ) (v : View) (other : ℕ) (u : View) → u.keeper ≡ None → Joins holds id v other u (joined v u) spent
joins id v other u plain s h at apart at' =
    let was : get_elem? s.views other ≡ some u = ⊎_elim (λ (x : (other ≡ id) × (joined v u ≡ u)). absurd (apart x.0)) (λ (x : (other ≢ id) × (get_elem? s.views other ≡ some u)). x.1) (at_set s.views id other (joined v u) u at') in
    (h.0, h.1, h.2, kept h.0 h.0 h.1 s.views (set (set s.views id (joined v u)) other spent) (v ∷ u ∷ []) (joined v u ∷ spent ∷ []) (swaps_two s.views id other v u (joined v u) spent at at') (joined_keeps h.0 h.1 v u plain (h.3.each id v at) (h.3.each other u was)) h.3)

-- `start`
pub starts : Rule (1 ∷ []) (first_seat 0 ∷ [])
starts = (
  1,
  0,
  refl,
  record {
    word_is = refl;
    root = omega arith;
    walls = λ k i. refl;
    apart = λ k. omega arith;
    short = omega arith;
    keepers = omega arith;
    most = omega arith;
    one_names = omega arith;
    each = each_one (Fits 1 0) (first_seat 0) (record { own = λ k i h. absurd (omega arith); no_root = refl; seen = λ e. absurd (off e); plain = λ _. (refl, refl); number = λ k e. absurd (apart_none k e); naming = λ n e. sym (some_is n e); few = omega arith });
  },
)
  where
    some_is : (n : ℕ) → Some 0 ≡ Some n → 0 ≡ n
    some_is n e = cc

-- `lower_root`
root_keeps : (word next : ℕ) (v : View) → last_of v.owed ≡ Root ∷ [] → Fits (suc word) next v → Keeps (suc word) word next (v ∷ []) (keeps_front v ∷ [])
root_keeps word next v last f = record {
  word_is = omega (arith, length-front_last v.owed, ap length last);
  root = omega (arith, total-front_last one_root v.owed);
  walls = λ k n. omega (arith, total-front_last (one_wall k n) v.owed, ap (total (one_wall k n)) last);
  apart = λ k. omega arith;
  keepers = omega arith;
  names = omega arith;
  short = omega arith;
  zero = λ h. absurd (omega arith);
  each = each_one (Fits word next) (keeps_front v) (record { own = f.own; no_root = f.no_root; seen = λ h. absurd (omega (arith, f.seen h)); plain = f.plain; number = f.number; naming = f.naming; few = f.few });
}

pub lowers_root : (slots id : ℕ) (v : View) (c : List (ℕ × ℕ)) → last_of v.owed ≡ Root ∷ [] → Allows holds slots id (v, c) 0 (λ n. (n + (2 ^ 64 - 1)) % 2 ^ 64) (λ n. LoweredRoot (v, c))
lowers_root slots id v c last s h homes at fits = lower_at h.0 refl
  where
    lower_at : (word : ℕ) → h.0 ≡ word → (w : View) × (a : Act ℕ) × Valid s.homes c a × holds (stepped s 0 ((slice_index s.words 0 + (2 ^ 64 - 1)) % 2 ^ 64) id c w a) × LoweredRoot (v, c) (w, carried_after c a)
    lower_at zero is = absurd (omega (arith, owes_at_most h.0 h.1 s.views id v h.3 at, length-front_last v.owed, ap length last))
    lower_at (suc word) is =
        let found = word_of s.words h.0 h.2 in
        let less : (slice_index s.words 0 + (2 ^ 64 - 1)) % 2 ^ 64 ≡ word = omega arith in
        let w = keeps_front v in
        let k : Counts (suc word) h.1 s.views = subst (λ (n : ℕ). Counts n h.1 s.views) is h.3 in (
          w,
          stays,
          tt,
          (
            word,
            h.1,
            word_set s.words h.0 ((slice_index s.words 0 + (2 ^ 64 - 1)) % 2 ^ 64) h.2 ∙ ap (λ n. n ∷ []) less,
            kept (suc word) word h.1 s.views (set s.views id w) (v ∷ []) (w ∷ []) (swaps_one s.views id v w at) (root_keeps word h.1 v last (k.each id v at)) k,
          ),
          (refl, refl),
        )

-- `certify`
pub joined_copy : (v u : View) → u.seen ≡ true → (joined v (copy_seen u)).seen ≡ true
joined_copy v u e = ap (λ b. v.seen || b) e ∙ or_true v.seen
  where
    or_true : (a : Bool) → (a || true) ≡ true
    or_true true = refl
    or_true false = refl

pub joined_owes : (v u : View) → (joined v (copy_seen u)).owed ≡ [] → v.owed ≡ []
joined_owes v u e = none_left v.owed (omega (arith, length-append v.owed [], ap length e))
