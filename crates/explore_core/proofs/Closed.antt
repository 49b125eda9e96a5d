-- What a book tells: where no slot is empty its keys are exactly the reached ones, and complete schedules end in one book.
use Rattle.std.proofs.Common.{◌≡◌, ℕ, zero, suc, ◌+◌, ◌<◌, ◌≤◌, List, [], ◌∷◌, ◌++◌, length, Option, Some, true, false, refl, sym, ap, ◌∙◌, subst, arith, ⊎_elim}
use Rattle.std.specs.Prelude.{ℤ, Bool, ◌||◌, Contains}
use Rattle.std.specs.Ordering.{is_eq}
use Rattle.std.specs.declared.cmp.Ordering.{Ordering}
use Rattle.std.specs.declared.cmp.Ordering.TheVariants.{Less, Equal, Greater}
use Rattle.std.specs.Cmp.{IsTotalOrder}
use Rattle.std.proofs.lemmas.Cmp.{tied_itself}
use Rattle.std.proofs.lemmas.Option.{get_or_from_slice_get}
use Rattle.std.proofs.lemmas.List.{length-append, length-set}
use Rattle.std.specs.Coded.{Coded-set, coded_bool, coded_ℕ, coded_list, coded_ℤ, le_prop}
use mathlib.Core.Logic.{∥∥₁_elim, ∥∥₁_prop}
use Rattle.terrain.specs.Places.{IsAt}
use Rattle.terrain.specs.Reach.{LeadsTo, Path, IsReached, AreReached, AreReachedOnce}
use Rattle.terrain.specs.Reach.Path.{start, on}
use Rattle.terrain.proofs.CallerLemmas.{at_one, at_within, read, at_map, map_at}
use Rattle.explore_core.specs.declared.event.Event.{Event}
use Rattle.explore_core.specs.declared.event.Event.TheVariants.{Meet, Fill}
use Rattle.explore_core.specs.Books.{Slot, Row, HasKey, IsSound, keys_of, empty_row, out}
use Rattle.explore_core.specs.Events.{Does, Runs, with_slot}
use Rattle.explore_core.proofs.EmptySlots.{none_empty}

-- with nothing out, each slot of each row is filled
pub all_filled : {L : Type 0} (rows : List (Row L)) (i w : ℕ) (r : Row L) → out rows ≡ 0 → IsAt rows i r → w < length r.slots → (s : Slot L) × IsAt r.slots w (Some s)
all_filled [] i w r z at h = cc
all_filled (x ∷ rows) zero w r z at h = let e : x ≡ r = cc in subst (λ (y : Row _). w < length y.slots → (s : Slot _) × IsAt y.slots w (Some s)) e (none_empty x.slots w (omega arith)) h
all_filled (x ∷ rows) (suc i) w r z at h = all_filled rows i w r (omega arith) at h

-- what stands at a place is contained
pub contains_at : {A : Type 0} (xs : List A) (i : ℕ) (x : A) → IsAt xs i x → Contains xs x
contains_at xs i x at = (i, at_within xs i x at, get_or_from_slice_get xs i x x at)

pub at_contained : {A : Type 0} (xs : List A) (x : A) → Contains xs x → (i : ℕ) × IsAt xs i x
at_contained xs x c = let r = read xs c.0 c.1 in (c.0, r.1 ∙ ap Some (sym (get_or_from_slice_get xs c.0 r.0 x r.1) ∙ c.2))

-- the row of a key at its place
pub has_at_place : {L : Type 0} (rows : List (Row L)) (i : ℕ) (k : List ℤ) → IsAt (keys_of rows) i k → HasKey rows k
has_at_place rows i k at = let r = map_at (λ (x : Row _). x.key) rows i k at in record { place = i; row = r.0; at = r.1; is = r.2 }

-- the row of a contained key
pub row_of_key : {L : Type 0} (rows : List (Row L)) (k : List ℤ) → Contains (keys_of rows) k → HasKey rows k
row_of_key rows k c = let i = at_contained (keys_of rows) k c in has_at_place rows i.0 k i.1

-- the key of a row stands among the keys
pub key_at : {L : Type 0} (rows : List (Row L)) (k : List ℤ) (h : HasKey rows k) → IsAt (keys_of rows) h.place k
key_at rows k h = at_map (λ (x : Row _). x.key) rows h.place h.row h.at ∙ ap Some h.is

module _ (order : List ℤ → List ℤ → Ordering) (total : IsTotalOrder order) (exact : (x y : List ℤ) → order x y ≡ Equal → x ≡ y) where
  -- whether a key is among the keys
  abbrev has : List (List ℤ) → List ℤ → Bool
  has [] k = false
  has (x ∷ xs) k = is_eq (order x k) || has xs k

  has_at : (xs : List (List ℤ)) (i : ℕ) (k : List ℤ) → IsAt xs i k → has xs k ≡ true
  has_at [] i k at = cc
  has_at (x ∷ xs) zero k at = let e : x ≡ k = cc in subst (λ (y : List ℤ). (is_eq (order y k) || has xs k) ≡ true) (sym e) (subst (λ (o : Ordering). (is_eq o || has xs k) ≡ true) (sym (tied_itself total k)) refl)
  has_at (x ∷ xs) (suc i) k at = later (is_eq (order x k)) (has xs k) (has_at xs i k at)
    where
      later : (a b : Bool) → b ≡ true → (a || b) ≡ true
      later true b h = refl
      later false b h = h

  contains : (xs : List (List ℤ)) (k : List ℤ) → has xs k ≡ true → Contains xs k
  contains [] k h = cc
  contains (x ∷ xs) k h = first (order x k) (λ i. order x k) h (contains xs k)
    where
      first : (o : Ordering) → order x k ≡ o → (is_eq o || has xs k) ≡ true → (has xs k ≡ true → Contains xs k) → Contains (x ∷ xs) k
      first Equal e g r = (0, omega arith, exact x k e)
      first Less e g r = let c = r g in (suc c.0, (let q = c.1 in omega arith), c.2)
      first Greater e g r = let c = r g in (suc c.0, (let q = c.1 in omega arith), c.2)

  has_key : {L : Type 0} (rows : List (Row L)) (k : List ℤ) → HasKey rows k → has (keys_of rows) k ≡ true
  has_key rows k h = has_at (keys_of rows) h.place k (key_at rows k h)

  module _ {L : Type 0} (Walls : List ℤ → ℕ → Type 0) (Leads : List ℤ → ℕ → List ℤ → L → Type 0) (root : List ℤ) (rows : List (Row L)) where
    -- a book's facts, one by one, out of the fact that they hold
    pub sound_of : ((k : List ℤ) (n : ℕ) (a b : Walls k n) → a ≡ b) → ((k : List ℤ) (w : ℕ) (d : List ℤ) (g : L) (a b : Leads k w d g) → a ≡ b) → ∥ IsSound Walls Leads root rows ∥₁ → IsSound Walls Leads root rows
    sound_of walls_once leads_once sound = record {
      root_first = (let some : 0 < length (keys_of rows) = first_within in let r = read (keys_of rows) 0 some in r.1 ∙ ap Some (∥∥₁_elim sound (Coded-set (coded_list coded_ℤ) r.0 root) (λ (s : IsSound Walls Leads root rows). at_one (keys_of rows) 0 r.0 root r.1 s.root_first)));
      reached = λ i r at. ∥∥₁_elim sound ∥∥₁_prop (λ (s : IsSound Walls Leads root rows). s.reached i r at);
      once = λ i j r q at at' same. ∥∥₁_elim sound (Coded-set coded_ℕ i j) (λ (s : IsSound Walls Leads root rows). s.once i j r q at at' same);
      walls = λ i r at. ∥∥₁_elim sound (walls_once r.key (length r.slots)) (λ (s : IsSound Walls Leads root rows). s.walls i r at);
      leads = λ i w r f at full. ∥∥₁_elim sound (leads_once r.key w f.target f.link) (λ (s : IsSound Walls Leads root rows). s.leads i w r f at full);
      targets = λ i w r f at full. row_of_key rows f.target (contains (keys_of rows) f.target (∥∥₁_elim sound (Coded-set coded_bool _ _) (λ (s : IsSound Walls Leads root rows). has_key rows f.target (s.targets i w r f at full))));
    }
      where
        first_within : 0 < length (keys_of rows)
        first_within = ∥∥₁_elim sound le_prop (λ (s : IsSound Walls Leads root rows). at_within (keys_of rows) 0 root s.root_first)

    module _ (one_walls : (k : List ℤ) (n m : ℕ) → Walls k n → Walls k m → n ≡ m) (one_lead : (k : List ℤ) (w : ℕ) (d e : List ℤ) (g h : L) → Leads k w d g → Leads k w e h → (d ≡ e) × (g ≡ h)) (none : out rows ≡ 0) where
      -- where a path goes, the key is in the book
      in_book : IsSound Walls Leads root rows → {k : List ℤ} → Path (LeadsTo Walls Leads) root k → HasKey rows k
      in_book s start = has_at_place rows 0 root s.root_first
      in_book s (on {k} {d} p step) = arrive k d (in_book s p) step
        where
          arrive : (k d : List ℤ) → HasKey rows k → LeadsTo Walls Leads k d → HasKey rows d
          arrive k d from step =
              let walls = one_walls k step.walls (length from.row.slots) step.has (subst (λ (x : List ℤ). Walls x (length from.row.slots)) from.is (s.walls from.place from.row from.at)) in
              let full = all_filled rows from.place step.wall from.row none from.at (subst (λ (n : ℕ). step.wall < n) walls step.within) in
              let lead = subst (λ (x : List ℤ). Leads x step.wall full.0.target full.0.link) from.is (s.leads from.place step.wall from.row full.0 from.at full.1) in
              subst (HasKey rows) (one_lead k step.wall full.0.target d full.0.link step.link lead step.leads).0 (s.targets from.place step.wall from.row full.0 from.at full.1)

      pub closed : ∥ IsSound Walls Leads root rows ∥₁ → AreReached Walls Leads root (keys_of rows)
      closed sound k = (there, back)
        where
          there : Contains (keys_of rows) k → IsReached Walls Leads root k
          there c =
              let h = row_of_key rows k c in
              ∥∥₁_elim sound ∥∥₁_prop (λ (s : IsSound Walls Leads root rows). subst (IsReached Walls Leads root) h.is (s.reached h.place h.row h.at))

          back : IsReached Walls Leads root k → Contains (keys_of rows) k
          back reached = contains (keys_of rows) k (∥∥₁_elim sound (Coded-set coded_bool _ _) (λ (s : IsSound Walls Leads root rows). ∥∥₁_elim reached (Coded-set coded_bool _ _) (λ (p : Path (LeadsTo Walls Leads) root k). has_key rows k (in_book s p))))

pub reached_once : {L : Type 0} (Walls : List ℤ → ℕ → Type 0) (Leads : List ℤ → ℕ → List ℤ → L → Type 0) (root : List ℤ) (rows : List (Row L)) → ∥ IsSound Walls Leads root rows ∥₁ → AreReachedOnce Walls Leads root (keys_of rows)
reached_once {L} Walls Leads root rows sound = record {
  once = λ i j k at at'. let p = map_at (λ (x : Row L). x.key) rows i k at in let q = map_at (λ (x : Row L). x.key) rows j k at' in ∥∥₁_elim sound (Coded-set coded_ℕ i j) (λ (s : IsSound Walls Leads root rows). s.once i j p.0 q.0 p.1 q.1 (p.2 ∙ sym q.2));
  reached = λ i k at. let p = map_at (λ (x : Row L). x.key) rows i k at in ∥∥₁_elim sound ∥∥₁_prop (λ (s : IsSound Walls Leads root rows). subst (IsReached Walls Leads root) p.2 (s.reached i p.0 p.1));
}

-- lists of which each place holds the same are the same
same_lists : {A : Type 0} (xs ys : List A) → length xs ≡ length ys → ((i : ℕ) (x y : A) → IsAt xs i x → IsAt ys i y → x ≡ y) → xs ≡ ys
same_lists [] [] e f = refl
same_lists [] (y ∷ ys) e f = absurd (omega arith)
same_lists (x ∷ xs) [] e f = absurd (omega arith)
same_lists (x ∷ xs) (y ∷ ys) e f = let h = f 0 x y refl refl in let t = same_lists xs ys (omega arith) (λ i a b p q. f (suc i) a b p q) in cc

module _ {L : Type 0} (Walls : List ℤ → ℕ → Type 0) (Leads : List ℤ → ℕ → List ℤ → L → Type 0) (one_walls : (k : List ℤ) (n m : ℕ) → Walls k n → Walls k m → n ≡ m) (one_lead : (k : List ℤ) (w : ℕ) (d e : List ℤ) (g h : L) → Leads k w d g → Leads k w e h → (d ≡ e) × (g ≡ h)) (root : List ℤ) where
  -- two rows of one key, both filled, are the same
  same_rows : (rows ends : List (Row L)) (i j : ℕ) (r q : Row L) → IsSound Walls Leads root rows → IsSound Walls Leads root ends → out rows ≡ 0 → out ends ≡ 0 → IsAt rows i r → IsAt ends j q → r.key ≡ q.key → r ≡ q
  same_rows rows ends i j r q s s' none none' at at' same = (λ x. record { key = same x; slots = slots x })
    where
      long : length r.slots ≡ length q.slots
      long = one_walls q.key (length r.slots) (length q.slots) (subst (λ (k : List ℤ). Walls k (length r.slots)) same (s.walls i r at)) (s'.walls j q at')

      each : (w : ℕ) (o p : Option (Slot L)) → IsAt r.slots w o → IsAt q.slots w p → o ≡ p
      each w o p a b =
          let f = all_filled rows i w r none at (at_within r.slots w o a) in
          let g = all_filled ends j w q none' at' (at_within q.slots w p b) in
          let one = one_lead q.key w f.0.target g.0.target f.0.link g.0.link (subst (λ (k : List ℤ). Leads k w f.0.target f.0.link) same (s.leads i w r f.0 at f.1)) (s'.leads j w q g.0 at' g.1) in
          let t = one.0 in let l = one.1 in
          let slot : f.0 ≡ g.0 = (λ x. record { target = t x; link = l x }) in
          at_one r.slots w o (Some f.0) a f.1 ∙ ap Some slot ∙ at_one q.slots w (Some g.0) p g.1 b

      slots : r.slots ≡ q.slots
      slots = same_lists r.slots q.slots long each

  pub rows_agree : (order : List ℤ → List ℤ → Ordering) → IsTotalOrder order → ((x y : List ℤ) → order x y ≡ Equal → x ≡ y) → (rows ends : List (Row L)) → IsSound Walls Leads root rows → IsSound Walls Leads root ends → out rows ≡ 0 → out ends ≡ 0 → (r : Row L) → Contains rows r → Contains ends r
  rows_agree order total exact rows ends s s' none none' r c =
      let i = at_contained rows r c in
      let k = (closed order total exact Walls Leads root ends one_walls one_lead none' ∣ s' ∣₁ r.key).1 (s.reached i.0 r i.1) in
      let h = row_of_key ends r.key k in
      let same = same_rows rows ends i.0 h.place r h.row s s' none none' i.1 h.at (sym h.is) in
      contains_at ends h.place r (h.at ∙ ap Some (sym same))

module _ {K L : Type 0} (numbers : K → List ℤ) (Walls : List ℤ → ℕ → Type 0) (Leads : List ℤ → ℕ → List ℤ → L → Type 0) where
  -- one event more
  pub runs_more : (es : List (Event K)) (e : Event K) (before mid after : List (Row L)) → Runs numbers Walls Leads es before mid → Does numbers Walls Leads e mid after → Runs numbers Walls Leads (es ++ e ∷ []) before after
  runs_more [] e before mid after r d = (after, subst (λ (x : List (Row L)). Does numbers Walls Leads e x after) (sym r) d, refl)
  runs_more (x ∷ es) e before mid after r d = (r.0, r.1, runs_more es e r.0 mid after r.2 d)

  -- an event adds one row at most
  pub does_few : (e : Event K) (before after : List (Row L)) → Does numbers Walls Leads e before after → length after ≤ length before + 1
  does_few (Meet k w) before after d = ⊎_elim
      (λ (m : HasKey before d.0.target × (after ≡ before)). let e = ap length m.1 in omega arith)
      (λ (m : (HasKey before d.0.target → ⊥) × (n : ℕ) × Walls d.0.target n × (after ≡ before ++ empty_row d.0.target n ∷ [])). let e = ap length m.3 in omega (arith, length-append before (empty_row d.0.target m.1 ∷ [])))
      d.1
  does_few (Fill k w) before after d = let e = ap length d.2 in omega (arith, length-set before d.0.from.place (with_slot d.0.from.row w (record { target = d.0.target; link = d.0.link })))
