-- Each event keeps a book sound.
use Rattle.std.proofs.Common.{◌≡◌, ◌≢◌, ℕ, zero, suc, List, [], ◌∷◌, ◌++◌, length, map, set, Option, Some, None, refl, sym, ap, ◌∙◌, subst, ⊎_elim, replicate}
use Rattle.std.specs.Prelude.{◌⊎◌, ℤ}
use mathlib.Core.Logic.{dite}
use native.Mathlib.Decide.{ℕ_discrete}
use Rattle.std.proofs.lemmas.List.{length-set, length-replicate, map-append}
use Rattle.terrain.specs.Places.{IsAt}
use Rattle.terrain.specs.Reach.{IsReached}
use Rattle.terrain.specs.Reach.Path.{start}
use Rattle.terrain.proofs.CallerLemmas.{at_set, set_here, set_else, at_snoc, snoc_left, at_within, at_one, at_map, lead_reached}
use Rattle.explore_core.specs.declared.event.Event.{Event}
use Rattle.explore_core.specs.declared.event.Event.TheVariants.{Meet, Fill}
use Rattle.explore_core.specs.Books.{Slot, Row, HasKey, IsSound, keys_of, empty_row}
use Rattle.explore_core.specs.Events.{Ticket, Does, Runs, with_slot}
use Rattle.explore_core.proofs.EmptySlots.{none_filled}

-- a list of keys with one replaced by itself
pub map_set : {A B : Type 0} (f : A → B) (xs : List A) (i : ℕ) (y : A) → map f (set xs i y) ≡ set (map f xs) i (f y)
map_set f [] i y = refl
map_set f (x ∷ xs) zero y = refl
map_set f (x ∷ xs) (suc i) y = ap (λ l. f x ∷ l) (map_set f xs i y)

pub set_same : {A : Type 0} (xs : List A) (i : ℕ) (x : A) → IsAt xs i x → set xs i x ≡ xs
set_same [] i x at = cc
set_same (y ∷ xs) zero x at = let e : y ≡ x = cc in ap (λ z. z ∷ xs) (sym e)
set_same (y ∷ xs) (suc i) x at = ap (λ l. y ∷ l) (set_same xs i x at)

-- filling a slot leaves the keys as they are
pub keys_of-set : {L : Type 0} (rows : List (Row L)) (i w : ℕ) (r : Row L) (s : Slot L) → IsAt rows i r → keys_of (set rows i (with_slot r w s)) ≡ keys_of rows
keys_of-set rows i w r s at = map_set (λ (x : Row _). x.key) rows i (with_slot r w s) ∙ set_same (keys_of rows) i r.key (at_map (λ (x : Row _). x.key) rows i r at)

pub keys_of-append : {L : Type 0} (rows : List (Row L)) (k : List ℤ) (n : ℕ) → keys_of (rows ++ empty_row k n ∷ []) ≡ keys_of rows ++ k ∷ []
keys_of-append rows k n = map-append (λ (x : Row _). x.key) rows (empty_row k n ∷ [])

module _ {L : Type 0} (Walls : List ℤ → ℕ → Type 0) (Leads : List ℤ → ℕ → List ℤ → L → Type 0) (root : List ℤ) where
  -- the target of an open slot is reached
  target_reached : (rows : List (Row L)) (k : List ℤ) (w : ℕ) → IsSound Walls Leads root rows → (t : Ticket Leads rows k w) → IsReached Walls Leads root t.target
  target_reached rows k w s t = lead_reached Walls Leads root t.from.row.key t.target (s.reached t.from.place t.from.row t.from.at) (record {
    walls = length t.from.row.slots;
    has = s.walls t.from.place t.from.row t.from.at;
    wall = w;
    within = at_within t.from.row.slots w None t.empty;
    link = t.link;
    leads = subst (λ (x : List ℤ). Leads x w t.target t.link) (sym t.from.is) t.leads;
  })

  -- a reached key is added
  pub sound_added : (rows : List (Row L)) (d : List ℤ) (n : ℕ) → IsSound Walls Leads root rows → IsReached Walls Leads root d → (HasKey rows d → ⊥) → Walls d n → IsSound Walls Leads root (rows ++ empty_row d n ∷ [])
  sound_added rows d n s reached fresh has = record {
    root_first = subst (λ (ks : List (List ℤ)). IsAt ks 0 root) (sym (keys_of-append rows d n)) (snoc_left (keys_of rows) 0 d root s.root_first);
    reached = λ i r at. ⊎_elim (λ (was : IsAt rows i r). s.reached i r was) (λ (e : (i ≡ length rows) × (empty_row d n ≡ r)). subst (λ (x : Row L). IsReached Walls Leads root x.key) e.1 reached) (at_snoc rows i (empty_row d n) r at);
    once = λ i j p q at at' same. ⊎_elim
        (λ (was : IsAt rows i p). ⊎_elim
        (λ (was' : IsAt rows j q). s.once i j p q was was' same)
        (λ (e : (j ≡ length rows) × (empty_row d n ≡ q)). absurd (fresh (record { place = i; row = p; at = was; is = same ∙ sym (ap (λ (x : Row L). x.key) e.1) })))
        (at_snoc rows j (empty_row d n) q at'))
        (λ (e : (i ≡ length rows) × (empty_row d n ≡ p)). ⊎_elim
        (λ (was' : IsAt rows j q). absurd (fresh (record { place = j; row = q; at = was'; is = sym same ∙ sym (ap (λ (x : Row L). x.key) e.1) })))
        (λ (e' : (j ≡ length rows) × (empty_row d n ≡ q)). e.0 ∙ sym e'.0)
        (at_snoc rows j (empty_row d n) q at'))
        (at_snoc rows i (empty_row d n) p at);
    walls = λ i r at. ⊎_elim (λ (was : IsAt rows i r). s.walls i r was) (λ (e : (i ≡ length rows) × (empty_row d n ≡ r)). subst (λ (x : Row L). Walls x.key (length x.slots)) e.1 (subst (Walls d) (sym (length-replicate n None)) has)) (at_snoc rows i (empty_row d n) r at);
    leads = λ i w r f at full. ⊎_elim (λ (was : IsAt rows i r). s.leads i w r f was full) (λ (e : (i ≡ length rows) × (empty_row d n ≡ r)). absurd (never w r f e.1 full)) (at_snoc rows i (empty_row d n) r at);
    targets = λ i w r f at full. ⊎_elim (λ (was : IsAt rows i r). further (s.targets i w r f was full)) (λ (e : (i ≡ length rows) × (empty_row d n ≡ r)). absurd (never w r f e.1 full)) (at_snoc rows i (empty_row d n) r at);
  }
    where
      never : (w : ℕ) (r : Row L) (f : Slot L) → empty_row d n ≡ r → IsAt r.slots w (Some f) → ⊥
      never w r f e full = none_filled n w f (subst (λ (x : Row L). IsAt x.slots w (Some f)) (sym e) full)

      further : {k : List ℤ} → HasKey rows k → HasKey (rows ++ empty_row d n ∷ []) k
      further h = record { place = h.place; row = h.row; at = snoc_left rows h.place (empty_row d n) h.row h.at; is = h.is }

  module _ (rows : List (Row L)) (at : ℕ) (r : Row L) (w : ℕ) (s : Slot L) (stands : IsAt rows at r) where
    -- what was there before a slot was filled, with its key
    pub row_before : (i : ℕ) (x : Row L) → IsAt (set rows at (with_slot r w s)) i x → (z : Row L) × IsAt rows i z × (z.key ≡ x.key)
    row_before i x e = ⊎_elim (λ (h : (i ≡ at) × (with_slot r w s ≡ x)). (r, subst (λ (j : ℕ). IsAt rows j r) (sym h.0) stands, ap (λ (y : Row L). y.key) h.1)) (λ (h : (i ≢ at) × IsAt rows i x). (x, h.1, refl)) (at_set rows at i (with_slot r w s) x e)

    -- what is there after it
    pub row_after : (i : ℕ) (q : Row L) → IsAt rows i q → (x : Row L) × IsAt (set rows at (with_slot r w s)) i x × (x.key ≡ q.key)
    row_after i q there = dite (ℕ_discrete i at)
        (λ (e : i ≡ at). (with_slot r w s, subst (λ (j : ℕ). IsAt (set rows at (with_slot r w s)) j (with_slot r w s)) (sym e) (set_here rows at r (with_slot r w s) stands), ap (λ (x : Row L). x.key) (at_one rows at r q stands (subst (λ (j : ℕ). IsAt rows j q) e there))))
        (λ (ne : i ≢ at). (q, set_else rows at i (with_slot r w s) q ne there, refl))

    pub key_after : {k : List ℤ} → HasKey rows k → HasKey (set rows at (with_slot r w s)) k
    key_after h = let x = row_after h.place h.row h.at in record { place = h.place; row = x.0; at = x.1; is = x.2 ∙ h.is }

    -- a slot is filled with its lead
    pub sound_filled : IsSound Walls Leads root rows → Leads r.key w s.target s.link → HasKey rows s.target → IsSound Walls Leads root (set rows at (with_slot r w s))
    sound_filled sound leads there = record {
      root_first = subst (λ (ks : List (List ℤ)). IsAt ks 0 root) (sym (keys_of-set rows at w r s stands)) sound.root_first;
      reached = λ i x e. let b = row_before i x e in subst (IsReached Walls Leads root) b.2 (sound.reached i b.0 b.1);
      once = λ i j x y e e' same. let a = row_before i x e in let b = row_before j y e' in sound.once i j a.0 b.0 a.1 b.1 (a.2 ∙ same ∙ sym b.2);
      walls = λ i x e. ⊎_elim (λ (h : (i ≡ at) × (with_slot r w s ≡ x)). subst (λ (y : Row L). Walls y.key (length y.slots)) h.1 (subst (Walls r.key) (sym (length-set r.slots w (Some s))) (sound.walls at r stands))) (λ (h : (i ≢ at) × IsAt rows i x). sound.walls i x h.1) (at_set rows at i (with_slot r w s) x e);
      leads = λ i v x f e full. ⊎_elim
          (λ (h : (i ≡ at) × (with_slot r w s ≡ x)). subst (λ (y : Row L). Leads y.key v f.target f.link) h.1 (⊎_elim
          (λ (m : (v ≡ w) × (Some s ≡ Some f)). let same : s ≡ f = cc in subst (λ (y : Slot L). Leads r.key v y.target y.link) same (subst (λ (u : ℕ). Leads r.key u s.target s.link) (sym m.0) leads))
          (λ (m : (v ≢ w) × IsAt r.slots v (Some f)). sound.leads at v r f stands m.1)
          (slot_was v x f h.1 full)))
          (λ (h : (i ≢ at) × IsAt rows i x). sound.leads i v x f h.1 full)
          (at_set rows at i (with_slot r w s) x e);
      targets = λ i v x f e full. key_after (⊎_elim
          (λ (h : (i ≡ at) × (with_slot r w s ≡ x)). ⊎_elim
          (λ (m : (v ≡ w) × (Some s ≡ Some f)). let same : s ≡ f = cc in subst (λ (y : Slot L). HasKey rows y.target) same there)
          (λ (m : (v ≢ w) × IsAt r.slots v (Some f)). sound.targets at v r f stands m.1)
          (slot_was v x f h.1 full))
          (λ (h : (i ≢ at) × IsAt rows i x). sound.targets i v x f h.1 full)
          (at_set rows at i (with_slot r w s) x e));
    }
      where
        slot_was : (v : ℕ) (x : Row L) (f : Slot L) → with_slot r w s ≡ x → IsAt x.slots v (Some f) → ((v ≡ w) × (Some s ≡ Some f)) ⊎ ((v ≢ w) × IsAt r.slots v (Some f))
        slot_was v x f e full = at_set r.slots w v (Some s) (Some f) (subst (λ (y : Row L). IsAt y.slots v (Some f)) (sym e) full)

  pub kept : {K : Type 0} (numbers : K → List ℤ) (e : Event K) (before after : List (Row L)) → IsSound Walls Leads root before → Does numbers Walls Leads e before after → IsSound Walls Leads root after
  kept numbers (Meet k w) before after s d = ⊎_elim
      (λ (m : HasKey before d.0.target × (after ≡ before)). subst (IsSound Walls Leads root) (sym m.1) s)
      (λ (m : (HasKey before d.0.target → ⊥) × (n : ℕ) × Walls d.0.target n × (after ≡ before ++ empty_row d.0.target n ∷ [])). subst (IsSound Walls Leads root) (sym m.3) (sound_added before d.0.target m.1 s (target_reached before (numbers k) w s d.0) m.0 m.2))
      d.1
  kept numbers (Fill k w) before after s d =
      let t = d.0 in
      subst (IsSound Walls Leads root) (sym d.2) (sound_filled before t.from.place t.from.row w (record { target = t.target; link = t.link }) t.from.at s (subst (λ (y : List ℤ). Leads y w t.target t.link) (sym t.from.is) t.leads) d.1)

  pub kept_all : {K : Type 0} (numbers : K → List ℤ) (es : List (Event K)) (before after : List (Row L)) → IsSound Walls Leads root before → Runs numbers Walls Leads es before after → IsSound Walls Leads root after
  kept_all numbers [] before after s r = subst (IsSound Walls Leads root) r s
  kept_all numbers (e ∷ es) before after s r = kept_all numbers es r.0 after (kept numbers e before r.0 s r.1) r.2

  -- the root alone
  pub sound_root : (n : ℕ) → Walls root n → IsSound Walls Leads root (empty_row root n ∷ [])
  sound_root n has = record {
    root_first = refl;
    reached = λ i r at. one (λ (q : Row L). IsReached Walls Leads root q.key) i r at ∣ start ∣₁;
    once = λ i j p q at at' same. zero_at i p at ∙ sym (zero_at j q at');
    walls = λ i r at. one (λ (q : Row L). Walls q.key (length q.slots)) i r at (subst (Walls root) (sym (length-replicate n None)) has);
    leads = λ i w r f at full. absurd (never i w r f at full);
    targets = λ i w r f at full. absurd (never i w r f at full);
  }
    where
      one : (P : Row L → Type 0) (i : ℕ) (r : Row L) → IsAt (empty_row root n ∷ []) i r → P (empty_row root n) → P r
      one P zero r at h = let e : empty_row root n ≡ r = cc in subst P e h
      one P (suc i) r at h = cc

      zero_at : (i : ℕ) (r : Row L) → IsAt (empty_row root n ∷ []) i r → i ≡ 0
      zero_at zero r at = refl
      zero_at (suc i) r at = cc

      never : (i w : ℕ) (r : Row L) (f : Slot L) → IsAt (empty_row root n ∷ []) i r → IsAt r.slots w (Some f) → ⊥
      never i w r f at full = none_filled n w f (one (λ (q : Row L). IsAt q.slots w (Some f) → IsAt (replicate {A = Option (Slot L)} n None) w (Some f)) i r at (λ x. x) full)
