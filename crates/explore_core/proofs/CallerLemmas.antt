-- What users of the crate may cite: the index of keys that go by a search, what events keep, and what an explorer knows of a filled book.
use Rattle.std.proofs.Common.{◌≡◌, ◌≢◌, ℕ, zero, suc, ◌<◌, ◌≤◌, List, [], ◌∷◌, ◌++◌, length, set, Option, Some, None, refl, sym, ap, ◌∙◌, subst, arith, ⊎_elim, inl, inr, true, false}
use Rattle.std.specs.Prelude.{ℤ, ◌⊎◌, insert}
use Rattle.std.proofs.lemmas.Bool.Decides.{nat_tests}
use Rattle.std.specs.declared.cmp.Ordering.{Ordering}
use Rattle.std.specs.declared.cmp.Ordering.TheVariants.{Less}
use Rattle.std.proofs.lemmas.List.{length-append, length-set}
use Rattle.std.proofs.lemmas.List.Edits.{length-insert}
use mathlib.Core.Logic.{dite}
use native.Mathlib.Decide.{ℕ_discrete}
use Rattle.terrain.specs.Places.{IsAt}
use Rattle.explore_core.specs.Index.{IsIndex, IsGap, lists}
use Rattle.terrain.proofs.CallerLemmas.{at_one, at_within, at_snoc, snoc_left, snoc_end, set_here, set_else}
use Rattle.explore_core.specs.Books.{Slot, Row, HasKey, empty_row, empties, out}
use Rattle.explore_core.specs.Events.{Adds, Meets, Fills, FillsSlot, with_slot}

pub listed_at : (xs : List ℕ) (a : ℕ) → lists xs a ≡ true → (i : ℕ) × IsAt xs i a
listed_at [] a e = cc
listed_at (x ∷ xs) a e = dite (ℕ_discrete x a) (λ (s : x ≡ a). (0, ap Some s)) (λ (n : x ≢ a). let r = listed_at xs a (grind (arith, nat_tests)) in (suc r.0, r.1))

-- a number put in
pub lists_insert : (xs : List ℕ) (i y a : ℕ) → (y ≡ a) ⊎ (lists xs a ≡ true) → lists (insert xs i y) a ≡ true
lists_insert [] zero y a h = ⊎_elim (λ (e : y ≡ a). grind (arith, nat_tests)) (λ (e : false ≡ true). cc) h
lists_insert [] (suc i) y a h = ⊎_elim (λ (e : y ≡ a). grind (arith, nat_tests)) (λ (e : false ≡ true). cc) h
lists_insert (x ∷ xs) zero y a h = ⊎_elim (λ (e : y ≡ a). grind (arith, nat_tests)) (λ (e : lists (x ∷ xs) a ≡ true). grind (arith, nat_tests)) h
lists_insert (x ∷ xs) (suc i) y a h = ⊎_elim
    (λ (e : y ≡ a). let r = lists_insert xs i y a (inl e) in grind (arith, nat_tests))
    (λ (e : lists (x ∷ xs) a ≡ true). dite (ℕ_discrete x a) (λ (s : x ≡ a). grind (arith, nat_tests)) (λ (n : x ≢ a). let r = lists_insert xs i y a (inr (grind (arith, nat_tests))) in grind (arith, nat_tests)))
    h

module _ {A : Type 0} where
  pub at_insert : (xs : List A) (i j : ℕ) (y u : A) → i ≤ length xs → IsAt (insert xs i y) j u → ((j < i) × IsAt xs j u) ⊎ (((j ≡ i) × (y ≡ u)) ⊎ ((m : ℕ) × (j ≡ suc m) × (i ≤ m) × IsAt xs m u))
  at_insert xs zero zero y u h e = inr (inl (refl, cc))
  at_insert xs zero (suc j) y u h e = inr (inr (j, refl, omega arith, e))
  at_insert [] (suc i) j y u h e = absurd (omega arith)
  at_insert (x ∷ xs) (suc i) zero y u h e = inl (omega arith, e)
  at_insert (x ∷ xs) (suc i) (suc j) y u h e = ⊎_elim
      (λ (p : (j < i) × IsAt xs j u). inl (let q = p.0 in omega arith, p.1))
      (λ (p : ((j ≡ i) × (y ≡ u)) ⊎ ((m : ℕ) × (j ≡ suc m) × (i ≤ m) × IsAt xs m u)). inr (⊎_elim
      (λ (q : (j ≡ i) × (y ≡ u)). inl (ap suc q.0, q.1))
      (λ (q : (m : ℕ) × (j ≡ suc m) × (i ≤ m) × IsAt xs m u). inr (suc q.0, ap suc q.1, (let r = q.2 in omega arith), q.3))
      p))
      (at_insert xs i j y u (omega arith) e)

module _ (order : List ℤ → List ℤ → Ordering) where
  -- one key at the end, its place put in
  pub index_more : (keys : List (List ℤ)) (places : List ℕ) (p : List ℤ) (i : ℕ) → IsIndex order keys places → IsGap order keys places p i → IsIndex order (keys ++ p ∷ []) (insert places i (length keys))
  index_more keys places p i x gap = record {
    within = λ j a at. ⊎_elim
        (λ (h : (j < i) × IsAt places j a). longer a (x.within j a h.1))
        (λ (h : ((j ≡ i) × (length keys ≡ a)) ⊎ ((m : ℕ) × (j ≡ suc m) × (i ≤ m) × IsAt places m a)). ⊎_elim
        (λ (k : (j ≡ i) × (length keys ≡ a)). subst (λ (b : ℕ). b < length (keys ++ p ∷ [])) k.1 (omega (arith, length-append keys (p ∷ []))))
        (λ (k : (m : ℕ) × (j ≡ suc m) × (i ≤ m) × IsAt places m a). longer a (x.within k.0 a k.3))
        h)
        (at_insert places i j (length keys) a gap.within at);
    ascends = λ j l a b q r less at at' is is'. pairs j l a b q r less (where_it_was j a q at is) (where_it_was l b r at' is');
    listed = λ a h. dite (ℕ_discrete a (length keys))
        (λ (e : a ≡ length keys). lists_insert places i (length keys) a (inl (sym e)))
        (λ (n : a ≢ length keys). lists_insert places i (length keys) a (inr (x.listed a (omega (arith, length-append keys (p ∷ []))))));
    long = (let n = length-insert places i (length keys) gap.within in let l = x.long in omega (arith, length-append keys (p ∷ [])));
  }
    where
      longer : (a : ℕ) → a < length keys → a < length (keys ++ p ∷ [])
      longer a h = omega (arith, length-append keys (p ∷ []))

      -- an old place at an old index, or the new key at i
      Was : ℕ → ℕ → List ℤ → Type 0
      Was j a q = ((m : ℕ) × (((j ≡ m) × (m < i)) ⊎ ((j ≡ suc m) × (i ≤ m))) × IsAt places m a × IsAt keys a q) ⊎ ((j ≡ i) × (p ≡ q))

      old_key : (a : ℕ) (q : List ℤ) → a < length keys → IsAt (keys ++ p ∷ []) a q → IsAt keys a q
      old_key a q h is = ⊎_elim (λ (w : IsAt keys a q). w) (λ (w : (a ≡ length keys) × (p ≡ q)). absurd (let e = w.0 in omega arith)) (at_snoc keys a p q is)

      where_it_was : (j a : ℕ) (q : List ℤ) → IsAt (insert places i (length keys)) j a → IsAt (keys ++ p ∷ []) a q → Was j a q
      where_it_was j a q at is = ⊎_elim
          (λ (h : (j < i) × IsAt places j a). inl (j, inl (refl, h.0), h.1, old_key a q (x.within j a h.1) is))
          (λ (h : ((j ≡ i) × (length keys ≡ a)) ⊎ ((m : ℕ) × (j ≡ suc m) × (i ≤ m) × IsAt places m a)). ⊎_elim
          (λ (k : (j ≡ i) × (length keys ≡ a)). inr (k.0, at_one (keys ++ p ∷ []) a p q (subst (λ (b : ℕ). IsAt (keys ++ p ∷ []) b p) k.1 (snoc_end keys p)) is))
          (λ (k : (m : ℕ) × (j ≡ suc m) × (i ≤ m) × IsAt places m a). inl (k.0, inr (k.1, k.2), k.3, old_key a q (x.within k.0 a k.3) is))
          h)
          (at_insert places i j (length keys) a gap.within at)

      pairs : (j l a b : ℕ) (q r : List ℤ) → j < l → Was j a q → Was l b r → order q r ≡ Less
      pairs j l a b q r less (inl u) (inl v) = x.ascends u.0 v.0 a b q r (⊎_elim (λ (s : (j ≡ u.0) × (u.0 < i)). ⊎_elim (λ (t : (l ≡ v.0) × (v.0 < i)). let h : u.0 < v.0 = omega (arith, s.0, t.0) in h) (λ (t : (l ≡ suc v.0) × (i ≤ v.0)). let h : u.0 < v.0 = omega (arith, s.1, t.1) in h) v.1) (λ (s : (j ≡ suc u.0) × (i ≤ u.0)). ⊎_elim (λ (t : (l ≡ v.0) × (v.0 < i)). let h : u.0 < v.0 = omega (arith, s.0, s.1, t.0, t.1) in h) (λ (t : (l ≡ suc v.0) × (i ≤ v.0)). let h : u.0 < v.0 = omega (arith, s.0, t.0) in h) v.1) u.1) u.2 v.2 u.3 v.3
      pairs j l a b q r less (inl u) (inr v) = subst (λ (y : List ℤ). order q y ≡ Less) v.1 (gap.below u.0 a q (⊎_elim (λ (s : (j ≡ u.0) × (u.0 < i)). s.1) (λ (s : (j ≡ suc u.0) × (i ≤ u.0)). absurd (omega (arith, s.0, s.1, v.0))) u.1) u.2 u.3)
      pairs j l a b q r less (inr u) (inl v) = subst (λ (y : List ℤ). order y r ≡ Less) u.1 (gap.above v.0 b r (⊎_elim (λ (t : (l ≡ v.0) × (v.0 < i)). absurd (omega (arith, t.0, t.1, u.0))) (λ (t : (l ≡ suc v.0) × (i ≤ v.0)). t.1) v.1) v.2 v.3)
      pairs j l a b q r less (inr u) (inr v) = absurd (omega (arith, u.0, v.0))

  pub index_one : (p : List ℤ) → IsIndex order (p ∷ []) (0 ∷ [])
  index_one p = record { within = λ i a at. first i a at; ascends = λ i j a b q r less at at' is is'. absurd (let u = at_within (0 ∷ []) i a at in let v = at_within (0 ∷ []) j b at' in omega arith); listed = λ a h. listed_first a h; long = refl }
    where
      first : (i a : ℕ) → IsAt (0 ∷ []) i a → a < length (p ∷ [])
      first zero a at = let e : 0 ≡ a = cc in omega arith
      first (suc i) a at = cc

      listed_first : (a : ℕ) → a < length (p ∷ []) → lists (0 ∷ []) a ≡ true
      listed_first zero h = refl
      listed_first (suc a) h = absurd (omega arith)

  pub index_as : (keys keys' : List (List ℤ)) (places places' : List ℕ) → keys ≡ keys' → places ≡ places' → IsIndex order keys' places' → IsIndex order keys places
  index_as keys keys' places places' a b x = subst (λ (y : List (List ℤ) × List ℕ). IsIndex order y.0 y.1) (λ i. (sym a i, sym b i)) x

-- a row stays where a key is added
pub added_at : {L : Type 0} (Walls : List ℤ → ℕ → Type 0) (before after : List (Row L)) (d : List ℤ) → Adds Walls d before after → (i : ℕ) (r : Row L) → IsAt before i r → IsAt after i r
added_at Walls before after d added i r at = ⊎_elim
    (λ (m : HasKey before d × (after ≡ before)). subst (λ (x : List (Row _)). IsAt x i r) (sym m.1) at)
    (λ (m : (HasKey before d → ⊥) × (n : ℕ) × Walls d n × (after ≡ before ++ empty_row d n ∷ [])). subst (λ (x : List (Row _)). IsAt x i r) (sym m.3) (snoc_left before i (empty_row d m.1) r at))
    added

module _ {L : Type 0} (Walls : List ℤ → ℕ → Type 0) (Leads : List ℤ → ℕ → List ℤ → L → Type 0) (k : List ℤ) (w : ℕ) where
  -- a Fill keeps each row with its filled slots
  filled_keeps : (before after : List (Row L)) → Fills Leads k w before after → (i : ℕ) (r : Row L) → IsAt before i r → (q : Row L) × IsAt after i q × (length q.slots ≡ length r.slots) × ((v : ℕ) (s : Slot L) → IsAt r.slots v (Some s) → IsAt q.slots v (Some s))
  filled_keeps before after f i r at =
      let t = f.0 in
      let slot : Slot L = record { target = t.target; link = t.link } in
      let row = with_slot t.from.row w (record { target = t.target; link = t.link }) in
      subst (λ (l : List (Row L)). (q : Row L) × IsAt l i q × (length q.slots ≡ length r.slots) × ((v : ℕ) (s : Slot L) → IsAt r.slots v (Some s) → IsAt q.slots v (Some s))) (sym f.2) (dite (ℕ_discrete i t.from.place)
      (λ (e : i ≡ t.from.place).
      let same : t.from.row ≡ r = at_one before t.from.place t.from.row r t.from.at (subst (λ (j : ℕ). IsAt before j r) e at) in (
        row,
        subst (λ (j : ℕ). IsAt (set before t.from.place row) j row) (sym e) (set_here before t.from.place t.from.row row t.from.at),
        length-set t.from.row.slots w (Some slot) ∙ ap (λ (x : Row L). length x.slots) same,
        λ v s full. let was = subst (λ (x : Row L). IsAt x.slots v (Some s)) (sym same) full in set_else t.from.row.slots w v (Some slot) (Some s) (λ m. never s (at_one t.from.row.slots w None (Some s) t.empty (subst (λ (j : ℕ). IsAt t.from.row.slots j (Some s)) m was))) was,
      ))
      (λ (ne : i ≢ t.from.place). (r, set_else before t.from.place i row r ne at, refl, λ v s full. full)))
    where
      never : (s : Slot L) → None ≡ Some s → ⊥
      never s e = cc

  -- so do both events of a slot
  pub fills_keeps : (before after : List (Row L)) → FillsSlot Walls Leads k w before after → (i : ℕ) (r : Row L) → IsAt before i r → (q : Row L) × IsAt after i q × (length q.slots ≡ length r.slots) × ((v : ℕ) (s : Slot L) → IsAt r.slots v (Some s) → IsAt q.slots v (Some s))
  fills_keeps before after f i r at = ⊎_elim
      (λ (m : (from : HasKey before k) × (s : Slot L) × IsAt from.row.slots w (Some s) × (after ≡ before)). subst (λ (l : List (Row L)). (q : Row L) × IsAt l i q × (length q.slots ≡ length r.slots) × ((v : ℕ) (s : Slot L) → IsAt r.slots v (Some s) → IsAt q.slots v (Some s))) (sym m.3) (r, at, refl, λ v s full. full))
      (λ (m : (met : List (Row L)) × Meets Walls Leads k w before met × Fills Leads k w met after). filled_keeps m.0 after m.2 i r (added_at Walls before m.0 m.1.0.target m.1.1 i r at))
      f

-- with each slot of each row filled, none is empty
none_empty_of : {A : Type 0} (xs : List (Option A)) → ((v : ℕ) → v < length xs → (x : A) × IsAt xs v (Some x)) → empties xs ≡ 0
none_empty_of [] f = refl
none_empty_of {A} (None ∷ xs) f = let c = f 0 (omega arith) in absurd (clash c.0 c.1)
  where
    clash : (x : A) → IsAt (None ∷ xs) 0 (Some x) → ⊥
    clash x e = cc
none_empty_of (Some x ∷ xs) f = none_empty_of xs (λ v h. f (suc v) (omega arith))

pub out_of_full : {L : Type 0} (rows : List (Row L)) → ((i : ℕ) (r : Row L) → IsAt rows i r → (v : ℕ) → v < length r.slots → (s : Slot L) × IsAt r.slots v (Some s)) → out rows ≡ 0
out_of_full [] f = refl
out_of_full (r ∷ rows) f =
    let h = none_empty_of r.slots (f 0 r refl) in
    let k = out_of_full rows (λ i q at. f (suc i) q at) in
    omega arith
