-- The records by ascending keys, with their leads by rank, are the graph of the book; and where no slot is empty, of what is reached.
use Rattle.std.proofs.Common.{◌≡◌, ℕ, zero, suc, ◌<◌, List, length, map, Some, refl, sym, ap, ◌∙◌, subst, arith}
use Rattle.std.specs.Prelude.{ℤ, Contains, slice_index, option_map, ◌↔◌}
use Rattle.std.specs.declared.cmp.Ordering.{Ordering}
use Rattle.std.specs.declared.cmp.Ordering.TheVariants.{Less, Equal}
use Rattle.std.specs.Cmp.{IsTotalOrder}
use Rattle.std.proofs.lemmas.Cmp.{tied_itself}
use Rattle.std.proofs.lemmas.Option.{get_or_from_slice_get}
use Rattle.std.proofs.lemmas.List.{length-map}
use Rattle.terrain.specs.declared.graph.Lead.{Lead}
use Rattle.terrain.specs.Places.{IsAt}
use Rattle.terrain.specs.Graphs.{IsAscending, IsGraph}
use Rattle.terrain.specs.Reach.{IsReached, AreReached}
use Rattle.terrain.proofs.CallerLemmas.{at_one, at_within, read, at_map}
use Rattle.explore_core.specs.declared.record.Filled.{Filled}
use Rattle.explore_core.specs.declared.record.Record.{Record}
use Rattle.explore_core.specs.Books.{Slot, Row, HasKey, IsSound, keys_of, out}
use Rattle.explore_core.specs.Graphs.{AreLeads, IsGraphOf}
use Rattle.explore_core.specs.Index.{IsIndex}
use Rattle.explore_core.specs.Ranks.{ArePlaces, AllFull, AreRanked, ranked}
use Rattle.explore_core.specs.Records.{slot_of, row_of, rows_from, ArePlaced}
use Rattle.explore_core.proofs.CallerLemmas.{listed_at}
use Rattle.explore_core.proofs.Closed.{all_filled, contains_at, at_contained}
use Rattle.explore_core.proofs.RecordRows.{some_shown, some_behind}

-- an index lists each place once
pub each_once : (order : List ℤ → List ℤ → Ordering) → IsTotalOrder order → (keys : List (List ℤ)) (places : List ℕ) → IsIndex order keys places → ArePlaces (length keys) places
each_once order total keys places index = record {
  within = index.within;
  once = λ i j a at at'.
      let k = read keys a (index.within i a at) in
      let never : (x y : ℕ) → IsAt places x a → IsAt places y a → x < y → ⊥ = λ x y u v h. less (order k.0 k.0) (index.ascends x y a a k.0 k.0 h u v k.1 k.1) (tied_itself total k.0) in
      equal i j (never i j at at') (never j i at' at);
}
  where
    less : (o : Ordering) → o ≡ Less → o ≡ Equal → ⊥
    less o a b = cc

    equal : (i j : ℕ) → (i < j → ⊥) → (j < i → ⊥) → i ≡ j
    equal zero zero a b = refl
    equal zero (suc j) a b = absurd (a (omega arith))
    equal (suc i) zero a b = absurd (b (omega arith))
    equal (suc i) (suc j) a b = ap suc (equal i j (λ h. a (omega arith)) (λ h. b (omega arith)))

module _ {K L : Type 0} (numbers : K → List ℤ) (order : List ℤ → List ℤ → Ordering) (records ordered : List (Record K L)) (places : List ℕ) (placed : ArePlaced numbers records) (index : IsIndex order (keys_of (rows_from numbers records)) places) (none : out (rows_from numbers records) ≡ 0) (size : length ordered ≡ length places) (moved : (i a : ℕ) (r : Record K L) → IsAt places i a → IsAt records a r → IsAt ordered i r) where
  many_records : length (keys_of (rows_from numbers records)) ≡ length records
  many_records = length-map (rows_from numbers records) (λ (r : Row L). r.key) ∙ length-map records (row_of numbers)

  row_at : (a : ℕ) (r : Record K L) → IsAt records a r → IsAt (rows_from numbers records) a (row_of numbers r)
  row_at a r at = at_map (row_of numbers) records a r at

  key_at_place : (a : ℕ) (r : Record K L) → IsAt records a r → IsAt (keys_of (rows_from numbers records)) a (numbers r.key)
  key_at_place a r at = at_map (λ (x : Row L). x.key) (rows_from numbers records) a (row_of numbers r) (row_at a r at)

  -- the record that stands there in the order of keys, with its place
  record Found (i : ℕ) : Type 0 where
    place : ℕ
    found : Record K L
    listed : IsAt places i place
    at : IsAt records place found
    sorted : IsAt ordered i found

  found_at : (i : ℕ) → i < length places → Found i
  found_at i h =
      let a = read places i h in
      let r = read records a.0 (let w = index.within i a.0 a.1 in let m = many_records in omega arith) in
      record { place = a.0; found = r.0; listed = a.1; at = r.1; sorted = moved i a.0 r.0 a.1 r.1 }

  -- what a filled slot of a record is
  filled_slot : (a w : ℕ) (r : Record K L) → IsAt records a r → w < length r.slots.items → (f : Filled K L) × IsAt r.slots.items w (Some f)
  filled_slot a w r at h =
      let full = all_filled (rows_from numbers records) a w (row_of numbers r) none (row_at a r at) (let l = length-map r.slots.items (option_map (slot_of numbers)) in omega arith) in
      let f = some_behind (slot_of numbers) r.slots.items w full.0 full.1 in
      (f.0, f.1)

  pub filled_records : (n : ℕ) → n ≡ length places → (i : ℕ) (r : Record K L) → IsAt ordered i r → AllFull n r.slots.items
  filled_records n len i r at w h =
      let b = found_at i (let l = at_within ordered i r at in omega arith) in
      let same : b.found ≡ r = at_one ordered i b.found r b.sorted at in
      let there : IsAt records b.place r = b.at ∙ ap Some same in
      let f = filled_slot b.place w r there h in
      (f.0, f.1, (let l = at_within (keys_of (rows_from numbers records)) f.0.place (numbers f.0.target.value) (placed b.place w r f.0 there f.1) in let k = index.long in omega arith))

  module _ (ranks : List ℕ) (rank_at : (i a : ℕ) → IsAt places i a → IsAt ranks a i) (ks : List K) (is : ks ≡ map (λ (r : Record K L). r.key) ordered) (lists : List (List (Lead L))) (long : length lists ≡ length places) (each : (i : ℕ) (r : Record K L) → IsAt ordered i r → (q : List (Lead L)) × IsAt lists i q × AreRanked ranks r.slots.items q) where
    many_keys : length (map numbers ks) ≡ length places
    many_keys = length-map ks numbers ∙ ap length is ∙ length-map ordered (λ (r : Record K L). r.key) ∙ size

    sorted_key : (i : ℕ) (r : Record K L) → IsAt ordered i r → IsAt (map numbers ks) i (numbers r.key)
    sorted_key i r at = at_map numbers ks i r.key (subst (λ (l : List K). IsAt l i r.key) (sym is) (at_map (λ (x : Record K L). x.key) ordered i r at))

    -- where the key of a place stands in the order of keys
    rank_of_key : (a : ℕ) (k : List ℤ) → IsAt (keys_of (rows_from numbers records)) a k → (j : ℕ) × IsAt ranks a j × IsAt (map numbers ks) j k
    rank_of_key a k at =
        let h = at_within (keys_of (rows_from numbers records)) a k at in
        let s = listed_at places a (index.listed a h) in
        let r = read records a (let m = many_records in omega arith) in
        let same : numbers r.0.key ≡ k = at_one (keys_of (rows_from numbers records)) a (numbers r.0.key) k (key_at_place a r.0 r.1) at in
        (s.0, rank_at s.0 a s.1, sorted_key s.0 r.0 (moved s.0 a r.0 s.1 r.1) ∙ ap Some same)

    found_of : (i : ℕ) (k : List ℤ) → IsAt (map numbers ks) i k → (b : Found i) × (numbers b.found.key ≡ k)
    found_of i k at =
        let b = found_at i (let l = at_within (map numbers ks) i k at in let m = many_keys in omega arith) in
        (b, at_one (map numbers ks) i (numbers b.found.key) k (sorted_key i b.found b.sorted) at)

    ascending : IsAscending order (map numbers ks)
    ascending i j x y h at at' =
        let b = found_of i x at in
        let c = found_of j y at' in
        index.ascends i j b.0.place c.0.place x y h b.0.listed c.0.listed (key_at_place b.0.place b.0.found b.0.at ∙ ap Some b.1) (key_at_place c.0.place c.0.found c.0.at ∙ ap Some c.1)

    same_keys : (k : List ℤ) → (Contains (map numbers ks) k) ↔ (Contains (keys_of (rows_from numbers records)) k)
    same_keys k = (
      (λ (c : Contains (map numbers ks) k). let i = at_contained (map numbers ks) k c in let b = found_of i.0 k i.1 in contains_at (keys_of (rows_from numbers records)) b.0.place k (key_at_place b.0.place b.0.found b.0.at ∙ ap Some b.1)),
      (λ (c : Contains (keys_of (rows_from numbers records)) k). let i = at_contained (keys_of (rows_from numbers records)) k c in let r = rank_of_key i.0 k i.1 in contains_at (map numbers ks) r.0 k r.2),
    )

    slots : (i : ℕ) (k : List ℤ) (row : List (Lead L)) → IsAt (map numbers ks) i k → IsAt lists i row → (from : HasKey (rows_from numbers records) k) × AreLeads (map numbers ks) from.row row
    slots i k row at there =
        let b = found_of i k at in
        let r = b.0.found in
        let e = each i r b.0.sorted in
        let same : e.0 ≡ row = at_one lists i e.0 row e.1 there in
        let lead : (w : ℕ) (l : Lead L) → IsAt e.0 w l → (s : Slot L) × IsAt (row_of numbers r).slots w (Some s) × IsAt (map numbers ks) l.to s.target × (l.link ≡ s.link) = λ w l lat.
        let f = filled_slot b.0.place w r b.0.at (let h = at_within e.0 w l lat in let q = e.2.long in omega arith) in
        let j = rank_of_key f.0.place (numbers f.0.target.value) (placed b.0.place w r f.0 b.0.at f.1) in
        let rank : slice_index ranks f.0.place ≡ j.0 = get_or_from_slice_get ranks f.0.place j.0 0 j.1 in
        let is_lead : ranked ranks f.0 ≡ l = at_one e.0 w (ranked ranks f.0) l (e.2.each w f.0 f.1) lat in (
          slot_of numbers f.0,
          some_shown (slot_of numbers) r.slots.items w f.0 f.1,
          subst (λ (n : ℕ). IsAt (map numbers ks) n (numbers f.0.target.value)) (sym rank ∙ ap (λ (x : Lead L). x.to) is_lead) j.2,
          sym (ap (λ (x : Lead L). x.link) is_lead),
        ) in (
          record { place = b.0.place; row = row_of numbers r; at = row_at b.0.place r b.0.at; is = b.1 },
          subst (λ (q : List (Lead L)). AreLeads (map numbers ks) (row_of numbers r) q) same (e.2.long ∙ sym (length-map r.slots.items (option_map (slot_of numbers))), lead),
        )

    pub graph_of : (place : ℕ) → IsAt ranks 0 place → IsGraphOf order (rows_from numbers records) (map numbers ks) lists place
    graph_of place at = record {
      same_keys = same_keys;
      ascending = ascending;
      row_each = long ∙ sym many_keys;
      slots = slots;
      root_at = λ root first. let j = rank_of_key 0 root first in subst (λ (n : ℕ). IsAt (map numbers ks) n root) (at_one ranks 0 j.0 place j.1 at) j.2;
    }

    pub as_many : length (map numbers ks) ≡ length (rows_from numbers records)
    as_many = many_keys ∙ index.long ∙ length-map (rows_from numbers records) (λ (r : Row L). r.key)

-- the graph of a sound book without empty slots is that of what is reached
pub graph_reached : {L : Type 0} (order : List ℤ → List ℤ → Ordering) (Walls : List ℤ → ℕ → Type 0) (Leads : List ℤ → ℕ → List ℤ → L → Type 0) (root : List ℤ) (rows : List (Row L)) (keys : List (List ℤ)) (lists : List (List (Lead L))) (place : ℕ) → IsSound Walls Leads root rows → AreReached Walls Leads root (keys_of rows) → IsGraphOf order rows keys lists place → IsGraph order Walls Leads root keys lists place
graph_reached {L} order Walls Leads root rows keys lists place sound all g = record {
  reached = λ k. ((λ (c : Contains keys k). (all k).0 ((g.same_keys k).0 c)), (λ (r : IsReached Walls Leads root k). (g.same_keys k).1 ((all k).1 r)));
  ascending = g.ascending;
  row_each = g.row_each;
  lead_each = λ i k row at there. let s = g.slots i k row at there in subst (Walls k) (sym s.1.0) (subst (λ (x : List ℤ). Walls x (length s.0.row.slots)) s.0.is (sound.walls s.0.place s.0.row s.0.at));
  leads = λ i w k row l at there lat.
      let s = g.slots i k row at there in
      let t = s.1.1 w l lat in
      (t.0.target, t.2, subst (Leads k w t.0.target) (sym t.3) (subst (λ (x : List ℤ). Leads x w t.0.target t.0.link) s.0.is (sound.leads s.0.place w s.0.row t.0 s.0.at t.1)));
  root_at = g.root_at root sound.root_first;
}
