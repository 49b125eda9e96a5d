-- From the sorted records to the graph of what is reached.
use Rattle.std.proofs.Common.{◌≡◌, ◌≢◌, ℕ, ◌+◌, ◌<◌, List, length, map, Option, Some, sym, ap, ◌∙◌, subst, arith}
use Rattle.std.specs.Prelude.{ℤ, Contains}
use Rattle.std.specs.Coded.{Coded-set, coded_list, coded_ℤ, coded_option}
use Rattle.std.specs.declared.cmp.Ordering.{Ordering}
use Rattle.std.specs.declared.cmp.Ordering.TheVariants.{Less, Equal, Greater}
use Rattle.std.specs.Ordering.{ordering_reverse}
use Rattle.std.specs.Cmp.{IsTotalOrder}
use Rattle.std.specs.List.Sorted.{IsPermutation}
use Rattle.std.proofs.lemmas.List.{length-map}
use mathlib.Core.HLevel.{Σ_prop_path}
use Rattle.terrain.specs.declared.graph.Lead.{Lead}
use Rattle.terrain.specs.Places.{IsAt}
use Rattle.terrain.specs.Reach.{LeadsTo, IsReached}
use Rattle.terrain.specs.Graphs.{IsAscending, IsGraph}
use Rattle.terrain.proofs.CallerLemmas.{at_within, at_one, read, at_map, map_at, reached_least}
use Rattle.explore_core.specs.Books.{Slot, Row, keys_of}
use Rattle.class_shards.specs.Agreement.{AreFilled}
use Rattle.explore_shared.specs.Gathered.{AreGathered}
use Rattle.explore_shared.specs.Ranks.{Finds, AreLeadsOf}
use Rattle.explore_shared.proofs.Appended.{contains_at, at_contained}
use Rattle.explore_shared.proofs.Apart.{was_there, permuted_apart}
use Rattle.explore_shared.proofs.Ranked.{IsNumbered, numbered_apart, finds}

module _ {A L : Type 0} (number : A → ℕ) (key : A → List ℤ) (slots : A → List (Option (Slot L))) where
  -- the row that a record shows
  abbrev pub row : A → Row L
  row a = record { key = key a; slots = slots a }

  pub key_shown : (xs : List A) (i : ℕ) (k : List ℤ) → IsAt (keys_of (map row xs)) i k → IsAt (map key xs) i k
  key_shown xs i k at =
      let r = map_at (λ (x : Row L). x.key) (map row xs) i k at in
      let a = map_at row xs i r.0 r.1 in
      at_map key xs i a.0 a.1 ∙ ap Some (ap (λ (x : Row L). x.key) a.2 ∙ r.2)

  -- slots stay filled in whichever order
  pub filled_sorted : (before after : List A) → IsPermutation before after → AreFilled (map row before) → AreFilled (map row after)
  filled_sorted before after same filled i w r at within =
      let a = map_at row after i r at in
      let m = was_there before after i a.0 same a.1 in
      filled m.0 w r (at_map row before m.0 a.0 m.1 ∙ ap Some a.2) within

  -- each key of each log is found among the sorted keys
  pub found : (Walls : List ℤ → ℕ → Type 0) (Leads : List ℤ → ℕ → List ℤ → L → Type 0) (shard_of : List ℤ → ℕ) (root : List ℤ) (count : ℕ) (before after : List A) (logs : List (List (List ℤ))) (starts ranks : List ℕ) → AreGathered Walls Leads shard_of root count (map row before) logs starts → IsPermutation before after → IsNumbered number before → ((i : ℕ) (x : A) → IsAt after i x → (j : ℕ) × (y : A) × IsAt ranks (number x) j × IsAt after j y × (number y ≡ number x)) → Finds logs starts ranks (map key after)
  found Walls Leads shard_of root count before after logs starts ranks g same numbered ranked = finds number key before after logs starts ranks same numbered ranked (g.many_starts ∙ sym g.many_logs) (λ q start p keys k a b c. key_shown before (start + p) k (g.numbers q start p keys k a b c))

  module _ (order : List ℤ → List ℤ → Ordering) (total : IsTotalOrder order) (exact : (x y : List ℤ) → order x y ≡ Equal → x ≡ y) (Walls : List ℤ → ℕ → Type 0) (Leads : List ℤ → ℕ → List ℤ → L → Type 0) (one_walls : (k : List ℤ) (n m : ℕ) → Walls k n → Walls k m → n ≡ m) (one_lead : (k : List ℤ) (w : ℕ) (d e : List ℤ) (g h : L) → Leads k w d g → Leads k w e h → (d ≡ e) × (g ≡ h)) (shard_of : List ℤ → ℕ) (root : List ℤ) (count : ℕ) (before after : List A) (logs : List (List (List ℤ))) (starts : List ℕ) (g : AreGathered Walls Leads shard_of root count (map row before) logs starts) (same : IsPermutation before after) (numbered : IsNumbered number before) (sorted : (i j : ℕ) (x y : A) → i < j → IsAt after i x → IsAt after j y → order (key y) (key x) ≢ Less) (lists : List (List (Lead L))) (long : length lists ≡ length after) (each : (i : ℕ) (a : A) (v : List (Lead L)) → IsAt after i a → IsAt lists i v → AreLeadsOf (map key after) (slots a) v) where
    was : (i : ℕ) (a : A) → IsAt after i a → (m : ℕ) × IsAt (map row before) m (row a)
    was i a at = let m = was_there before after i a same at in (m.0, at_map row before m.0 a m.1)

    -- each key is there once
    key_once : (i j : ℕ) (a b : A) → IsAt after i a → IsAt after j b → key a ≡ key b → i ≡ j
    key_once i j a b at at' e =
        let m = was_there before after i a same at in
        let n = was_there before after j b same at' in
        let s = g.apart m.0 n.0 (row a) (row b) (at_map row before m.0 a m.1) (at_map row before n.0 b n.1) e in
        let x : a ≡ b = at_one before n.0 a b (subst (λ (p : ℕ). IsAt before p a) s m.1) n.1 in
        permuted_apart number before after same (numbered_apart number before numbered) i j a b at at' (ap number x)

    ascending : IsAscending order (map key after)
    ascending i j x y less at at' =
        let a = map_at key after i x at in
        let b = map_at key after j y at' in
        subst (λ (u : List ℤ). order u y ≡ Less) a.2 (subst (λ (u : List ℤ). order (key a.0) u ≡ Less) b.2 (decide a.0 b.0 a.1 b.1 (order (key a.0) (key b.0)) (λ i. order (key a.0) (key b.0))))
      where
        decide : (a b : A) → IsAt after i a → IsAt after j b → (o : Ordering) → order (key a) (key b) ≡ o → order (key a) (key b) ≡ Less
        decide a b p q Less e = e
        decide a b p q Equal e = absurd (let s = key_once i j a b p q (exact (key a) (key b) e) in omega arith)
        decide a b p q Greater e = absurd (sorted i j a b less p q (total.antisymm (key b) (key a) ∙ ap ordering_reverse e))

    -- the lead of a key's wall, and the place of its target
    lead_at : (i : ℕ) (k : List ℤ) (v : List (Lead L)) (w : ℕ) (l : Lead L) → IsAt (map key after) i k → IsAt lists i v → IsAt v w l → (d : List ℤ) × IsAt (map key after) l.to d × Leads k w d l.link
    lead_at i k v w l at there lat =
        let a = map_at key after i k at in
        let m = was i a.0 a.1 in
        let s = (each i a.0 v a.1 there).1 w l lat in
        (s.0.target, s.2, subst (Leads k w s.0.target) (sym s.3) (subst (λ (x : List ℤ). Leads x w s.0.target s.0.link) a.2 (g.leads m.0 w (row a.0) s.0 m.1 s.1)))

    lead_each : (i : ℕ) (k : List ℤ) (v : List (Lead L)) → IsAt (map key after) i k → IsAt lists i v → Walls k (length v)
    lead_each i k v at there =
        let a = map_at key after i k at in
        let m = was i a.0 a.1 in
        subst (Walls k) (sym (each i a.0 v a.1 there).0) (subst (λ (x : List ℤ). Walls x (length (slots a.0))) a.2 (g.walls m.0 (row a.0) m.1))

    -- where a key stands
    abbrev Stands : List ℤ → Type 0
    Stands k = (i : ℕ) × IsAt (map key after) i k

    stands_once : (k : List ℤ) (a b : Stands k) → a ≡ b
    stands_once k a b = Σ_prop_path (λ (i : ℕ). Coded-set (coded_option (coded_list coded_ℤ)) _ _) (let x = map_at key after a.0 k a.1 in let y = map_at key after b.0 k b.1 in key_once a.0 b.0 x.0 y.0 x.1 y.1 (x.2 ∙ sym y.2))

    stands_on : (k d : List ℤ) → Stands k → LeadsTo Walls Leads k d → Stands d
    stands_on k d p step =
        let v = read lists p.0 (let w = at_within (map key after) p.0 k p.1 in let l = length-map after key in omega arith) in
        let many = one_walls k step.walls (length v.0) step.has (lead_each p.0 k v.0 p.1 v.1) in
        let l = read v.0 step.wall (let w = step.within in omega arith) in
        let t = lead_at p.0 k v.0 step.wall l.0 p.1 v.1 l.1 in
        (l.0.to, subst (IsAt (map key after) l.0.to) (one_lead k step.wall t.0 d l.0.link step.link t.2 step.leads).0 t.1)

    pub graph_is : (place : ℕ) → IsAt (map key after) place root → IsGraph order Walls Leads root (map key after) lists place
    graph_is place at_root = record {
      reached = λ k. (
        (λ (c : Contains (map key after) k). let i = at_contained (map key after) k c in let a = map_at key after i.0 k i.1 in let m = was i.0 a.0 a.1 in subst (IsReached Walls Leads root) a.2 (g.reached m.0 (row a.0) m.1)),
        (λ (r : IsReached Walls Leads root k). let s = reached_least Walls Leads root Stands stands_once (place, at_root) stands_on k r in contains_at (map key after) s.0 k s.1),
      );
      ascending = ascending;
      row_each = long ∙ sym (length-map after key);
      lead_each = lead_each;
      leads = λ i w k v l at there lat. lead_at i k v w l at there lat;
      root_at = at_root;
    }
