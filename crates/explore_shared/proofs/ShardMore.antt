-- The records of one shard more.
use Rattle.std.proofs.Common.{◌≡◌, ℕ, ◌+◌, ◌<◌, List, [], ◌∷◌, ◌++◌, length, sym, ap, ◌∙◌, subst, arith, ⊎_elim}
use Rattle.std.specs.Prelude.{ℤ}
use Rattle.std.specs.Coded.{Coded-set, coded_ℕ, coded_list, coded_ℤ, coded_option, le_prop}
use Rattle.std.proofs.lemmas.List.{length-append, length-map, map-append}
use mathlib.Core.Logic.{∥∥₁_elim, ∥∥₁_map, ∥∥₁_prop}
use Rattle.terrain.specs.Places.{IsAt}
use Rattle.terrain.specs.Causes.{MoreAreReached}
use Rattle.terrain.specs.Reach.{IsReached, AreReachedOnce}
use Rattle.terrain.proofs.CallerLemmas.{at_within, at_snoc, map_at}
use Rattle.explore_core.specs.Books.{Row, keys_of}
use Rattle.class_shards.specs.Agreement.{IsShard, AreFilled}
use Rattle.explore_shared.specs.Gathered.{AreGathered}
use Rattle.explore_shared.proofs.Appended.{left_at, right_at, at_append}

pub filled_more : {L : Type 0} (rows new : List (Row L)) → AreFilled rows → AreFilled new → AreFilled (rows ++ new)
filled_more rows new f g i w r at within = ⊎_elim
    (λ (h : IsAt rows i r). f i w r h within)
    (λ (h : (m : ℕ) × (i ≡ length rows + m) × IsAt new m r). g h.0 w r h.2 within)
    (at_append rows new i r at)

module _ {L : Type 0} (Walls : List ℤ → ℕ → Type 0) (Leads : List ℤ → ℕ → List ℤ → L → Type 0) (shard_of : List ℤ → ℕ) (root : List ℤ) where
  pub gathered_none : AreGathered Walls Leads shard_of root 0 [] [] []
  gathered_none = record {
    belong = λ i r at. cc;
    apart = λ i j r s at at' same. cc;
    reached = λ i r at. cc;
    walls = λ i r at. cc;
    leads = λ i w r s at full. cc;
    many_logs = λ i. 0;
    many_starts = λ i. 0;
    numbers = λ q start p keys k a b c. cc;
  }

  pub gathered_more : (count : ℕ) (rows new : List (Row L)) (logs : List (List (List ℤ))) (starts : List ℕ) → AreGathered Walls Leads shard_of root count rows logs starts → IsShard Walls Leads shard_of root count new → AreGathered Walls Leads shard_of root (count + 1) (rows ++ new) (logs ++ keys_of new ∷ []) (starts ++ length rows ∷ [])
  gathered_more count rows new logs starts g s = record {
    belong = λ i r at. ⊎_elim
        (λ (h : IsAt rows i r). let b = g.belong i r h in omega arith)
        (λ (h : Right i r). let b = s.belong h.0 r h.2 in omega arith)
        (at_append rows new i r at);
    apart = λ i j r q at at' same. ⊎_elim
        (λ (h : IsAt rows i r). ⊎_elim
        (λ (k : IsAt rows j q). g.apart i j r q h k same)
        (λ (k : Right j q). absurd (let b = g.belong i r h in let d = s.belong k.0 q k.2 in let e = ap shard_of same in omega arith))
        (at_append rows new j q at'))
        (λ (h : Right i r). ⊎_elim
        (λ (k : IsAt rows j q). absurd (let b = g.belong j q k in let d = s.belong h.0 r h.2 in let e = ap shard_of same in omega arith))
        (λ (k : Right j q). let e = s.apart h.0 k.0 r q h.2 k.2 same in let a = h.1 in let b = k.1 in omega arith)
        (at_append rows new j q at'))
        (at_append rows new i r at);
    reached = λ i r at. ⊎_elim (λ (h : IsAt rows i r). g.reached i r h) (λ (h : Right i r). s.reached h.0 r h.2) (at_append rows new i r at);
    walls = λ i r at. ⊎_elim (λ (h : IsAt rows i r). g.walls i r h) (λ (h : Right i r). s.walls h.0 r h.2) (at_append rows new i r at);
    leads = λ i w r f at full. ⊎_elim (λ (h : IsAt rows i r). g.leads i w r f h full) (λ (h : Right i r). s.leads h.0 w r f h.2 full) (at_append rows new i r at);
    many_logs = (let l = length-append logs (keys_of new ∷ []) in let m = g.many_logs in omega arith);
    many_starts = (let l = length-append starts (length rows ∷ []) in let m = g.many_starts in omega arith);
    numbers = λ q start p keys k a b c. ⊎_elim
        (λ (u : IsAt starts q start). ⊎_elim
        (λ (v : IsAt logs q keys). subst (λ (l : List (List ℤ)). IsAt l (start + p) k) (sym both_keys) (left_at (keys_of rows) (keys_of new) (start + p) k (g.numbers q start p keys k u v c)))
        (λ (v : (q ≡ length logs) × (keys_of new ≡ keys)). absurd (let w = at_within starts q start u in let m = g.many_logs in let n = g.many_starts in let e = v.0 in omega arith))
        (at_snoc logs q (keys_of new) keys b))
        (λ (u : (q ≡ length starts) × (length rows ≡ start)). ⊎_elim
        (λ (v : IsAt logs q keys). absurd (let w = at_within logs q keys v in let m = g.many_logs in let n = g.many_starts in let e = u.0 in omega arith))
        (λ (v : (q ≡ length logs) × (keys_of new ≡ keys)). subst (λ (l : List (List ℤ)). IsAt l (start + p) k) (sym both_keys) (right_at (keys_of rows) (keys_of new) p (start + p) k (let l = length-map rows (λ (r : Row L). r.key) in let e = u.1 in omega arith) (subst (λ (l : List (List ℤ)). IsAt l p k) (sym v.1) c)))
        (at_snoc logs q (keys_of new) keys b))
        (at_snoc starts q (length rows) start a);
  }
    where
      Right : ℕ → Row L → Type 0
      Right i r = (m : ℕ) × (i ≡ length rows + m) × IsAt new m r

      both_keys : keys_of (rows ++ new) ≡ keys_of rows ++ keys_of new
      both_keys = map-append (λ (r : Row L). r.key) rows new

  -- the same where it is only known that they are so
  pub merely_more : (count : ℕ) (rows new : List (Row L)) (logs : List (List (List ℤ))) (starts : List ℕ) → ∥ AreGathered Walls Leads shard_of root count rows logs starts ∥₁ → ∥ IsShard Walls Leads shard_of root count new ∥₁ → ∥ AreGathered Walls Leads shard_of root (count + 1) (rows ++ new) (logs ++ keys_of new ∷ []) (starts ++ length rows ∷ []) ∥₁
  merely_more count rows new logs starts gathered shard = ∥∥₁_elim gathered ∥∥₁_prop (λ (g : AreGathered Walls Leads shard_of root count rows logs starts). ∥∥₁_map shard (λ (s : IsShard Walls Leads shard_of root count new). gathered_more count rows new logs starts g s))

  pub merely_put : (count count' : ℕ) (rows rows' new : List (Row L)) (logs logs' : List (List (List ℤ))) (starts starts' : List ℕ) → count' ≡ count + 1 → rows' ≡ rows ++ new → logs' ≡ logs ++ keys_of new ∷ [] → starts' ≡ starts ++ length rows ∷ [] → ∥ AreGathered Walls Leads shard_of root count rows logs starts ∥₁ → ∥ IsShard Walls Leads shard_of root count new ∥₁ → ∥ AreGathered Walls Leads shard_of root count' rows' logs' starts' ∥₁
  merely_put count count' rows rows' new logs logs' starts starts' a b c d gathered shard = subst (λ (x : ℕ × List (Row L) × List (List (List ℤ)) × List ℕ). ∥ AreGathered Walls Leads shard_of root x.0 x.1 x.2 x.3 ∥₁) (λ i. (sym a i, sym b i, sym c i, sym d i)) (merely_more count rows new logs starts gathered shard)

  -- the keys are reached, each once
  pub reached_once : (count : ℕ) (rows : List (Row L)) (logs : List (List (List ℤ))) (starts : List ℕ) → ∥ AreGathered Walls Leads shard_of root count rows logs starts ∥₁ → AreReachedOnce Walls Leads root (keys_of rows)
  reached_once count rows logs starts gathered = record {
    once = λ i j k at at'. let a = map_at (λ (r : Row L). r.key) rows i k at in let b = map_at (λ (r : Row L). r.key) rows j k at' in ∥∥₁_elim gathered (Coded-set coded_ℕ i j) (λ (g : AreGathered Walls Leads shard_of root count rows logs starts). g.apart i j a.0 b.0 a.1 b.1 (a.2 ∙ sym b.2));
    reached = λ i k at. let a = map_at (λ (r : Row L). r.key) rows i k at in ∥∥₁_elim gathered ∥∥₁_prop (λ (g : AreGathered Walls Leads shard_of root count rows logs starts). subst (IsReached Walls Leads root) a.2 (g.reached i a.0 a.1));
  }

  -- with one shard more there are more than the limit
  pub more_reached : (count limit : ℕ) (rows new : List (Row L)) (logs : List (List (List ℤ))) (starts : List ℕ) → ∥ AreGathered Walls Leads shard_of root count rows logs starts ∥₁ → ∥ IsShard Walls Leads shard_of root count new ∥₁ → limit < length rows + length new → MoreAreReached Walls Leads root limit
  more_reached count limit rows new logs starts gathered shard many = (
    keys_of (rows ++ new),
    (let a = length-append rows new in let l = length-map (rows ++ new) (λ (r : Row L). r.key) in omega arith),
    reached_once (count + 1) (rows ++ new) (logs ++ keys_of new ∷ []) (starts ++ length rows ∷ []) (merely_more count rows new logs starts gathered shard),
  )

  -- what is gathered, fact by fact, out of the fact that it is so
  pub gathered_of : ((k : List ℤ) (n : ℕ) (a b : Walls k n) → a ≡ b) → ((k : List ℤ) (w : ℕ) (d : List ℤ) (g : L) (a b : Leads k w d g) → a ≡ b) → (count : ℕ) (rows : List (Row L)) (logs : List (List (List ℤ))) (starts : List ℕ) → ∥ AreGathered Walls Leads shard_of root count rows logs starts ∥₁ → AreGathered Walls Leads shard_of root count rows logs starts
  gathered_of walls_once leads_once count rows logs starts gathered = record {
    belong = λ i r at. ∥∥₁_elim gathered le_prop (λ (g : It). g.belong i r at);
    apart = λ i j r s at at' same. ∥∥₁_elim gathered (Coded-set coded_ℕ i j) (λ (g : It). g.apart i j r s at at' same);
    reached = λ i r at. ∥∥₁_elim gathered ∥∥₁_prop (λ (g : It). g.reached i r at);
    walls = λ i r at. ∥∥₁_elim gathered (walls_once r.key (length r.slots)) (λ (g : It). g.walls i r at);
    leads = λ i w r s at full. ∥∥₁_elim gathered (leads_once r.key w s.target s.link) (λ (g : It). g.leads i w r s at full);
    many_logs = ∥∥₁_elim gathered (Coded-set coded_ℕ (length logs) count) (λ (g : It). g.many_logs);
    many_starts = ∥∥₁_elim gathered (Coded-set coded_ℕ (length starts) count) (λ (g : It). g.many_starts);
    numbers = λ q start p keys k a b c. ∥∥₁_elim gathered (Coded-set (coded_option (coded_list coded_ℤ)) _ _) (λ (g : It). g.numbers q start p keys k a b c);
  }
    where
      It : Type 0
      It = AreGathered Walls Leads shard_of root count rows logs starts
