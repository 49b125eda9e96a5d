-- The frontier while slots are filled.
use Rattle.std.proofs.Common.{◌≡◌, ℕ, zero, suc, ◌+◌, ◌<◌, List, [], ◌∷◌, ◌++◌, length, drop, Option, Some, None, refl, sym, ap, ◌∙◌, subst, arith, ⊎_elim}
use Rattle.std.specs.Prelude.{ℤ}
use Rattle.std.specs.Option.{option_to_list}
use Rattle.std.proofs.lemmas.List.{length-append, append-nil}
use Rattle.terrain.specs.Places.{IsAt}
use Rattle.terrain.proofs.CallerLemmas.{at_one, at_within, at_snoc, snoc_left, snoc_end, read}
use Rattle.explore_core.specs.Places.{AreWallsOfAdded}
use Rattle.explore_one.specs.Frontiers.{AreWallsFrom}

module _ {W : Type 0} (Found : List ℤ → W → Type 0) where
  -- the root alone
  pub from_root : (root : List ℤ) (keys : List (List ℤ)) (walls : List W) (w : W) → keys ≡ root ∷ [] → walls ≡ w ∷ [] → Found root w → AreWallsFrom Found keys 0 walls
  from_root root keys walls w same only found = subst (λ (x : List (List ℤ) × List W). AreWallsFrom Found x.0 0 x.1) (λ i. (sym same i, sym only i)) (record { count = refl; each = one })
    where
      one : (i : ℕ) (k : List ℤ) (v : W) → IsAt (root ∷ []) (0 + i) k → IsAt (w ∷ []) i v → Found k v
      one zero k v at at' = let a : root ≡ k = cc in let b : w ≡ v = cc in subst (λ (x : List ℤ × W). Found x.0 x.1) (λ i. (a i, b i)) found
      one (suc i) k v at at' = cc

  module _ (keys : List (List ℤ)) (place : ℕ) where
    -- the first walls of the frontier are those of the key at the place
    pub first_walls : (walls rest : List W) (w : W) → walls ≡ w ∷ rest → AreWallsFrom Found keys place walls → (k : List ℤ) × IsAt keys place k × Found k w
    first_walls walls rest w same from =
        let within : place < length keys = (let c = from.count in let l = ap length same in omega arith) in
        let k = read keys place within in
        (k.0, k.1, from.each 0 k.0 w (subst (λ j. IsAt keys j k.0) (let e : place ≡ place + 0 = omega arith in e) k.1) (subst (λ (l : List W). IsAt l 0 w) (sym same) refl))

    -- and the rest are those of the later keys
    pub later_walls : (walls rest : List W) (w : W) → walls ≡ w ∷ rest → AreWallsFrom Found keys place walls → AreWallsFrom Found keys (place + 1) rest
    later_walls walls rest w same from = record {
      count = (let c = from.count in let l = ap length same in omega arith);
      each = λ i k v at at'. from.each (suc i) k v (subst (λ j. IsAt keys j k) (let e : place + 1 + i ≡ place + suc i = omega arith in e) at) (subst (λ (l : List W). IsAt l (suc i) v) (sym same) at');
    }

    -- no key is left where the frontier is empty
    pub none_later : (walls : List W) → walls ≡ drop 1 walls → AreWallsFrom Found keys place walls → place ≡ length keys
    none_later walls same from = let c = from.count in let l = none walls same in omega arith
      where
        none : (xs : List W) → xs ≡ drop 1 xs → length xs ≡ 0
        none [] e = refl
        none (x ∷ xs) e = let h : suc (length xs) ≡ length xs = ap length e in absurd (omega arith)

    -- the walls of an added key come last
    pub walls_more : (after : List (List ℤ)) (walls walls' : List W) (added : Option W) → walls' ≡ walls ++ option_to_list added → AreWallsOfAdded Found keys after added → AreWallsFrom Found keys place walls → AreWallsFrom Found after place walls'
    walls_more after walls walls' None is same from = subst (λ (x : List (List ℤ) × List W). AreWallsFrom Found x.0 place x.1) (λ i. (sym same i, sym (is ∙ append-nil walls) i)) from
    walls_more after walls walls' (Some w) is added from = subst (λ (x : List (List ℤ) × List W). AreWallsFrom Found x.0 place x.1) (λ i. (sym added.1 i, sym is i)) (record {
      count = (let c = from.count in let a = length-append keys (added.0 ∷ []) in let b = length-append walls (w ∷ []) in omega arith);
      each = λ i k v at at'. ⊎_elim
          (λ (was : IsAt walls i v). from.each i k v (old_key i k v was at) was)
          (λ (new : (i ≡ length walls) × (w ≡ v)). subst (λ (x : List ℤ × W). Found x.0 x.1) (λ j. (new_key i k new.0 at j, new.1 j)) added.2)
          (at_snoc walls i w v at');
    })
      where
        old_key : (i : ℕ) (k : List ℤ) (v : W) → IsAt walls i v → IsAt (keys ++ added.0 ∷ []) (place + i) k → IsAt keys (place + i) k
        old_key i k v was at = ⊎_elim (λ (h : IsAt keys (place + i) k). h) (λ (h : (place + i ≡ length keys) × (added.0 ≡ k)). absurd (let l = at_within walls i v was in let c = from.count in let e = h.0 in omega arith)) (at_snoc keys (place + i) added.0 k at)

        new_key : (i : ℕ) (k : List ℤ) → i ≡ length walls → IsAt (keys ++ added.0 ∷ []) (place + i) k → added.0 ≡ k
        new_key i k last at = at_one (keys ++ added.0 ∷ []) (length keys) added.0 k (snoc_end keys added.0) (subst (λ j. IsAt (keys ++ added.0 ∷ []) j k) (let e : place + i ≡ length keys = (let c = from.count in omega arith) in e) at)

  -- a key stays where one is added
  pub key_stays : (keys after : List (List ℤ)) (added : Option W) (place : ℕ) (k : List ℤ) → AreWallsOfAdded Found keys after added → IsAt keys place k → IsAt after place k
  key_stays keys after None place k same at = subst (λ (l : List (List ℤ)). IsAt l place k) (sym same) at
  key_stays keys after (Some w) place k added at = subst (λ (l : List (List ℤ)). IsAt l place k) (sym added.1) (snoc_left keys place added.0 k at)
