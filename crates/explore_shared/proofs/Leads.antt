-- Leads that are written one by one.
use Rattle.std.proofs.Common.{◌≡◌, ℕ, zero, suc, ◌<◌, List, [], ◌∷◌, ◌++◌, length, map, set, get_or, Option, Some, None, refl, sym, ap, ◌∙◌, subst, arith, ⊎_elim}
use Rattle.std.specs.Prelude.{ℤ, option_map}
use Rattle.std.proofs.lemmas.List.{length-append}
use Rattle.std.proofs.lemmas.Option.{slice_get_read}
use Rattle.terrain.specs.declared.graph.Lead.{Lead}
use Rattle.terrain.specs.Places.{IsAt}
use Rattle.terrain.proofs.CallerLemmas.{at_within, at_snoc, snoc_left, snoc_end, map_at, at_one}
use Rattle.explore_core.specs.Books.{Slot}
use Rattle.explore_shared.specs.Ranks.{Finds, AreLeadsOf}

-- one lead more
pub leads_push : {L : Type 0} (keys : List (List ℤ)) (slots : List (Option (Slot L))) (leads : List (Lead L)) (s : Slot L) (l : Lead L) → AreLeadsOf keys slots leads → IsAt keys l.to s.target → l.link ≡ s.link → AreLeadsOf keys (slots ++ Some s ∷ []) (leads ++ l ∷ [])
leads_push {L} keys slots leads s l are at link = (
  (let e = are.0 in let a = length-append slots (Some s ∷ []) in let b = length-append leads (l ∷ []) in omega arith),
  λ w x there. ⊎_elim
      (λ (h : IsAt leads w x). let r = are.1 w x h in (r.0, snoc_left slots w (Some s) (Some r.0) r.1, r.2, r.3))
      (λ (p : (w ≡ length leads) × (l ≡ x)). (
        s,
        subst (λ (n : ℕ). IsAt (slots ++ Some s ∷ []) n (Some s)) (sym are.0 ∙ sym p.0) (snoc_end slots (Some s)),
        subst (λ (z : Lead L). IsAt keys z.to s.target) p.1 at,
        ap (λ (z : Lead L). z.link) (sym p.1) ∙ link,
      ))
      (at_snoc leads w l x there),
)

module _ {A B : Type 0} (P : A → B → Type 0) where
  -- what holds of each pair holds with one pair more
  pub each_push : (xs : List A) (ys : List B) (x : A) (y : B) → length xs ≡ length ys → ((i : ℕ) (a : A) (b : B) → IsAt xs i a → IsAt ys i b → P a b) → P x y → (i : ℕ) (a : A) (b : B) → IsAt (xs ++ x ∷ []) i a → IsAt (ys ++ y ∷ []) i b → P a b
  each_push xs ys x y long each last i a b at at' = ⊎_elim
      (λ (h : IsAt xs i a). ⊎_elim
      (λ (k : IsAt ys i b). each i a b h k)
      (λ (k : (i ≡ length ys) × (y ≡ b)). absurd (let w = at_within xs i a h in let e = k.0 in omega arith))
      (at_snoc ys i y b at'))
      (λ (h : (i ≡ length xs) × (x ≡ a)). ⊎_elim
      (λ (k : IsAt ys i b). absurd (let w = at_within ys i b k in let e = h.0 in omega arith))
      (λ (k : (i ≡ length ys) × (y ≡ b)). subst (λ (v : B). P a v) k.1 (subst (λ (u : A). P u y) h.1 last))
      (at_snoc ys i y b at'))
      (at_snoc xs i x a at)

-- what stands at a place of a filled row is filled
pub is_filled : {A L : Type 0} (show : A → Slot L) (slots : List (Option A)) (w : ℕ) (o : Option A) (s : Slot L) → IsAt slots w o → IsAt (map (option_map show) slots) w (Some s) → o ≡ None → ⊥
is_filled show slots w o s at there none =
    let a = map_at (option_map show) slots w (Some s) there in
    let e : a.0 ≡ o = at_one slots w a.0 o a.1 at in
    let f : option_map show None ≡ Some s = ap (option_map show) (sym none) ∙ ap (option_map show) (sym e) ∙ a.2 in
    cc

-- what a loop is given stands at the place to which it has come
pub at_turn : {A : Type 0} (xs : List A) (n : ℕ) (x : A) → (n < length xs) × (x ≡ get_or xs n x) → IsAt xs n x
at_turn xs n x h = slice_get_read xs (length xs) n x refl h.0 h.1

-- an element that is put in place of one with the same image leaves the images
pub map_set_same : {A B : Type 0} (f : A → B) (xs : List A) (k : ℕ) (r s : A) → IsAt xs k r → f s ≡ f r → map f (set xs k s) ≡ map f xs
map_set_same f [] k r s at e = refl
map_set_same f (x ∷ xs) zero r s at e = let q : x ≡ r = cc in ap (λ y. y ∷ map f xs) (e ∙ ap f (sym q))
map_set_same f (x ∷ xs) (suc k) r s at e = ap (λ l. f x ∷ l) (map_set_same f xs k r s at e)

-- the same logs, starts and ranks find the same keys
pub finds_same : (logs logs' : List (List (List ℤ))) (starts starts' ranks ranks' : List ℕ) (keys : List (List ℤ)) → logs' ≡ logs → starts' ≡ starts → ranks' ≡ ranks → Finds logs starts ranks keys → Finds logs' starts' ranks' keys
finds_same logs logs' starts starts' ranks ranks' keys a b c finds = subst (λ (l : List (List (List ℤ))). Finds l starts' ranks' keys) (sym a) (subst (λ (l : List ℕ). Finds logs l ranks' keys) (sym b) (subst (λ (l : List ℕ). Finds logs starts l keys) (sym c) finds))
