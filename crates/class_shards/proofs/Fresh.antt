-- The last of the entries that a keeper made just now.
use Rattle.std.proofs.Common.{◌≡◌, ℕ, zero, suc, ◌+◌, List, [], ◌∷◌, ◌++◌, Some, refl, sym, ap, ◌∙◌, subst, arith}
use Rattle.std.specs.Prelude.{ℤ}
use Rattle.walls_out.specs.declared.entry.Entry.{Entry}
use Rattle.walls_out.specs.declared.entry.Entry.TheVariants.{Wall}
use Rattle.walls_out.specs.Views.{fresh, front_of, last_of}
use Rattle.class_shards.specs.Entries.{IsSlot, index_in}

fresh_push : (b m n : ℕ) → fresh (Some b) m (suc n) ≡ fresh (Some b) m n ++ Wall b (m + n) ∷ []
fresh_push b m zero = ap (λ k. Wall b k ∷ []) (let e : m ≡ m + 0 = omega arith in e)
fresh_push b m (suc n) = ap (λ xs. Wall b m ∷ xs) (fresh_push b (suc m) n ∙ ap (λ k. fresh (Some b) (suc m) n ++ Wall b k ∷ []) (let e : suc m + n ≡ m + suc n = omega arith in e))

front_push : (xs : List Entry) (x : Entry) → front_of (xs ++ x ∷ []) ≡ xs
front_push [] x = refl
front_push (y ∷ []) x = refl
front_push (y ∷ z ∷ zs) x = ap (λ xs. y ∷ xs) (front_push (z ∷ zs) x)

last_push : (xs : List Entry) (x : Entry) → last_of (xs ++ x ∷ []) ≡ x ∷ []
last_push [] x = refl
last_push (y ∷ []) x = refl
last_push (y ∷ z ∷ zs) x = last_push (z ∷ zs) x

pub front_fresh : (xs : List Entry) (e : Entry) (b m n n' : ℕ) → n' ≡ suc n → xs ≡ e ∷ fresh (Some b) m n' → front_of xs ≡ e ∷ fresh (Some b) m n
front_fresh xs e b m n n' s is = ap front_of (is ∙ ap (λ k. e ∷ fresh (Some b) m k) s ∙ ap (λ ys. e ∷ ys) (fresh_push b m n)) ∙ front_push (e ∷ fresh (Some b) m n) (Wall b (m + n))

pub last_fresh : (xs : List Entry) (e : Entry) (b m n n' : ℕ) → n' ≡ suc n → xs ≡ e ∷ fresh (Some b) m n' → last_of xs ≡ Wall b (m + n) ∷ []
last_fresh xs e b m n n' s is = ap last_of (is ∙ ap (λ k. e ∷ fresh (Some b) m k) s ∙ ap (λ ys. e ∷ ys) (fresh_push b m n)) ∙ last_push (e ∷ fresh (Some b) m n) (Wall b (m + n))

pub one_wall_owed : (xs : List Entry) (b i b' : ℕ) → xs ≡ Wall b i ∷ [] → b' ≡ b → xs ≡ Wall b' (index_in xs) ∷ []
one_wall_owed xs b i b' is e = is ∙ (λ j. Wall (sym e j) (sym (ap index_in is) j) ∷ [])

pub slot_as : (Walls : List ℤ → ℕ → Type 0) (k k' : List ℤ) (keys keys' : List (List ℤ)) (place wall index index' : ℕ) → k' ≡ k → keys' ≡ keys → index' ≡ index → ∥ IsSlot Walls k keys place wall index ∥₁ → ∥ IsSlot Walls k' keys' place wall index' ∥₁
slot_as Walls k k' keys keys' place wall index index' a b c s = subst (λ (x : List ℤ × List (List ℤ) × ℕ). ∥ IsSlot Walls x.0 x.1 place wall x.2 ∥₁) (λ i. (sym a i, sym b i, sym c i)) s
