-- Elements of which something holds, each.
use Rattle.std.proofs.Common.{◌≡◌, ℕ, zero, suc, ◌<◌, List, [], ◌∷◌, length, drop, refl, subst, arith, slice_index_or}
use Rattle.std.specs.Prelude.{true}
use Rattle.std.specs.Bool.{◌==◌}
use Rattle.std.specs.Ordering.{ordering_index}
use Rattle.std.specs.declared.cmp.Ordering.{Ordering}
use Rattle.std.specs.declared.cmp.Ordering.TheVariants.{Less, Equal, Greater}
use Rattle.terrain.specs.Places.{IsAt}

module _ {A : Type 0} where
  -- one more is dropped
  pub drop_one : (n : ℕ) (xs : List A) → drop 1 (drop n xs) ≡ drop (suc n) xs
  drop_one zero xs = refl
  drop_one (suc n) [] = refl
  drop_one (suc n) (x ∷ xs) = drop_one n xs

  -- the element at a place is the first once those before it are dropped
  pub at_drop : (n : ℕ) (xs : List A) (x : A) → IsAt xs n x → IsAt (drop n xs) 0 x
  at_drop zero xs x at = at
  at_drop (suc n) [] x at = cc
  at_drop (suc n) (y ∷ xs) x at = at_drop n xs x at

  -- what is read at a place stands there
  pub at_read : (xs : List A) (i : ℕ) (x : A) → i < length xs → x ≡ slice_index_or xs i x → IsAt xs i x
  at_read [] i x within same = absurd (omega arith)
  at_read (y ∷ xs) zero x within same = cc
  at_read (y ∷ xs) (suc i) x within same = at_read xs i x (omega arith) same

  module _ (P : A → Type 0) where
    -- one more in front
    pub each_front : (xs : List A) (x : A) → P x → ((i : ℕ) (y : A) → IsAt xs i y → P y) → (i : ℕ) (y : A) → IsAt (x ∷ xs) i y → P y
    each_front xs x now each zero y at = let e : x ≡ y = cc in subst P e now
    each_front xs x now each (suc i) y at = each i y at

    -- fewer
    pub each_dropped : (n : ℕ) (xs : List A) → ((i : ℕ) (y : A) → IsAt xs i y → P y) → (i : ℕ) (y : A) → IsAt (drop n xs) i y → P y
    each_dropped zero xs each i y at = each i y at
    each_dropped (suc n) [] each i y at = each i y at
    each_dropped (suc n) (x ∷ xs) each i y at = each_dropped n xs (λ j z there. each (suc j) z there) i y at

-- a comparison that is equal
pub is_equal : (o : Ordering) → true ≡ (ordering_index o == 1) → o ≡ Equal
is_equal Less same = cc
is_equal Equal same = refl
is_equal Greater same = cc
