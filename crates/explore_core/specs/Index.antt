-- The places of keys, by ascending keys.
use Rattle.std.specs.Prelude.{◌≡◌, ℕ, ◌<◌, ◌≤◌, ◌==◌, ◌||◌, Bool, true, false, ℤ, List, [], ◌∷◌, length}
use Rattle.std.specs.declared.cmp.Ordering.{Ordering}
use Rattle.std.specs.declared.cmp.Ordering.TheVariants.{Less}
use Rattle.terrain.specs.Places.{IsAt}

-- whether the number is in the list
abbrev pub lists : List ℕ → ℕ → Bool
lists [] a = false
lists (x ∷ xs) a = (x == a) || lists xs a

-- each place of a key is listed once, by ascending keys
pub record IsIndex (order : List ℤ → List ℤ → Ordering) (keys : List (List ℤ)) (places : List ℕ) : Type 0 where
  pub within : (i a : ℕ) → IsAt places i a → a < length keys
  pub ascends : (i j a b : ℕ) (x y : List ℤ) → i < j → IsAt places i a → IsAt places j b → IsAt keys a x → IsAt keys b y → order x y ≡ Less
  pub listed : (a : ℕ) → a < length keys → lists places a ≡ true
  pub long : length places ≡ length keys

-- the key isn't there, and its place would stand at index i
pub record IsGap (order : List ℤ → List ℤ → Ordering) (keys : List (List ℤ)) (places : List ℕ) (k : List ℤ) (i : ℕ) : Type 0 where
  pub within : i ≤ length places
  pub below : (j a : ℕ) (x : List ℤ) → j < i → IsAt places j a → IsAt keys a x → order x k ≡ Less
  pub above : (j a : ℕ) (x : List ℤ) → i ≤ j → IsAt places j a → IsAt keys a x → order k x ≡ Less
