-- Elements of a list by their places.
use Rattle.std.specs.Prelude.{◌≡◌, ℕ, List, Some, slice_get}

-- x stands at place i of the list
abbrev pub IsAt : {A : Type 0} → List A → ℕ → A → Type 0
IsAt xs i x = slice_get xs i ≡ Some x
