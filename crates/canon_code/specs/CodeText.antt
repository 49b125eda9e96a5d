-- The text of a code: its numbers in decimal, one space between.
use Rattle.std.specs.Prelude.{◌≡◌, ℕ, ◌<◌, ℤ, List, [], ◌∷◌, ◌++◌, length, codes}
use Rattle.std.specs.List.{flat_map}
use Rattle.plane.specs.Spelling.{whole_text}
use Rattle.quad_field.specs.Width.{AllFit}

-- whole numbers in decimal, each with a space before it
abbrev pub spaced_text : List ℤ → List ℕ
spaced_text numbers = flat_map (λ n. codes " " ++ whole_text n) numbers

-- whole numbers in decimal, one space between
abbrev pub numbers_text : List ℤ → List ℕ
numbers_text [] = []
numbers_text (n ∷ numbers) = whole_text n ++ spaced_text numbers

-- the bytes list these numbers: at least one, each within i128, in decimal with one space between
pub record Lists (bytes : List ℕ) (numbers : List ℤ) : Type 0 where
  pub some : 0 < length numbers
  pub fit : AllFit numbers
  pub spelled : bytes ≡ numbers_text numbers
