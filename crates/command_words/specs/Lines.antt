-- The lines of words that a row of the grammar takes.
use Rattle.std.specs.Prelude.{◌≡◌, ℕ, Bool, ◌<◌, ◌≤◌, ◌⊎◌, List, [], ◌∷◌, ◌++◌, map, length, codes, Option, Some, None, ⊤, if◌then◌else◌}
use Rattle.std.specs.List.{flat_map, AllByRecursion, list_any}
use Rattle.std.specs.Str.{bytes_eq}
use Rattle.plane.specs.Spelling.{natural_text}
use Rattle.command_words.specs.declared.rows.NumberBounds.{NumberBounds}
use Rattle.command_words.specs.declared.rows.PlainBounds.{PlainBounds}

-- an option of a command: its name without the two hyphens, and the numbers that it takes, where it isn't a flag
pub record OptionRow : Type 0 where
  pub name : List ℕ
  pub numbers : Option NumberBounds

-- a row of the grammar: a command's word, its options and its plain values
pub record CommandRow : Type 0 where
  pub word : List ℕ
  pub options : List OptionRow
  pub plain : PlainBounds

-- what is given with an option: nothing, a number in the next word, or a number behind `=` in the same word
pub data Value : Type 0 where
  nothing : Value
  apart : ℕ → Value
  joined : ℕ → Value

-- an option as it is given: its name, and what is given with it
pub record Given : Type 0 where
  pub name : List ℕ
  pub value : Value

-- the words of an option that is given
abbrev pub words_with : List ℕ → Value → List (List ℕ)
words_with name nothing = (codes "--" ++ name) ∷ []
words_with name (apart n) = (codes "--" ++ name) ∷ natural_text n ∷ []
words_with name (joined n) = (codes "--" ++ name ++ codes "=" ++ natural_text n) ∷ []

abbrev pub given_words : Given → List (List ℕ)
given_words given = words_with given.name given.value

-- a flag takes nothing, and any other option a number within its bounds
abbrev pub Takes : Option NumberBounds → Value → Type 0
Takes None nothing = ⊤
Takes None (apart n) = ⊥
Takes None (joined n) = ⊥
Takes (Some numbers) nothing = ⊥
Takes (Some numbers) (apart n) = (numbers.least ≤ n) × (n ≤ numbers.most)
Takes (Some numbers) (joined n) = (numbers.least ≤ n) × (n ≤ numbers.most)

-- it is this option that is given
abbrev pub IsGivenAs : OptionRow → Given → Type 0
IsGivenAs option given = (given.name ≡ option.name) × Takes option.numbers given.value

-- it is one of these options that is given
abbrev pub IsGivenOf : List OptionRow → Given → Type 0
IsGivenOf [] given = ⊥
IsGivenOf (option ∷ options) given = IsGivenAs option given ⊎ IsGivenOf options given

-- no two of these words are equal
abbrev pub AreDistinct : List (List ℕ) → Type 0
AreDistinct [] = ⊤
AreDistinct (word ∷ words) = AllByRecursion (λ other. ¬ (other ≡ word)) words × AreDistinct words

-- the names of the options that are given
abbrev pub names_of : List Given → List (List ℕ)
names_of = map (λ given. given.name)

-- the words are a line of the row: the command's word, then options of the row, each once at most, in any order, then plain
-- values, as many as there may be and each below its bound
pub record IsLine (row : CommandRow) (options : List Given) (plain : List ℕ) (words : List (List ℕ)) : Type 0 where
  pub spelled : words ≡ row.word ∷ flat_map given_words options ++ map natural_text plain
  pub given : AllByRecursion (IsGivenOf row.options) options
  pub once : AreDistinct (names_of options)
  pub fewest : row.plain.fewest ≤ length plain
  pub most : length plain ≤ row.plain.most
  pub below : AllByRecursion (λ n. n < row.plain.below) plain

-- the row takes these words
abbrev pub IsTaken : CommandRow → List (List ℕ) → Type 0
IsTaken row words = (options : List Given) × (plain : List ℕ) × IsLine row options plain words

-- the number that is given, where one is
abbrev pub number_with : Value → Option ℕ
number_with nothing = None
number_with (apart n) = Some n
number_with (joined n) = Some n

-- the number that the option of this name is given, where it is given one
abbrev pub number_given : List ℕ → List Given → Option ℕ
number_given name [] = None
number_given name (given ∷ options) = if bytes_eq given.name name then number_with given.value else number_given name options

-- an option of this name is given
abbrev pub is_given : List ℕ → List Given → Bool
is_given name options = list_any (λ given. bytes_eq given.name name) options
