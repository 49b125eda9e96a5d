-- What the words at the front of a list give. No public contract cites this: it serves private clauses.
use Rattle.std.specs.Prelude.{◌≡◌, ℕ, ◌+◌, ◌<◌, ◌≤◌, ◌⊎◌, List, [], ◌∷◌, ◌++◌, map, codes, length, drop, Option}
use Rattle.std.specs.List.{AllByRecursion}
use Rattle.plane.specs.Spelling.{natural_text}
use Rattle.command_words.specs.declared.rows.NumberBounds.{NumberBounds}
use Rattle.command_words.specs.declared.rows.PlainBounds.{PlainBounds}
use Rattle.command_words.specs.Lines.{CommandRow, Value, nothing, apart, joined, Given, given_words, Takes, AreDistinct}

-- the word is a number within these bounds
abbrev pub IsWithin : NumberBounds → List ℕ → Type 0
IsWithin numbers word = (n : ℕ) × (word ≡ natural_text n) × (numbers.least ≤ n) × (n ≤ numbers.most)

-- behind an option's name in its word, and in the words after it, stands this value and then the rest
abbrev pub FollowsBy : List ℕ → List (List ℕ) → Value → List (List ℕ) → Type 0
FollowsBy tail others nothing rest = (tail ≡ []) × (others ≡ rest)
FollowsBy tail others (apart n) rest = (tail ≡ []) × (others ≡ natural_text n ∷ rest)
FollowsBy tail others (joined n) rest = (tail ≡ codes "=" ++ natural_text n) × (others ≡ rest)

-- there a value stands that the option takes, so that it has so many words
abbrev pub GivesValue : Option NumberBounds → List ℕ → List (List ℕ) → ℕ → Type 0
GivesValue numbers tail others n =
    (value : Value) × (rest : List (List ℕ)) × Takes numbers value × FollowsBy tail others value rest × (n + length rest ≡ 1 + length others)

-- no such value stands there
abbrev pub GivesNoValue : Option NumberBounds → List ℕ → List (List ℕ) → Type 0
GivesNoValue numbers tail others = (value : Value) (rest : List (List ℕ)) → Takes numbers value → ¬ (FollowsBy tail others value rest)

-- so many words at the front give an option for which this holds
abbrev pub GivesFirst : (Given → Type 0) → List (List ℕ) → ℕ → Type 0
GivesFirst P words n = (given : Given) × P given × (words ≡ given_words given ++ drop n words) × (n ≡ length (given_words given))

-- no words at the front do
abbrev pub GivesNone : (Given → Type 0) → List (List ℕ) → Type 0
GivesNone P words = (given : Given) (rest : List (List ℕ)) → P given → ¬ (words ≡ given_words given ++ rest)

-- a name of an option: some bytes without `=`, which aren't the id of the plain values
abbrev pub IsName : List ℕ → Type 0
IsName name = ¬ (name ≡ []) × AllByRecursion (λ byte. ¬ (byte ≡ 61)) name × ¬ (name ≡ codes "values")

-- a row whose options have names, each another one
abbrev pub IsRow : CommandRow → Type 0
IsRow row = AllByRecursion (λ option. IsName option.name) row.options × AreDistinct (map (λ option. option.name) row.options)

-- nothing follows an option's name in its word, or `=` and something
abbrev pub EndsName : List ℕ → Type 0
EndsName tail = (tail ≡ []) ⊎ ((rest : List ℕ) × (tail ≡ codes "=" ++ rest))

-- the word names the option of this name
abbrev pub NamesOption : List ℕ → List ℕ → Type 0
NamesOption name word = (tail : List ℕ) × (word ≡ codes "--" ++ (name ++ tail)) × EndsName tail

-- one of the words does
abbrev pub IsNamed : List ℕ → List (List ℕ) → Type 0
IsNamed name [] = ⊥
IsNamed name (word ∷ words) = NamesOption name word ⊎ IsNamed name words

-- the word is a number below this one
abbrev pub IsBelow : ℕ → List ℕ → Type 0
IsBelow bound word = (n : ℕ) × (word ≡ natural_text n) × (n < bound)

-- the words are these plain values within the bounds
pub record ArePlain (bounds : PlainBounds) (plain : List ℕ) (words : List (List ℕ)) : Type 0 where
  pub spelled : words ≡ map natural_text plain
  pub fewest : bounds.fewest ≤ length plain
  pub most : length plain ≤ bounds.most
  pub below : AllByRecursion (λ n. n < bounds.below) plain
