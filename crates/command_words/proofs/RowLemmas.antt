-- The rows of matches that the options and the plain values of a line make.
use Rattle.std.proofs.Common.{◌≡◌, ◌∙◌, ◌&&◌, ◌||◌, ℕ, Bool, true, false, not, cond, List, [], ◌∷◌, ◌++◌, codes, Option, Some, None, refl, ap, ap₂}
use Rattle.std.specs.Str.{bytes_eq}
use Rattle.std.proofs.lemmas.List.{append-nil}
use Rattle.std.proofs.lemmas.List.Folds.{list_any-append}
use Rattle.clap.specs.Walk.{Row, Text, at_row, more_values, without, used, has_row}
use Rattle.clap.specs.Takes.{use_passes}
use Rattle.clap.specs.declared.builder.value_parser.Reading.TheVariants.{AsWritten}
use Rattle.clap.specs.declared.parser.matches.ValueSource.TheVariants.{CommandLine}
use Rattle.plane.specs.Spelling.{natural_text}
use Rattle.command_words.specs.declared.rows.NumberBounds.{NumberBounds}
use Rattle.command_words.specs.Lines.{Value, nothing, apart, joined, Given, Takes}
use Rattle.command_words.specs.Parsers.{values_id}
use Rattle.command_words.proofs.RuleLemmas.{full_with, full_values, same_bytes, other_bytes}

-- ---- the rows
-- a row that the words made
abbrev pub row_with : List ℕ → List (List ℕ) → Row
row_with id values = record { id = id; values = values; count = None; source = Some CommandLine; reading = AsWritten }

-- the texts that an option's value gives to its argument, and those that are kept of it
abbrev pub value_texts : Value → List (List ℕ)
value_texts nothing = []
value_texts (apart n) = natural_text n ∷ []
value_texts (joined n) = natural_text n ∷ []

abbrev pub kept_texts : Value → List (List ℕ)
kept_texts nothing = codes "true" ∷ []
kept_texts (apart n) = natural_text n ∷ []
kept_texts (joined n) = natural_text n ∷ []

-- the row of an option that is given
abbrev pub row_given : Given → Row
row_given given = row_with given.name (kept_texts given.value)

-- the row of the plain values
abbrev pub row_values : List (List ℕ) → Row
row_values texts = row_with values_id texts

-- ---- a row that isn't there is made at the end
pub at_row_end : (id : Text) (change : Row → List Row) (missing rows : List Row) → has_row id rows ≡ false → at_row id change missing rows ≡ rows ++ missing
at_row_end id change missing [] absent = refl
at_row_end id change missing (row ∷ rows) absent = at (at_row_end id change missing rows) (bytes_eq row.id id) absent
  where
    at : (has_row id rows ≡ false → at_row id change missing rows ≡ rows ++ missing)
        → (b : Bool) → (b || has_row id rows) ≡ false → cond b (change row ++ rows) (row ∷ at_row id change missing rows) ≡ row ∷ (rows ++ missing)
    at later true absent = absurd (cc)
    at later false absent = ap (λ rs. row ∷ rs) (later absent)

-- and one that is there at the end is changed there
at_row_last : (id : Text) (change : Row → List Row) (missing rows : List Row) (last : Row) → has_row id rows ≡ false → last.id ≡ id → at_row id change missing (rows ++ last ∷ []) ≡ rows ++ change last
at_row_last id change missing [] last absent same = ap (λ b. cond b (change last ++ []) (last ∷ missing)) (same_bytes last.id id same) ∙ append-nil (change last)
at_row_last id change missing (row ∷ rows) last absent same = at (λ none. at_row_last id change missing rows last none same) (bytes_eq row.id id) absent
  where
    at : (has_row id rows ≡ false → at_row id change missing (rows ++ last ∷ []) ≡ rows ++ change last)
        → (b : Bool) → (b || has_row id rows) ≡ false → cond b (change row ++ (rows ++ last ∷ [])) (row ∷ at_row id change missing (rows ++ last ∷ [])) ≡ row ∷ (rows ++ change last)
    at later true absent = absurd (cc)
    at later false absent = ap (λ rs. row ∷ rs) (later absent)

without_absent : (id : Text) (rows : List Row) → has_row id rows ≡ false → without id rows ≡ rows
without_absent id rows absent = at_row_end id (λ _. []) [] rows absent ∙ append-nil rows

-- which rows are there after one more
pub has_row_more : (id : Text) (rows : List Row) (row : Row) → has_row id rows ≡ false → ¬ (row.id ≡ id) → has_row id (rows ++ row ∷ []) ≡ false
has_row_more id rows row absent other =
    list_any-append (λ (r : Row). bytes_eq r.id id) rows (row ∷ []) ∙ ap₂ (λ (a b : Bool). a || (b || false)) absent (other_bytes row.id id other)

-- ---- an option is used
module _ (name : List ℕ) (rows : List Row) (absent : has_row name rows ≡ false) where
  made : (values : List (List ℕ)) → at_row name (more_values CommandLine values) (row_with name values ∷ []) (without name rows) ≡ rows ++ row_with name values ∷ []
  made values = ap (at_row name (more_values CommandLine values) (row_with name values ∷ [])) (without_absent name rows absent) ∙ at_row_end name (more_values CommandLine values) (row_with name values ∷ []) rows absent

  pub used_option : (numbers : Option NumberBounds) (value : Value) → Takes numbers value → used (full_with name numbers) (value_texts value) rows ≡ rows ++ row_with name (kept_texts value) ∷ []
  used_option None nothing takes = made (codes "true" ∷ [])
  used_option None (apart n) takes = absurd takes
  used_option None (joined n) takes = absurd takes
  used_option (Some numbers) nothing takes = absurd takes
  used_option (Some numbers) (apart n) takes = made (natural_text n ∷ [])
  used_option (Some numbers) (joined n) takes = made (natural_text n ∷ [])

  pub option_use_passes : (numbers : Option NumberBounds) (value : Value) → Takes numbers value → use_passes false (full_with name numbers) (value_texts value) rows ≡ true
  option_use_passes None nothing takes = ap (λ b. (not b || false) && true) absent
  option_use_passes None (apart n) takes = absurd takes
  option_use_passes None (joined n) takes = absurd takes
  option_use_passes (Some numbers) nothing takes = absurd takes
  option_use_passes (Some numbers) (apart n) takes = ap (λ b. (not b || false) && true) absent
  option_use_passes (Some numbers) (joined n) takes = ap (λ b. (not b || false) && true) absent

-- ---- a plain value is used
module _ (rows : List Row) (absent : has_row values_id rows ≡ false) (text : List ℕ) where
  pub used_first : used full_values (text ∷ []) rows ≡ rows ++ row_values (text ∷ []) ∷ []
  used_first = at_row_end values_id (more_values CommandLine (text ∷ [])) (row_values (text ∷ []) ∷ []) rows absent

  pub used_more : (texts : List (List ℕ)) → used full_values (text ∷ []) (rows ++ row_values texts ∷ []) ≡ rows ++ row_values (texts ++ text ∷ []) ∷ []
  used_more texts = at_row_last values_id (more_values CommandLine (text ∷ [])) (row_values (text ∷ []) ∷ []) rows (row_values texts) absent refl

pub values_use_passes : (text : List ℕ) (rows : List Row) → use_passes false full_values (text ∷ []) rows ≡ true
values_use_passes text rows = refl
