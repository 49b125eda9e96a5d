-- How clap walks over the words of a line.
use Rattle.std.proofs.Common.{◌≡◌, ◌∙◌, ◌&&◌, ◌||◌, ◌<◌, ◌≤◌, ℕ, nat_lt, Bool, true, false, cond, List, [], ◌∷◌, ◌++◌, map, length, arith, Option, Some, None, refl, ap, ap₂, sym, subst, inl, inr, append_assoc}
use Rattle.std.specs.Prelude.{◌==◌}
use Rattle.std.specs.List.{AllByRecursion, fold, flat_map}
use Rattle.std.specs.Option.{option_map_or}
use Rattle.std.specs.Str.{bytes_eq}
use Rattle.std.proofs.lemmas.List.{append-nil}
use Rattle.clap.specs.Lexer.{long_of}
use Rattle.clap.specs.Walk.{value as plain_value, Held, Row, Rule, Step, Text, Waiting, idle, option, positional, Walk, after_flag, after_step, arg_by_id, arg_by_index, arg_by_long, has_row, long_met, long_or_other, nothing_held, plain_word, reacted, is_pending, pushed, settled, short_or_plain, started, pending_count, option_word, used_by_id, to_positional, trailing, used, walked}
use Rattle.clap.specs.Simple.{Shape}
use Rattle.clap.specs.Takes.{bundle_passes, flag_word_passes, long_passes, positional_passes, react_passes, settle_passes, step_passes, turn_passes, use_passes, walk_passes}
use Rattle.plane.specs.Spelling.{natural_text}
use Rattle.command_words.specs.declared.rows.NumberBounds.{NumberBounds}
use Rattle.command_words.specs.Lines.{OptionRow, CommandRow, Value, nothing, apart, joined, Given, words_with, given_words, Takes, IsGivenOf, AreDistinct, names_of}
use Rattle.command_words.specs.Fronts.{IsName, IsRow}
use Rattle.command_words.specs.Parsers.{values_id, IsOption}
use Rattle.command_words.proofs.GivenLemmas.{opened, is_name}
use Rattle.command_words.proofs.RuleLemmas.{full_with, full_option, full_rules, full_shape, full_values, by_id, by_long, values_by_id, values_by_place, same_bytes, other_bytes}
use Rattle.command_words.proofs.WordLemmas.{long_alone, long_valued, no_escape, no_long, no_short, number_word}
use Rattle.command_words.proofs.RowLemmas.{row_with, row_given, row_values, value_texts, kept_texts, used_option, option_use_passes, used_first, used_more, has_row_more}

-- where a walk stands between two words, of which none was `--`
abbrev pub standing : Waiting → Held → Walk
standing waiting h = record { held = h; waiting = waiting; position = 1; is_trailing = false; stopped = None }

module _ (word_of_row : List ℕ) (rules : List Rule) where
  abbrev shape : Shape
  shape = full_shape word_of_row rules

  -- ---- a word that begins with two hyphens
  module _ (byte : ℕ) (bytes : List ℕ) (h : Held) where
    abbrev named : List ℕ
    named = 45 ∷ 45 ∷ byte ∷ bytes

    abbrev long_step : Option (Text × Option Text) → Walk
    long_step long = after_step rules named (standing idle h) (long_or_other rules idle named long h).0 (long_or_other rules idle named long h).1

    abbrev long_turn : Option (Text × Option Text) → Bool
    long_turn long = flag_word_passes rules false long named h && step_passes shape 1 (long_or_other rules idle named long h).0 (long_or_other rules idle named long h).1

    abbrev rule_step : Option Rule → Option Text → Walk
    rule_step rule value =
        let met = after_flag rules idle named (long_met rules rule value h).0 (long_met rules rule value h).1 in
        after_step rules named (standing idle h) met.0 met.1

    abbrev rule_turn : Option Rule → Option Text → Bool
    rule_turn rule value =
        let met = after_flag rules idle named (long_met rules rule value h).0 (long_met rules rule value h).1 in
        long_passes rules false rule value h && step_passes shape 1 met.0 met.1

    named_step : (name : Text) (value : Option Text) (rule : Rule) → long_of named ≡ Some (name, value) → arg_by_long rules name ≡ Some rule → walked rules [] (standing idle h) named ≡ rule_step (Some rule) value
    unfolding walked
    named_step name value rule long found = ap long_step long ∙ ap (λ o. rule_step o value) found

    named_turn : (name : Text) (value : Option Text) (rule : Rule) → long_of named ≡ Some (name, value) → arg_by_long rules name ≡ Some rule → turn_passes shape [] (standing idle h) named ≡ rule_turn (Some rule) value
    named_turn name value rule long found = ap long_turn long ∙ ap (λ o. rule_turn o value) found

  -- ---- a word that doesn't begin with a hyphen
  module _ (byte : ℕ) (bytes : List ℕ) (other : (byte == 45) ≡ false) (h : Held) where
    abbrev simple : List ℕ
    simple = byte ∷ bytes

    simple_met : (waiting : Waiting) → cond (bytes_eq simple (45 ∷ 45 ∷ [])) (h, trailing 1) (long_or_other rules waiting simple (long_of simple) h) ≡ plain_word rules waiting simple h
    simple_met waiting = ap (λ b. cond b (h, trailing 1) (long_or_other rules waiting simple (long_of simple) h)) (no_escape byte bytes other)
        ∙ ap (λ l. long_or_other rules waiting simple l h) (no_long byte bytes other) ∙ ap (λ s. short_or_plain rules waiting simple s h) (no_short byte bytes other)

    simple_word : (bytes_eq simple (45 ∷ 45 ∷ []) || flag_word_passes rules false (long_of simple) simple h) ≡ true
    simple_word = ap (λ b. b || flag_word_passes rules false (long_of simple) simple h) (no_escape byte bytes other)
        ∙ ap (λ l. flag_word_passes rules false l simple h) (no_long byte bytes other)
        ∙ ap (λ s. option_map_or (λ flags. bundle_passes rules false flags h) s true) (no_short byte bytes other)

    abbrev simple_step : Waiting → Walk
    simple_step waiting = after_step rules simple (standing waiting h) (plain_word rules waiting simple h).0 (plain_word rules waiting simple h).1

    simple_walked : (waiting : Waiting) → walked rules [] (standing waiting h) simple ≡ simple_step waiting
    unfolding walked
    simple_walked idle = ap (λ met. after_step rules simple (standing idle h) met.0 met.1) (simple_met idle)
    simple_walked (option id) = ap (λ met. after_step rules simple (standing (option id) h) met.0 met.1) (simple_met (option id))
    simple_walked positional = ap (λ met. after_step rules simple (standing positional h) met.0 met.1) (simple_met positional)

    simple_turn : (waiting : Waiting) → turn_passes shape [] (standing waiting h) simple ≡ step_passes shape 1 (plain_word rules waiting simple h).0 (plain_word rules waiting simple h).1
    simple_turn idle = ap₂ (λ (b : Bool) (met : Held × Step). b && step_passes shape 1 met.0 met.1) simple_word (simple_met idle)
    simple_turn (option id) = ap₂ (λ (b : Bool) (met : Held × Step). b && step_passes shape 1 met.0 met.1) simple_word (simple_met (option id))
    simple_turn positional = ap₂ (λ (b : Bool) (met : Held × Step). b && step_passes shape 1 met.0 met.1) simple_word (simple_met positional)

-- ---- the options of a line
-- what is held: these rows, once the argument that is pending is used, which may be
pub record Holds (rules : List Rule) (rows : List Row) (h : Held) : Type 0 where
  pub rows_are : (settled rules h).rows ≡ rows
  pub passes : settle_passes rules false h ≡ true

-- words that the walk passes over, from where one thing is held to where another is
pub record PassesOver (word : List ℕ) (rules : List Rule) (words : List (List ℕ)) (before after : Waiting) (held later : Held) : Type 0 where
  pub goes : (rest : List (List ℕ)) → fold (walked rules []) (standing before held) (words ++ rest) ≡ fold (walked rules []) (standing after later) rest
  pub passes : (rest : List (List ℕ)) → walk_passes (full_shape word rules) [] (standing before held) (words ++ rest) ≡ walk_passes (full_shape word rules) [] (standing after later) rest

module _ (word_of_row : List ℕ) (rules : List Rule) where
  -- one word
  pub one_word : (text : List ℕ) (before after : Waiting) (held later : Held) → walked rules [] (standing before held) text ≡ standing after later → turn_passes (full_shape word_of_row rules) [] (standing before held) text ≡ true
      → PassesOver word_of_row rules (text ∷ []) before after held later
  unfolding walk_passes
  one_word text before after held later step turn = record {
    goes = λ rest. ap (λ w. fold (walked rules []) w rest) step;
    passes = λ rest. ap₂ (λ (b : Bool) (w : Walk). b && walk_passes (full_shape word_of_row rules) [] w rest) turn step;
  }

  -- words and then others
  pub both_words : (first second : List (List ℕ)) (before between after : Waiting) (held then_held later : Held) → PassesOver word_of_row rules first before between held then_held
      → PassesOver word_of_row rules second between after then_held later → PassesOver word_of_row rules (first ++ second) before after held later
  both_words first second before between after held then_held later p q = record {
    goes = λ rest. ap (fold (walked rules []) (standing before held)) (append_assoc first second rest) ∙ p.goes (second ++ rest) ∙ q.goes rest;
    passes = λ rest. ap (walk_passes (full_shape word_of_row rules) [] (standing before held)) (append_assoc first second rest) ∙ p.passes (second ++ rest) ∙ q.passes rest;
  }

  pub no_words : (waiting : Waiting) (h : Held) → PassesOver word_of_row rules [] waiting waiting h h
  no_words waiting h = record { goes = λ rest. refl; passes = λ rest. refl }

module _ (row : CommandRow) (is : IsRow row) where
  abbrev rules : List Rule
  rules = full_rules row

  -- one option
  module _ (one : OptionRow) (among : IsOption row.options one) (rows : List Row) (absent : has_row one.name rows ≡ false) (h : Held) (holds : Holds rules rows h) where
    -- what is held once it is used
    used_held : (numbers : Option NumberBounds) (value : Value) → Takes numbers value
        → Holds rules (rows ++ row_with one.name (kept_texts value) ∷ []) (reacted rules (full_with one.name numbers) (value_texts value) h)
    used_held numbers value takes = record {
      rows_are = ap (used (full_with one.name numbers) (value_texts value)) holds.rows_are ∙ used_option one.name rows absent numbers value takes;
      passes = refl;
    }

    use_turn : (numbers : Option NumberBounds) (value : Value) → Takes numbers value → react_passes rules false (full_with one.name numbers) (value_texts value) h ≡ true
    use_turn numbers value takes = ap₂ (λ (a b : Bool). a && b) holds.passes
        (ap (use_passes false (full_with one.name numbers) (value_texts value)) holds.rows_are ∙ option_use_passes one.name rows absent numbers value takes)

    -- where its number is pending
    pending_held : (numbers : NumberBounds) (n : ℕ) → one.numbers ≡ Some numbers → (numbers.least ≤ n) × (n ≤ numbers.most)
        → Holds rules (rows ++ row_with one.name (natural_text n ∷ []) ∷ []) (record (settled rules h) { pending = Some (one.name, natural_text n ∷ []) })
    pending_held numbers n is_number takes =
        let texts = natural_text n ∷ [] in
        let found : arg_by_id rules one.name ≡ Some (full_with one.name (Some numbers)) = by_id row is one among ∙ ap (λ o. Some (full_with one.name o)) is_number in
        record {
          rows_are = ap (λ o. used_by_id o texts (settled rules h).rows) found ∙ ap (used (full_with one.name (Some numbers)) texts) holds.rows_are ∙ used_option one.name rows absent (Some numbers) (apart n) takes;
          passes = ap (λ o. option_map_or (λ a. use_passes false a texts (settled rules h).rows) o true) found
              ∙ ap (use_passes false (full_with one.name (Some numbers)) texts) holds.rows_are ∙ option_use_passes one.name rows absent (Some numbers) (apart n) takes;
        }

  -- the number of an option, in a word of its own
  number_step : (name : List ℕ) (numbers : NumberBounds) (text : List ℕ) (byte : ℕ) (bytes : List ℕ) (held : Held) → text ≡ byte ∷ bytes → (byte == 45) ≡ false
      → arg_by_id rules name ≡ Some (full_with name (Some numbers)) → held.pending ≡ Some (name, []) → PassesOver row.word rules (text ∷ []) (option name) idle held (record held { pending = Some (name, text ∷ []) })
  number_step name numbers text byte bytes held spelled other found pending =
      subst (λ t. PassesOver row.word rules (t ∷ []) (option name) idle held (record held { pending = Some (name, t ∷ []) })) (sym spelled)
      (one_word row.word rules (byte ∷ bytes) (option name) idle held (record held { pending = Some (name, (byte ∷ bytes) ∷ []) })
      (simple_walked row.word rules byte bytes other held (option name) ∙ ap (λ (p : Held × Waiting). standing p.1 p.0) (taken (byte ∷ bytes)))
      (simple_turn row.word rules byte bytes other held (option name)))
    where
      taken : (t : List ℕ) → option_word (arg_by_id rules name) name t held ≡ (record held { pending = Some (name, t ∷ []) }, idle)
      taken t =
          let push = λ (p : Option (Text × List Text)). Some ((started name p).0, (started name p).1 ++ t ∷ []) in
          ap (λ o. option_word o name t held) found
          ∙ ap (λ (p : Option (Text × List Text)). (record held { pending = push p }, cond (nat_lt (pending_count (full_with name (Some numbers)) (push p)) 1) (option name) idle)) pending
          ∙ ap (λ (b : Bool). (record held { pending = Some (name, t ∷ []) }, cond (nat_lt (cond b 1 0) 1) (option name) idle)) (same_bytes name name refl)

  -- one option that is given
  given_words_pass : (name : List ℕ) (numbers : Option NumberBounds) (value : Value) → IsOption row.options (record { name = name; numbers = numbers }) → IsName name → Takes numbers value
      → (rows : List Row) → has_row name rows ≡ false → (h : Held) → Holds rules rows h
      → (later : Held) × Holds rules (rows ++ row_with name (kept_texts value) ∷ []) later × PassesOver row.word rules (words_with name value) idle idle h later
  given_words_pass [] numbers value among called takes rows absent h holds = absurd (called.0 refl)
  given_words_pass (byte ∷ bytes) None (apart n) among called takes rows absent h holds = absurd takes
  given_words_pass (byte ∷ bytes) None (joined n) among called takes rows absent h holds = absurd takes
  given_words_pass (byte ∷ bytes) (Some numbers) nothing among called takes rows absent h holds = absurd takes
  given_words_pass (byte ∷ bytes) None nothing among called takes rows absent h holds =
      let one : OptionRow = record { name = byte ∷ bytes; numbers = None } in
      let rule = full_option one in
      let long = long_alone byte bytes called.1 in
      let found = by_long row is one among in (
        reacted rules rule [] h,
        used_held one among rows absent h holds None nothing takes,
        one_word row.word rules (45 ∷ 45 ∷ byte ∷ bytes) idle idle h (reacted rules rule [] h) (named_step row.word rules byte bytes h (byte ∷ bytes) None rule long found)
            (named_turn row.word rules byte bytes h (byte ∷ bytes) None rule long found ∙ ap (λ b. b && true) (use_turn one among rows absent h holds None nothing takes)),
      )
  given_words_pass (byte ∷ bytes) (Some numbers) (joined n) among called takes rows absent h holds =
      let one : OptionRow = record { name = byte ∷ bytes; numbers = Some numbers } in
      let rule = full_option one in
      let text = natural_text n in
      let long = long_valued byte bytes text called.1 in
      let found = by_long row is one among in (
        reacted rules rule (text ∷ []) h,
        used_held one among rows absent h holds (Some numbers) (joined n) takes,
        subst (λ ws. PassesOver row.word rules ws idle idle h (reacted rules rule (text ∷ []) h)) (sym (opened (byte ∷ bytes) (joined n)))
            (one_word row.word rules (45 ∷ 45 ∷ byte ∷ (bytes ++ 61 ∷ text)) idle idle h (reacted rules rule (text ∷ []) h)
            (named_step row.word rules byte (bytes ++ 61 ∷ text) h (byte ∷ bytes) (Some text) rule long found)
            (named_turn row.word rules byte (bytes ++ 61 ∷ text) h (byte ∷ bytes) (Some text) rule long found ∙ ap (λ b. b && true) (use_turn one among rows absent h holds (Some numbers) (joined n) takes))),
      )
  given_words_pass (byte ∷ bytes) (Some numbers) (apart n) among called takes rows absent h holds =
      let name = byte ∷ bytes in
      let one : OptionRow = record { name = name; numbers = Some numbers } in
      let rule = full_option one in
      let long = long_alone byte bytes called.1 in
      let found = by_long row is one among in
      let (first, others, spelled, other) = number_word n in
      let between : Held = record (settled rules h) { pending = Some (name, []) } in
      let later : Held = record (settled rules h) { pending = Some (name, natural_text n ∷ []) } in (
        later,
        pending_held one among rows absent h holds numbers n refl takes,
        both_words row.word rules ((45 ∷ 45 ∷ byte ∷ bytes) ∷ []) (natural_text n ∷ []) idle (option name) idle h between later
            (one_word row.word rules (45 ∷ 45 ∷ byte ∷ bytes) idle (option name) h between (named_step row.word rules byte bytes h name None rule long found)
            (named_turn row.word rules byte bytes h name None rule long found ∙ ap (λ b. b && true) holds.passes))
            (number_step name numbers (natural_text n) first others between spelled other (by_id row is one among) refl),
      )

  -- ---- all options that are given
  option_of_given : (options : List OptionRow) (given : Given) → IsGivenOf options given
      → (numbers : Option NumberBounds) × IsOption options (record { name = given.name; numbers = numbers }) × Takes numbers given.value
  option_of_given [] given h = absurd h
  option_of_given (one ∷ options) given (inl h) = (one.numbers, inl (λ i. record { name = sym h.0 i; numbers = one.numbers }), h.1)
  option_of_given (one ∷ options) given (inr h) = let (numbers, among, takes) = option_of_given options given h in (numbers, inr among, takes)

  still_absent : (options : List Given) (rows : List Row) (made : Row) → AllByRecursion (λ other. ¬ (other ≡ made.id)) (names_of options) → AllByRecursion (λ given. has_row given.name rows ≡ false) options
      → AllByRecursion (λ given. has_row given.name (rows ++ made ∷ []) ≡ false) options
  still_absent [] rows made others absent = tt
  still_absent (given ∷ options) rows made others absent = (has_row_more given.name rows made absent.0 (λ e. others.0 (sym e)), still_absent options rows made others.1 absent.1)

  given_options_pass : (options : List Given) → AllByRecursion (IsGivenOf row.options) options → AreDistinct (names_of options) → (rows : List Row) → AllByRecursion (λ given. has_row given.name rows ≡ false) options
      → (h : Held) → Holds rules rows h → (later : Held) × Holds rules (rows ++ map row_given options) later × PassesOver row.word rules (flat_map given_words options) idle idle h later
  given_options_pass [] given distinct rows absent h holds = (h, subst (λ rs. Holds rules rs h) (sym (append-nil rows)) holds, no_words row.word rules idle h)
  given_options_pass (one ∷ options) given distinct rows absent h holds =
      let (numbers, among, takes) = option_of_given row.options one given.0 in
      let (between, then_holds, first) = given_words_pass one.name numbers one.value among (is_name row.options one is.0 given.0) takes rows absent.0 h holds in
      let made = row_given one in
      let (later, at_last, others) = given_options_pass options given.1 distinct.1 (rows ++ made ∷ []) (still_absent options rows made distinct.0 absent.1) between then_holds in (
        later,
        subst (λ rs. Holds rules rs later) (append_assoc rows (made ∷ []) (map row_given options)) at_last,
        both_words row.word rules (given_words one) (flat_map given_words options) idle idle idle h between later first others,
      )

  -- ---- the plain values
  module _ (some : 0 < row.plain.most) (rows : List Row) (absent : has_row values_id rows ≡ false) where
    abbrev value_held : List ℕ → Held → Held
    value_held text h = record (settled rules h) { pending = Some (values_id, text ∷ []) }

    not_several : (b : Bool) → (b && false) ≡ false
    not_several true = refl
    not_several false = refl

    place_step : (waiting : Waiting) (text : List ℕ) (h : Held) → to_positional rules (arg_by_index rules 1) text (standing waiting h) h ≡ standing positional (value_held text h)
    place_step waiting text h = ap (λ o. to_positional rules o text (standing waiting h) h) (values_by_place row is some)
        ∙ ap (λ b. standing positional (pushed values_id text (cond b h (settled rules h)))) (not_several (is_pending full_values h.pending))

    place_turn : (before : List Row) (h : Held) → Holds rules before h → option_map_or (λ a. positional_passes rules false a h) (arg_by_index rules 1) false ≡ true
    place_turn before h holds = ap (λ o. option_map_or (λ a. positional_passes rules false a h) o false) (values_by_place row is some)
        ∙ ap (λ b. b || settle_passes rules false h) (not_several (is_pending full_values h.pending)) ∙ holds.passes

    -- one plain value, where no option waits for a number
    value_word : (waiting : Waiting) (n : ℕ) (before : List Row) (h : Held) → ((text : List ℕ) → plain_word rules waiting text h ≡ (h, plain_value)) → Holds rules before h
        → PassesOver row.word rules (natural_text n ∷ []) waiting positional h (value_held (natural_text n) h)
    value_word waiting n before h free holds =
        let (byte, bytes, spelled, other) = number_word n in
        let text = byte ∷ bytes in
        subst (λ t. PassesOver row.word rules (t ∷ []) waiting positional h (value_held t h)) (sym spelled)
        (one_word row.word rules text waiting positional h (value_held text h)
        (simple_walked row.word rules byte bytes other h waiting ∙ ap (λ (met : Held × Step). after_step rules text (standing waiting h) met.0 met.1) (free text) ∙ place_step waiting text h)
        (simple_turn row.word rules byte bytes other h waiting ∙ ap (λ (met : Held × Step). step_passes (full_shape row.word rules) 1 met.0 met.1) (free text) ∙ place_turn before h holds))

    first_held : (text : List ℕ) (h : Held) → Holds rules rows h → Holds rules (rows ++ row_values (text ∷ []) ∷ []) (value_held text h)
    first_held text h holds = record {
      rows_are = ap (λ o. used_by_id o (text ∷ []) (settled rules h).rows) (values_by_id row is some) ∙ ap (used full_values (text ∷ [])) holds.rows_are ∙ used_first rows absent text;
      passes = ap (λ o. option_map_or (λ a. use_passes false a (text ∷ []) (settled rules h).rows) o true) (values_by_id row is some);
    }

    more_held : (texts : List (List ℕ)) (text : List ℕ) (h : Held) → Holds rules (rows ++ row_values texts ∷ []) h → Holds rules (rows ++ row_values (texts ++ text ∷ []) ∷ []) (value_held text h)
    more_held texts text h holds = record {
      rows_are = ap (λ o. used_by_id o (text ∷ []) (settled rules h).rows) (values_by_id row is some) ∙ ap (used full_values (text ∷ [])) holds.rows_are ∙ used_more rows absent text texts;
      passes = ap (λ o. option_map_or (λ a. use_passes false a (text ∷ []) (settled rules h).rows) o true) (values_by_id row is some);
    }

    more_values_pass : (plain : List ℕ) (texts : List (List ℕ)) (h : Held) → Holds rules (rows ++ row_values texts ∷ []) h
        → (later : Held) × Holds rules (rows ++ row_values (texts ++ map natural_text plain) ∷ []) later × PassesOver row.word rules (map natural_text plain) positional positional h later
    more_values_pass [] texts h holds = (h, subst (λ ts. Holds rules (rows ++ row_values ts ∷ []) h) (sym (append-nil texts)) holds, no_words row.word rules positional h)
    more_values_pass (n ∷ plain) texts h holds =
        let text = natural_text n in
        let between = value_held text h in
        let (later, at_last, others) = more_values_pass plain (texts ++ text ∷ []) between (more_held texts text h holds) in (
          later,
          subst (λ ts. Holds rules (rows ++ row_values ts ∷ []) later) (append_assoc texts (text ∷ []) (map natural_text plain)) at_last,
          both_words row.word rules (text ∷ []) (map natural_text plain) positional positional positional h between later
              (value_word positional n (rows ++ row_values texts ∷ []) h (λ _. refl) holds) others,
        )

  -- the row of the plain values, where there are any
  abbrev pub values_rows : List ℕ → List Row
  values_rows [] = []
  values_rows (n ∷ plain) = row_values (map natural_text (n ∷ plain)) ∷ []

  values_pass : (plain : List ℕ) → length plain ≤ row.plain.most → (rows : List Row) → has_row values_id rows ≡ false → (h : Held) → Holds rules rows h
      → (later : Held) × (after : Waiting) × Holds rules (rows ++ values_rows plain) later × PassesOver row.word rules (map natural_text plain) idle after h later
  values_pass [] most rows absent h holds = (h, idle, subst (λ rs. Holds rules rs h) (sym (append-nil rows)) holds, no_words row.word rules idle h)
  values_pass (n ∷ plain) most rows absent h holds =
      let some : 0 < row.plain.most = omega arith in
      let text = natural_text n in
      let between = value_held some rows absent text h in
      let (later, at_last, others) = more_values_pass some rows absent plain (text ∷ []) between (first_held some rows absent text h holds) in (
        later,
        positional,
        at_last,
        both_words row.word rules (text ∷ []) (map natural_text plain) idle positional positional h between later (value_word some rows absent idle n rows h (λ _. refl) holds) others,
      )

  -- ---- a line
  values_absent : (options : List Given) → AllByRecursion (IsGivenOf row.options) options → has_row values_id (map row_given options) ≡ false
  values_absent [] given = refl
  values_absent (one ∷ options) given =
      let named = is_name row.options one is.0 given.0 in
      ap₂ (λ (a b : Bool). a || b) (other_bytes one.name values_id named.2) (values_absent options given.1)

  none_absent : (options : List Given) → AllByRecursion (λ given. has_row given.name [] ≡ false) options
  none_absent [] = tt
  none_absent (one ∷ options) = (refl, none_absent options)

  -- clap walks over the words of a line, and what it then holds are the rows of what is given
  pub line_walk : (options : List Given) (plain : List ℕ) → AllByRecursion (IsGivenOf row.options) options → AreDistinct (names_of options) → length plain ≤ row.plain.most
      → (later : Held) × (after : Waiting) × Holds rules (map row_given options ++ values_rows plain) later
      × (fold (walked rules []) (standing idle nothing_held) (flat_map given_words options ++ map natural_text plain) ≡ standing after later)
      × (walk_passes (full_shape row.word rules) [] (standing idle nothing_held) (flat_map given_words options ++ map natural_text plain) ≡ true)
  unfolding walk_passes
  line_walk options plain given distinct most =
      let (between, then_holds, first) = given_options_pass options given distinct [] (none_absent options) nothing_held (record { rows_are = refl; passes = refl }) in
      let (later, after, at_last, last) = values_pass plain most (map row_given options) (values_absent options given) between then_holds in
      let whole = both_words row.word rules (flat_map given_words options) (map natural_text plain) idle idle after nothing_held between later first last in
      let words = flat_map given_words options ++ map natural_text plain in (
        later,
        after,
        at_last,
        ap (fold (walked rules []) (standing idle nothing_held)) (sym (append-nil words)) ∙ whole.goes [],
        ap (walk_passes (full_shape row.word rules) [] (standing idle nothing_held)) (sym (append-nil words)) ∙ whole.passes [],
      )
