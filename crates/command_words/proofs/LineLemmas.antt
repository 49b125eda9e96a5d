-- How the words of a line are looked at, one option after another.
use Rattle.std.proofs.Common.{◌≡◌, ℕ, zero, suc, ◌+◌, ◌-◌, ◌<◌, ◌≤◌, ◌↔◌, List, [], ◌∷◌, ◌++◌, map, length, take, drop, get_or, string_bytes, String, Global, refl, ap, ap₂, sym, ◌∙◌, subst, inl, inr, arith, append_assoc}
use Rattle.std.specs.List.{flat_map, AllByRecursion}
use Rattle.std.proofs.lemmas.List.{append_cancel_left, append-nil, take-append-drop, take_at, map-append, drop_more, length-map, length-append, take-map, drop-map, take_rest}
use Rattle.std.proofs.Math.Seq.{take-add}
use Rattle.std.proofs.lemmas.List.Concat.{flat_map-append}
use Rattle.plane.specs.Spelling.{natural_text}
use Rattle.command_words.specs.declared.rows.PlainBounds.{PlainBounds}
use Rattle.command_words.specs.Lines.{CommandRow, Given, given_words, IsGivenOf, AreDistinct, names_of, IsLine, IsTaken}
use Rattle.command_words.specs.Fronts.{IsName, IsRow, NamesOption, IsNamed, IsBelow, ArePlain, GivesFirst, GivesNone}
use Rattle.command_words.proofs.GivenLemmas.{no_hyphen, opened, tail_text, more_words, is_name, one_given, named_among, not_among}

-- ---- distinct names
distinct_more : (names : List (List ℕ)) (name : List ℕ) → AreDistinct names → AllByRecursion (λ other. ¬ (name ≡ other)) names → AreDistinct (names ++ name ∷ [])
distinct_more [] name distinct others = (tt, tt)
distinct_more (first ∷ names) name distinct others = (push names distinct.0, distinct_more names name distinct.1 others.1)
  where
    push : (names : List (List ℕ)) → AllByRecursion (λ other. ¬ (other ≡ first)) names → AllByRecursion (λ other. ¬ (other ≡ first)) (names ++ name ∷ [])
    push [] all = (others.0, tt)
    push (other ∷ names) all = (all.0, push names all.1)

distinct_before : (names more : List (List ℕ)) (name : List ℕ) → AreDistinct (names ++ name ∷ more) → AllByRecursion (λ other. ¬ (name ≡ other)) names
distinct_before [] more name distinct = tt
distinct_before (first ∷ names) more name distinct = (here names distinct.0, distinct_before names more name distinct.1)
  where
    here : (names : List (List ℕ)) → AllByRecursion (λ other. ¬ (other ≡ first)) (names ++ name ∷ more) → ¬ (name ≡ first)
    here [] all = all.0
    here (other ∷ names) all = here names all.1

all_more : {X : Type 0} (P : X → Type 0) (xs : List X) (x : X) → AllByRecursion P xs → P x → AllByRecursion P (xs ++ x ∷ [])
all_more P [] x all h = (h, tt)
all_more P (first ∷ xs) x all h = (all.0, all_more P xs x all.1 h)

all_at : {X : Type 0} (P : X → Type 0) (xs more : List X) (x : X) → AllByRecursion P (xs ++ x ∷ more) → P x
all_at P [] more x all = all.0
all_at P (first ∷ xs) more x all = all_at P xs more x all.1

-- no option is given where plain values stand
pub plain_first : (plain : List ℕ) (given : Given) (rest : List (List ℕ)) → map natural_text plain ≡ given_words given ++ rest → ⊥
plain_first [] given rest e =
    let bad : [] ≡ ((45 ∷ 45 ∷ (given.name ++ tail_text given.value)) ∷ (more_words given.value ++ rest)) = e ∙ ap (λ words. words ++ rest) (opened given.name given.value) in
    cc
plain_first (n ∷ plain) given rest e =
    let whole : natural_text n ∷ map natural_text plain ≡ ((45 ∷ 45 ∷ (given.name ++ tail_text given.value)) ∷ (more_words given.value ++ rest)) = e ∙ ap (λ words. words ++ rest) (opened given.name given.value) in
    no_hyphen n (45 ∷ (given.name ++ tail_text given.value)) (cc)

-- an option that is given has a word, and its words are there
pub front_counts : (P : Given → Type 0) (words : List (List ℕ)) (n : ℕ) → GivesFirst P words n → (1 ≤ n) × (n ≤ length words)
front_counts P words n (given, h, e, count) =
    let some : length (given_words given) ≡ suc (length (more_words given.value)) = ap length (opened given.name given.value) in
    let whole : length words ≡ length (given_words given) + length (drop n words) = ap length e ∙ length-append (given_words given) (drop n words) in
    (omega (arith, some, count), omega (arith, whole, count))

module _ (row : CommandRow) (words : List (List ℕ)) where
  -- the words before this place give these options, each another one, and every line that the words end begins with them
  pub record Begins (at : ℕ) (options : List Given) : Type 0 where
    pub spelled : take at words ≡ flat_map given_words options
    pub given : AllByRecursion (IsGivenOf row.options) options
    pub once : AreDistinct (names_of options)
    pub only : (all : List Given) (plain : List ℕ) → IsLine row all plain (row.word ∷ words) → (more : List Given) × (all ≡ options ++ more)

  pub begins : Begins 0 []
  begins = record { spelled = refl; given = tt; once = tt; only = λ all plain line. (all, refl) }

  module _ (at : ℕ) (options : List Given) (b : Begins at options) where
    -- behind them stand the other options of the line and its plain values
    behind : (all more : List Given) (plain : List ℕ) → IsLine row all plain (row.word ∷ words) → all ≡ options ++ more → drop at words ≡ flat_map given_words more ++ map natural_text plain
    behind all more plain line e =
        let values = map natural_text plain in
        let tail : words ≡ flat_map given_words all ++ values = cc line.spelled in
        append_cancel_left (take at words) (drop at words) (flat_map given_words more ++ values)
        (take-append-drop at words ∙ tail ∙ ap (λ given. flat_map given_words given ++ values) e ∙ ap (λ front. front ++ values) (flat_map-append given_words options more)
        ∙ append_assoc (flat_map given_words options) (flat_map given_words more) values ∙ ap (λ front. front ++ (flat_map given_words more ++ values)) (sym b.spelled))

    -- where an option is given next, it is the line's next one
    next : IsRow row → (given : Given) (rest : List (List ℕ)) → IsGivenOf row.options given → drop at words ≡ given_words given ++ rest
        → (all : List Given) (plain : List ℕ) → IsLine row all plain (row.word ∷ words) → (more : List Given) × (all ≡ options ++ given ∷ more)
    next is given rest h e all plain line =
        let (more, same) = b.only all plain line in
        at_more more same (sym e ∙ behind all more plain line same)
      where
        at_more : (more : List Given) → all ≡ options ++ more → given_words given ++ rest ≡ flat_map given_words more ++ map natural_text plain → (more : List Given) × (all ≡ options ++ given ∷ more)
        at_more [] same k = absurd (plain_first plain given rest (sym k))
        at_more (other ∷ more) same k =
            let also = all_at (IsGivenOf row.options) options more other (subst (AllByRecursion (IsGivenOf row.options)) same line.given) in
            let one = one_given row given other rest (flat_map given_words more ++ map natural_text plain) is h also
            (k ∙ append_assoc (given_words other) (flat_map given_words more) (map natural_text plain)) in
            (more, same ∙ ap (λ g. options ++ g ∷ more) (sym one.0))

    module _ (is : IsRow row) (n : ℕ) (name : List ℕ) (first : GivesFirst (λ given. IsGivenOf row.options given × (given.name ≡ name)) (drop at words) n) where
      -- one option more
      pub begins_more : ¬ (IsNamed name (take at words)) → (options : List Given) × Begins (at + n) options
      begins_more new =
          let (given, (h, named), e, count) = first in
          let unnamed = not_among row name (subst IsName named (is_name row.options given is.0 h)) options (λ k. new (subst (IsNamed name) (sym b.spelled) k)) in
          let pushed : flat_map given_words (options ++ given ∷ []) ≡ flat_map given_words options ++ given_words given =
          flat_map-append given_words options (given ∷ []) ∙ ap (λ t. flat_map given_words options ++ t) (append-nil (given_words given)) in (
            options ++ given ∷ [],
            record {
              spelled = take-add at n words ∙ ap (λ front. front ++ take n (drop at words)) b.spelled
                  ∙ ap (λ end. flat_map given_words options ++ end) (ap (take n) e ∙ take_at (given_words given) (drop n (drop at words)) n (sym count)) ∙ sym pushed;
              given = all_more (IsGivenOf row.options) options given b.given h;
              once = subst AreDistinct (sym (map-append (λ (g : Given). g.name) options (given ∷ []))) (distinct_more (names_of options) given.name b.once (subst (λ name. AllByRecursion (λ other. ¬ (name ≡ other)) (names_of options)) (sym named) unnamed));
              only = λ all plain line. let (more, same) = next is given (drop n (drop at words)) h e all plain line in (more, same ∙ sym (append_assoc options (given ∷ []) more));
            },
          )

      -- an option that is given a second time ends no line
      pub given_twice : IsNamed name (take at words) → ¬ (IsTaken row (row.word ∷ words))
      given_twice again (all, plain, line) =
          let (given, (h, named), e, count) = first in
          let (more, same) = next is given (drop n (drop at words)) h e all plain line in
          let once : AreDistinct (names_of options ++ given.name ∷ names_of more) = subst AreDistinct (ap names_of same ∙ map-append (λ (g : Given). g.name) options (given ∷ more)) line.once in
          named_among row name (subst IsName named (is_name row.options given is.0 h)) options b.given is.0 (subst (IsNamed name) b.spelled again)
          (subst (λ name. AllByRecursion (λ other. ¬ (name ≡ other)) (names_of options)) named (distinct_before (names_of options) (names_of more) given.name once))

    -- where no option is given next, the plain values stand there
    pub values_left : GivesNone (IsGivenOf row.options) (drop at words) → IsTaken row (row.word ∷ words) ↔ ((plain : List ℕ) × ArePlain row.plain plain (drop at words))
    values_left none = (from, to)
      where
        from : IsTaken row (row.word ∷ words) → (plain : List ℕ) × ArePlain row.plain plain (drop at words)
        from (all, plain, line) =
            let (more, same) = b.only all plain line in
            at_more more same (behind all more plain line same)
          where
            at_more : (more : List Given) → all ≡ options ++ more → drop at words ≡ flat_map given_words more ++ map natural_text plain → (plain : List ℕ) × ArePlain row.plain plain (drop at words)
            at_more [] same e = (plain, record { spelled = e; fewest = line.fewest; most = line.most; below = line.below })
            at_more (other ∷ more) same e =
                let also = all_at (IsGivenOf row.options) options more other (subst (AllByRecursion (IsGivenOf row.options)) same line.given) in
                absurd (none other (flat_map given_words more ++ map natural_text plain) also (e ∙ append_assoc (given_words other) (flat_map given_words more) (map natural_text plain)))

        to : (plain : List ℕ) × ArePlain row.plain plain (drop at words) → IsTaken row (row.word ∷ words)
        to (plain, p) = (
          options,
          plain,
          record {
            spelled = ap (λ ws. row.word ∷ ws) (sym (take-append-drop at words) ∙ ap (λ front. front ++ drop at words) b.spelled ∙ ap (λ end. flat_map given_words options ++ end) p.spelled);
            given = b.given;
            once = b.once;
            fewest = p.fewest;
            most = p.most;
            below = p.below;
          },
        )

-- ---- the bytes of some of the words
pub bytes_before : (words : List (String Global)) (at : ℕ) → map string_bytes (take at words) ≡ take at (map string_bytes words)
bytes_before words at = sym (take-map string_bytes at words)

pub bytes_behind : (words : List (String Global)) (at : ℕ) → map string_bytes (take (length words - at) (drop at words)) ≡ drop at (map string_bytes words)
bytes_behind words at = ap (map string_bytes) (take_rest words at) ∙ sym (drop-map string_bytes at words)

-- ---- words that are looked at one after another
pub words_from : (words : List (String Global)) (i : ℕ) (word : String Global) → i < length words → word ≡ get_or words i word
    → map string_bytes (drop i words) ≡ string_bytes word ∷ map string_bytes (drop (i + 1) words)
words_from words i word less is = ap (map string_bytes) (drop_more words i word less) ∙ ap (λ w. string_bytes w ∷ map string_bytes (drop (i + 1) words)) (sym is)

no_words : (words : List (String Global)) (i : ℕ) → length words ≤ i → map string_bytes (drop i words) ≡ []
no_words [] zero past = refl
no_words [] (suc i) past = refl
no_words (word ∷ words) zero past = absurd (omega arith)
no_words (word ∷ words) (suc i) past = no_words words i (omega arith)

-- ---- words that name an option
module _ (name : List ℕ) (words : List (String Global)) (i : ℕ) where
  -- none of those before this place does
  abbrev pub NamesLater : Type 0
  NamesLater = IsNamed name (map string_bytes words) → IsNamed name (map string_bytes (drop i words))

  pub named_later : (word : String Global) → i < length words → word ≡ get_or words i word → NamesLater → ¬ (NamesOption name (string_bytes word))
      → IsNamed name (map string_bytes words) → IsNamed name (map string_bytes (drop (i + 1) words))
  named_later word less is later other h = elim (subst (IsNamed name) (words_from words i word less is) (later h)) [
    | inl here ↦ absurd (other here)
    | inr behind ↦ behind
  ]

  pub named_never : length words ≤ i → NamesLater → ¬ (IsNamed name (map string_bytes words))
  named_never past later h = subst (IsNamed name) (no_words words i past) (later h)

pub named_here : (name : List ℕ) (words : List (String Global)) (i : ℕ) (word : String Global) → i < length words → word ≡ get_or words i word → NamesOption name (string_bytes word) → IsNamed name (map string_bytes words)
named_here name [] i word less is h = absurd (omega arith)
named_here name (first ∷ words) zero word less is h = inl (subst (λ w. NamesOption name (string_bytes w)) is h)
named_here name (first ∷ words) (suc i) word less is h = inr (named_here name words i word (omega arith) is h)

-- ---- words that are plain values
abbrev pub AreBelow : ℕ → List (List ℕ) → Type 0
AreBelow bound = AllByRecursion (IsBelow bound)

values_of : (bound : ℕ) (words : List (List ℕ)) → AreBelow bound words → (plain : List ℕ) × (words ≡ map natural_text plain) × AllByRecursion (λ n. n < bound) plain
values_of bound [] all = ([], refl, tt)
values_of bound (word ∷ words) ((n, is, below), all) =
    let (plain, e, rest) = values_of bound words all in
    (n ∷ plain, ap₂ (λ (w : List ℕ) (ws : List (List ℕ)). w ∷ ws) is e, (below, rest))

below_all : (bound : ℕ) (plain : List ℕ) → AllByRecursion (λ n. n < bound) plain → AreBelow bound (map natural_text plain)
below_all bound [] all = tt
below_all bound (n ∷ plain) all = ((n, refl, all.0), below_all bound plain all.1)

-- the words are plain values exactly where each of them is a number below the bound, and they are as many as may be
pub plain_words : (bounds : PlainBounds) (words : List (List ℕ)) → bounds.fewest ≤ length words → length words ≤ bounds.most → AreBelow bounds.below words → (plain : List ℕ) × ArePlain bounds plain words
plain_words bounds words fewest most all =
    let (plain, e, below) = values_of bounds.below words all in
    let same : length words ≡ length plain = ap length e ∙ length-map plain natural_text in
    (plain, record { spelled = e; fewest = omega (arith, same); most = omega (arith, same); below = below })

pub plain_below : (bounds : PlainBounds) (words : List (List ℕ)) (plain : List ℕ) → ArePlain bounds plain words → AreBelow bounds.below words
plain_below bounds words plain p = subst (AreBelow bounds.below) (sym p.spelled) (below_all bounds.below plain p.below)

pub plain_count : (bounds : PlainBounds) (words : List (List ℕ)) (plain : List ℕ) → ArePlain bounds plain words → (bounds.fewest ≤ length words) × (length words ≤ bounds.most)
plain_count bounds words plain p = let same : length words ≡ length plain = ap length p.spelled ∙ length-map plain natural_text in (omega (arith, same, p.fewest), omega (arith, same, p.most))

module _ (bound : ℕ) (words : List (String Global)) (i : ℕ) where
  -- the words are below the bound exactly where those from this place on are
  abbrev pub BelowLater : Type 0
  BelowLater = AreBelow bound (map string_bytes words) ↔ AreBelow bound (map string_bytes (drop i words))

  pub below_later : (word : String Global) → i < length words → word ≡ get_or words i word → BelowLater → IsBelow bound (string_bytes word)
      → AreBelow bound (map string_bytes words) ↔ AreBelow bound (map string_bytes (drop (i + 1) words))
  below_later word less is later below =
      let split = words_from words i word less is in
      (λ all. (subst (AreBelow bound) split (later.0 all)).1, λ all. later.1 (subst (AreBelow bound) (sym split) (below, all)))

  pub not_below : (word : String Global) → i < length words → word ≡ get_or words i word → BelowLater → ¬ (IsBelow bound (string_bytes word)) → ¬ (AreBelow bound (map string_bytes words))
  not_below word less is later above all = above (subst (AreBelow bound) (words_from words i word less is) (later.0 all)).0

  pub below_to_end : length words ≤ i → BelowLater → AreBelow bound (map string_bytes words)
  below_to_end past later = later.1 (subst (AreBelow bound) (sym (no_words words i past)) tt)
