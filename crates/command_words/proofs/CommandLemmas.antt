-- Words name one command.
use Rattle.std.proofs.Common.{◌≡◌, ◌∙◌, ℕ, ◌≤◌, length, List, [], ◌∷◌, ◌++◌, map, codes, Option, Some, None, Bool, false, IsTrue, ◌↔◌, IsSome, true≢false, MatchOption, refl, ap, ap₂, sym, subst, arith}
use Rattle.std.specs.Prelude.{IsSomeAnd, get_or}
use Rattle.std.specs.List.{AllByRecursion, flat_map}
use Rattle.std.specs.Str.{bytes_eq}
use Rattle.std.proofs.lemmas.List.{append_assoc}
use Rattle.std.proofs.lemmas.Slice.Eq.{bytes_eq-Decides}
use Rattle.plane.specs.Spelling.{natural_text}
use Rattle.command_words.specs.declared.rows.NumberBounds.{NumberBounds}
use Rattle.command_words.specs.declared.command.Command.{Command}
use Rattle.command_words.specs.declared.command.Command.TheVariants.{Check, Base, Region, Path, Plain, Group, Make, Trial}
use Rattle.command_words.specs.Lines.{OptionRow, CommandRow, Given, given_words, IsGivenOf, AreDistinct, IsLine, IsTaken, number_given, is_given}
use Rattle.command_words.specs.Grammar.{check_row, base_row, region_row, path_row, plain_row, group_row, make_row, trial_row, flips_option, limit_option, workers_option, summary_option}
use Rattle.command_words.specs.Commands.{IsNumberOf, row_of_command, Names, AreTaken}
use Rattle.command_words.specs.Fronts.{IsRow}
use Rattle.command_words.proofs.GivenLemmas.{one_given}
use Rattle.command_words.proofs.LineLemmas.{plain_first}
use Rattle.command_words.proofs.ValueLemmas.{same_values}

-- an option with a number has one in every line
some_number : (one : OptionRow) (options : List Given) → IsSome one.numbers → (n : ℕ) × IsNumberOf one options n
some_number one options some = at (number_given one.name options) one.numbers some
  where
    at : (given : Option ℕ) (numbers : Option NumberBounds) → IsSome numbers → (n : ℕ) × MatchOption given (IsSomeAnd numbers (λ numbers. n ≡ numbers.unless_given)) (λ m. n ≡ m)
    at (Some m) numbers some = (m, refl)
    at None (Some numbers) some = (numbers.unless_given, refl)
    at None None some = absurd (true≢false (sym some))

-- so a line of a command's row names a command
pub check_taken : (words : List (List ℕ)) → IsTaken check_row words → AreTaken words
check_taken words (options, plain, line) = (Check, (options, plain, line, tt))

pub base_taken : (words : List (List ℕ)) → IsTaken base_row words → AreTaken words
base_taken words (options, plain, line) = let (flips, is) = some_number flips_option options refl in (Base flips, (options, plain, line, is))

pub region_taken : (words : List (List ℕ)) → IsTaken region_row words → AreTaken words
region_taken words (options, plain, line) = let (flips, is) = some_number flips_option options refl in (Region flips, (options, plain, line, is))

pub path_taken : (words : List (List ℕ)) → IsTaken path_row words → AreTaken words
path_taken words (options, plain, line) = let (flips, is) = some_number flips_option options refl in (Path flips plain, (options, plain, line, (is, refl)))

pub plain_taken : (words : List (List ℕ)) → IsTaken plain_row words → AreTaken words
plain_taken words (options, plain, line) =
    let (flips, is) = some_number flips_option options refl in
    let (limit, has) = some_number limit_option options refl in
    (Plain flips limit (is_given summary_option.name options), (options, plain, line, (is, has, refl)))

pub group_taken : (words : List (List ℕ)) → IsTaken group_row words → AreTaken words
group_taken words (options, plain, line) =
    let (flips, is) = some_number flips_option options refl in
    let (limit, has) = some_number limit_option options refl in
    let (workers, share) = some_number workers_option options refl in
    (Group flips limit workers, (options, plain, line, (is, has, share)))

-- one plain value
one_value : (plain : List ℕ) → 1 ≤ length plain → length plain ≤ 1 → (n : ℕ) × (plain ≡ n ∷ [])
one_value [] some few = absurd (omega arith)
one_value (n ∷ []) some few = (n, refl)
one_value (n ∷ m ∷ plain) some few = absurd (omega arith)

pub make_taken : (words : List (List ℕ)) → IsTaken make_row words → AreTaken words
make_taken words (options, plain, line) = let (number, is) = one_value plain line.fewest line.most in (Make number, (options, plain, line, is))

pub trial_taken : (words : List (List ℕ)) → IsTaken trial_row words → AreTaken words
trial_taken words (options, plain, line) =
    let (flips, is) = some_number flips_option options refl in
    let (limit, has) = some_number limit_option options refl in
    let (number, one) = one_value plain line.fewest line.most in
    (Trial flips limit number, (options, plain, line, (is, has, one)))

-- and words that are a line of no row name none
pub refused_row : (row : CommandRow) (slice words : List (List ℕ)) (r : Bool) → slice ≡ words → (IsTrue r ↔ IsTaken row slice) → r ≡ false → ¬ (IsTaken row words)
refused_row row slice words r same tells unlike taken = true≢false (sym (tells.1 (subst (IsTaken row) (sym same) taken)) ∙ unlike)

pub none_taken : (words : List (List ℕ)) → ¬ (IsTaken check_row words) → ¬ (IsTaken base_row words) → ¬ (IsTaken region_row words) → ¬ (IsTaken path_row words) → ¬ (IsTaken plain_row words)
    → ¬ (IsTaken group_row words) → ¬ (IsTaken make_row words) → ¬ (IsTaken trial_row words) → ¬ (AreTaken words)
none_taken words check base region path plain group make trial (Check, (options, values, line, is)) = check (options, values, line)
none_taken words check base region path plain group make trial (Base flips, (options, values, line, is)) = base (options, values, line)
none_taken words check base region path plain group make trial (Region flips, (options, values, line, is)) = region (options, values, line)
none_taken words check base region path plain group make trial (Path flips choices, (options, values, line, is)) = path (options, values, line)
none_taken words check base region path plain group make trial (Plain flips limit summary, (options, values, line, is)) = plain (options, values, line)
none_taken words check base region path plain group make trial (Group flips limit workers, (options, values, line, is)) = group (options, values, line)
none_taken words check base region path plain group make trial (Make number, (options, values, line, is)) = make (options, values, line)
none_taken words check base region path plain group make trial (Trial flips limit number, (options, values, line, is)) = trial (options, values, line)

-- ---- a line has one spelling
same_line : (row : CommandRow) → IsRow row → (options others : List Given) (plain values : List ℕ) → AllByRecursion (IsGivenOf row.options) options → AllByRecursion (IsGivenOf row.options) others
    → flat_map given_words options ++ map natural_text plain ≡ flat_map given_words others ++ map natural_text values → (options ≡ others) × (plain ≡ values)
same_line row is [] [] plain values given also e = (refl, same_values plain values e)
same_line row is [] (o ∷ others) plain values given also e = absurd (plain_first plain o (flat_map given_words others ++ map natural_text values) (e ∙ append_assoc (given_words o) (flat_map given_words others) (map natural_text values)))
same_line row is (g ∷ options) [] plain values given also e = absurd (plain_first values g (flat_map given_words options ++ map natural_text plain) (sym e ∙ append_assoc (given_words g) (flat_map given_words options) (map natural_text plain)))
same_line row is (g ∷ options) (o ∷ others) plain values given also e =
    let first = one_given row g o (flat_map given_words options ++ map natural_text plain) (flat_map given_words others ++ map natural_text values) is given.0 also.0
    (sym (append_assoc (given_words g) (flat_map given_words options) (map natural_text plain)) ∙ e ∙ append_assoc (given_words o) (flat_map given_words others) (map natural_text values)) in
    let rest = same_line row is options others plain values given.1 also.1 first.1 in
    (ap₂ (λ (x : Given) (xs : List Given). x ∷ xs) first.0 rest.0, rest.1)

one_line : (row : CommandRow) → IsRow row → (words : List (List ℕ)) (options others : List Given) (plain values : List ℕ) → IsLine row options plain words → IsLine row others values words
    → (options ≡ others) × (plain ≡ values)
one_line row is words options others plain values line also =
    let whole : row.word ∷ (flat_map given_words options ++ map natural_text plain) ≡ row.word ∷ (flat_map given_words others ++ map natural_text values) = sym line.spelled ∙ also.spelled in
    same_line row is options others plain values line.given also.given cc

-- an option has one number in a line
same_number : (one : OptionRow) (options : List Given) (m n : ℕ) → IsNumberOf one options m → IsNumberOf one options n → m ≡ n
same_number one options m n h k = at (number_given one.name options) one.numbers h k
  where
    at : (given : Option ℕ) (numbers : Option NumberBounds) → MatchOption given (IsSomeAnd numbers (λ numbers. m ≡ numbers.unless_given)) (λ g. m ≡ g)
        → MatchOption given (IsSomeAnd numbers (λ numbers. n ≡ numbers.unless_given)) (λ g. n ≡ g) → m ≡ n
    at (Some g) numbers h k = h ∙ sym k
    at None (Some numbers) h k = h ∙ sym k
    at None None h k = absurd h

-- ---- words name one command
flips_letters : AllByRecursion (λ byte. ¬ (byte ≡ 61)) (codes "flips")
flips_letters = ((λ e. omega arith), ((λ e. omega arith), ((λ e. omega arith), ((λ e. omega arith), ((λ e. omega arith), tt)))))

base_is : IsRow base_row
base_is = ((((λ e. cc), flips_letters, (λ e. cc)), tt), (tt, tt))

region_is : IsRow region_row
region_is = ((((λ e. cc), flips_letters, (λ e. cc)), tt), (tt, tt))

path_is : IsRow path_row
path_is = ((((λ e. cc), flips_letters, (λ e. cc)), tt), (tt, tt))

limit_letters : AllByRecursion (λ byte. ¬ (byte ≡ 61)) (codes "limit")
limit_letters = ((λ e. omega arith), ((λ e. omega arith), ((λ e. omega arith), ((λ e. omega arith), ((λ e. omega arith), tt)))))

pub limit_flips : ¬ (codes "limit" ≡ codes "flips")
limit_flips e = let first : get_or (codes "limit") 0 0 ≡ get_or (codes "flips") 0 0 = ap (λ (word : List ℕ). get_or word 0 0) e in omega (arith, first)

summary_letters : AllByRecursion (λ byte. ¬ (byte ≡ 61)) (codes "summary")
summary_letters = (
  (λ e. omega arith),
  ((λ e. omega arith), ((λ e. omega arith), ((λ e. omega arith), ((λ e. omega arith), ((λ e. omega arith), ((λ e. omega arith), tt)))))),
)

pub summary_flips : ¬ (codes "summary" ≡ codes "flips")
summary_flips e = let first : get_or (codes "summary") 0 0 ≡ get_or (codes "flips") 0 0 = ap (λ (word : List ℕ). get_or word 0 0) e in omega (arith, first)

pub summary_limit : ¬ (codes "summary" ≡ codes "limit")
summary_limit e = let first : get_or (codes "summary") 0 0 ≡ get_or (codes "limit") 0 0 = ap (λ (word : List ℕ). get_or word 0 0) e in omega (arith, first)

workers_letters : AllByRecursion (λ byte. ¬ (byte ≡ 61)) (codes "workers")
workers_letters = (
  (λ e. omega arith),
  ((λ e. omega arith), ((λ e. omega arith), ((λ e. omega arith), ((λ e. omega arith), ((λ e. omega arith), ((λ e. omega arith), tt)))))),
)

pub workers_flips : ¬ (codes "workers" ≡ codes "flips")
workers_flips e = let first : get_or (codes "workers") 0 0 ≡ get_or (codes "flips") 0 0 = ap (λ (word : List ℕ). get_or word 0 0) e in omega (arith, first)

pub workers_limit : ¬ (codes "workers" ≡ codes "limit")
workers_limit e = let first : get_or (codes "workers") 0 0 ≡ get_or (codes "limit") 0 0 = ap (λ (word : List ℕ). get_or word 0 0) e in omega (arith, first)

-- the names of the options of `plain`, of `group` and of `trial` differ
pub plain_names : AreDistinct (map (λ (o : OptionRow). o.name) plain_row.options)
plain_names = ((limit_flips, (summary_flips, tt)), ((summary_limit, tt), (tt, tt)))

pub group_names : AreDistinct (map (λ (o : OptionRow). o.name) group_row.options)
group_names = ((limit_flips, (workers_flips, tt)), ((workers_limit, tt), (tt, tt)))

pub trial_names : AreDistinct (map (λ (o : OptionRow). o.name) trial_row.options)
trial_names = ((limit_flips, tt), (tt, tt))

plain_is : IsRow plain_row
plain_is = ((((λ e. cc), flips_letters, (λ e. cc)), (((λ e. cc), limit_letters, (λ e. cc)), (((λ e. cc), summary_letters, not_values), tt))), plain_names)
  where
    not_values : ¬ (codes "summary" ≡ codes "values")
    not_values e = let first : get_or (codes "summary") 0 0 ≡ get_or (codes "values") 0 0 = ap (λ (word : List ℕ). get_or word 0 0) e in omega (arith, first)

group_is : IsRow group_row
group_is = ((((λ e. cc), flips_letters, (λ e. cc)), (((λ e. cc), limit_letters, (λ e. cc)), (((λ e. cc), workers_letters, not_values), tt))), group_names)
  where
    not_values : ¬ (codes "workers" ≡ codes "values")
    not_values e = let first : get_or (codes "workers") 0 0 ≡ get_or (codes "values") 0 0 = ap (λ (word : List ℕ). get_or word 0 0) e in omega (arith, first)

make_is : IsRow make_row
make_is = (tt, tt)

trial_is : IsRow trial_row
trial_is = ((((λ e. cc), flips_letters, (λ e. cc)), (((λ e. cc), limit_letters, (λ e. cc)), tt)), trial_names)

-- lines of rows with different words differ
other_word : (row other : CommandRow) (words : List (List ℕ)) → ¬ (row.word ≡ other.word) → (options others : List Given) (plain values : List ℕ) → IsLine row options plain words → ¬ (IsLine other others values words)
other_word row other words apart options others plain values line also =
    let e : row.word ∷ (flat_map given_words options ++ map natural_text plain) ≡ other.word ∷ (flat_map given_words others ++ map natural_text values) = sym line.spelled ∙ also.spelled in
    apart (ap (λ (list : List (List ℕ)). get_or list 0 []) e)

-- words that a test tells apart
unlike : (word other : List ℕ) → bytes_eq word other ≡ false → ¬ (word ≡ other)
unlike word other apart same = true≢false (sym ((bytes_eq-Decides word other).1 same) ∙ apart)

-- lists of one number
one_head : (m n : ℕ) → m ∷ [] ≡ n ∷ [] → m ≡ n
one_head m n e = ap (λ (list : List ℕ). get_or list 0 0) e

pub one_command : (words : List (List ℕ)) (one other : Command) → Names words one → Names words other → one ≡ other
one_command words Check Check h k = refl
one_command words (Base m) (Base n) (options, plain, line, is) (others, values, also, so) =
    let same = one_line base_row base_is words options others plain values line also in
    ap Base (same_number flips_option options m n is (subst (λ os. IsNumberOf flips_option os n) (sym same.0) so))
one_command words (Region m) (Region n) (options, plain, line, is) (others, values, also, so) =
    let same = one_line region_row region_is words options others plain values line also in
    ap Region (same_number flips_option options m n is (subst (λ os. IsNumberOf flips_option os n) (sym same.0) so))
one_command words (Path m choices) (Path n others) (options, plain, line, is) (also_options, values, also, so) =
    let same = one_line path_row path_is words options also_options plain values line also in
    ap₂ Path (same_number flips_option options m n is.0 (subst (λ os. IsNumberOf flips_option os n) (sym same.0) so.0)) (is.1 ∙ same.1 ∙ sym so.1)
one_command words (Plain m limit summary) (Plain n other also_summary) (options, plain, line, is) (others, values, also, so) =
    let same = one_line plain_row plain_is words options others plain values line also in
    let flips = same_number flips_option options m n is.0 (subst (λ os. IsNumberOf flips_option os n) (sym same.0) so.0) in
    let limits = same_number limit_option options limit other is.1 (subst (λ os. IsNumberOf limit_option os other) (sym same.0) so.1) in
    let summaries : summary ≡ also_summary = is.2 ∙ ap (is_given summary_option.name) same.0 ∙ sym so.2 in
    λ i. Plain (flips i) (limits i) (summaries i)
one_command words (Group m limit workers) (Group n other also_workers) (options, plain, line, is) (others, values, also, so) =
    let same = one_line group_row group_is words options others plain values line also in
    let flips = same_number flips_option options m n is.0 (subst (λ os. IsNumberOf flips_option os n) (sym same.0) so.0) in
    let limits = same_number limit_option options limit other is.1 (subst (λ os. IsNumberOf limit_option os other) (sym same.0) so.1) in
    let shares = same_number workers_option options workers also_workers is.2 (subst (λ os. IsNumberOf workers_option os also_workers) (sym same.0) so.2) in
    λ i. Group (flips i) (limits i) (shares i)
one_command words (Make m) (Make n) (options, plain, line, is) (others, values, also, so) =
    let same = one_line make_row make_is words options others plain values line also in
    ap Make (one_head m n (sym is ∙ same.1 ∙ so))
one_command words (Trial m limit number) (Trial n other also_number) (options, plain, line, is) (others, values, also, so) =
    let same = one_line trial_row trial_is words options others plain values line also in
    let flips = same_number flips_option options m n is.0 (subst (λ os. IsNumberOf flips_option os n) (sym same.0) so.0) in
    let limits = same_number limit_option options limit other is.1 (subst (λ os. IsNumberOf limit_option os other) (sym same.0) so.1) in
    let numbers = one_head number also_number (sym is.2 ∙ same.1 ∙ so.2) in
    λ i. Trial (flips i) (limits i) (numbers i)
one_command words one other h k =
    absurd (other_word (row_of_command one) (row_of_command other) words (unlike (row_of_command one).word (row_of_command other).word refl) h.0 k.0 h.1 k.1 h.2 k.2)
