-- The least cause of a line: the causes below a number are ruled out one after another.
use Rattle.std.proofs.Common.{◌≡◌, ◌≢◌, ℕ, ◌+◌, ◌<◌, ◌≤◌, inl, inr, List, [], ◌∷◌, ◌++◌, get_or, codes, Contains, refl, ap, sym, ◌∙◌, subst, arith}
use Rattle.std.specs.List.{AllByRecursion}
use Rattle.std.proofs.lemmas.Bool.{cases_lt}
use Rattle.surface_text.specs.declared.cause.Cause.{Cause}
use Rattle.surface_text.specs.declared.cause.Cause.TheVariants.{NoLine, CutLine, BadByte, BadFirst, BadKind, BadForm, BadNumber, BadField, BadBase, ManyBases, FewSides, ManyPolygons, BadName, AfterEnd}
use Rattle.surface_text.specs.Spelling.{Line}
use Rattle.surface_text.specs.Causes.{number_of, FrontOf, words_after, IsWanted, IsPrinted, IsLine, HoldsOfLine, HoldsOfNext, Holds, IsLeast}
use Rattle.surface_text.specs.Lines.{IsNextLine, IsNoNextLine}
use Rattle.surface_text.specs.Faults.{IsLeastOfLine}
use Rattle.surface_text.proofs.Stops.{same_front}

-- the cause of a number
abbrev cause_at : ℕ → Cause
cause_at n =
    get_or (AfterEnd ∷ NoLine ∷ CutLine ∷ BadByte ∷ BadFirst ∷ BadKind ∷ BadForm ∷ BadNumber ∷ BadField ∷ BadBase ∷ ManyBases ∷ FewSides ∷ ManyPolygons ∷ BadName ∷ []) n AfterEnd

cause_back : (cause : Cause) → cause_at (number_of cause) ≡ cause
cause_back NoLine = refl
cause_back CutLine = refl
cause_back BadByte = refl
cause_back BadFirst = refl
cause_back BadKind = refl
cause_back BadForm = refl
cause_back BadNumber = refl
cause_back BadField = refl
cause_back BadBase = refl
cause_back ManyBases = refl
cause_back FewSides = refl
cause_back ManyPolygons = refl
cause_back BadName = refl
cause_back AfterEnd = refl

-- causes of the same number
one_cause : (a b : Cause) → number_of a ≡ number_of b → a ≡ b
one_cause a b e = sym (cause_back a) ∙ ap cause_at e ∙ cause_back b

numbered : (cause : Cause) → 1 ≤ number_of cause
numbered NoLine = omega arith
numbered CutLine = omega arith
numbered BadByte = omega arith
numbered BadFirst = omega arith
numbered BadKind = omega arith
numbered BadForm = omega arith
numbered BadNumber = omega arith
numbered BadField = omega arith
numbered BadBase = omega arith
numbered ManyBases = omega arith
numbered FewSides = omega arith
numbered ManyPolygons = omega arith
numbered BadName = omega arith
numbered AfterEnd = omega arith

-- no cause with a number below this one holds of the line
abbrev pub IsFreeBelow : ℕ → List Line → List ℕ → Type 0
IsFreeBelow n before bytes = (other : Cause) → number_of other < n → ¬ (HoldsOfLine other before bytes)

-- one cause more is ruled out
pub free_next : (before : List Line) (bytes : List ℕ) (cause : Cause) → IsFreeBelow (number_of cause) before bytes → ¬ (HoldsOfLine cause before bytes)
    → IsFreeBelow (number_of cause + 1) before bytes
free_next before bytes cause free not other below held =
    elim (cases_lt (number_of other) (number_of cause)) [
      | inl less ↦ free other less held
      | inr more ↦ not (subst (λ (c : Cause). HoldsOfLine c before bytes) (one_cause other cause (omega arith)) held)
    ]

-- a line of printed characters
pub free_printed : (before : List Line) (bytes : List ℕ) → AllByRecursion IsPrinted bytes → IsFreeBelow 4 before bytes
free_printed before bytes printed =
    let none : IsFreeBelow 1 before bytes = λ other below held. let low = numbered other in absurd (omega arith) in
    let one : IsFreeBelow 2 before bytes = free_next before bytes NoLine none (λ held. held.2) in
    let two : IsFreeBelow 3 before bytes = free_next before bytes CutLine one (λ held. held.2) in
    free_next before bytes BadByte two (λ not. not printed)

-- behind the first line
pub free_later : (before : List Line) (bytes : List ℕ) → before ≢ [] → AllByRecursion IsPrinted bytes → IsFreeBelow 5 before bytes
free_later before bytes some printed = free_next before bytes BadFirst (free_printed before bytes printed) (λ held. some held.0)

-- a word that may stand
pub free_word : (before : List Line) (bytes : List ℕ) {word tail : List ℕ} → before ≢ [] → AllByRecursion IsPrinted bytes → FrontOf 32 bytes word tail
    → Contains (words_after before) word → IsFreeBelow 6 before bytes
free_word before bytes some printed front stands =
    free_next before bytes BadKind (free_later before bytes some printed)
    (λ held. let other = held.2 in
    let same = same_front front held.0 held.1 other.lacks other.stops other.found in
    held.3 (subst (Contains (words_after before)) same.0 stands))

-- a line in its form
pub free_formed : (before : List Line) (bytes : List ℕ) {word tail : List ℕ} → before ≢ [] → AllByRecursion IsPrinted bytes → FrontOf 32 bytes word tail
    → Contains (words_after before) word → (line : Line) → IsLine bytes line → IsFreeBelow 7 before bytes
free_formed before bytes some printed front stands line is = free_next before bytes BadForm (free_word before bytes some printed front stands) (λ none. none line is)

-- the first line is another
pub first_bad : (bytes : List ℕ) → AllByRecursion IsPrinted bytes → bytes ≢ codes "flat 1" → IsLeastOfLine BadFirst [] bytes
first_bad bytes printed other = record { holds = (refl, other); least = free_printed [] bytes printed }

-- a word that may not stand
pub kind_bad : (before : List Line) (bytes : List ℕ) {word tail : List ℕ} → before ≢ [] → AllByRecursion IsPrinted bytes → FrontOf 32 bytes word tail
    → ¬ (Contains (words_after before) word) → IsLeastOfLine BadKind before bytes
kind_bad before bytes {word = word} {tail = tail} some printed front not = record { holds = (word, tail, front, not); least = free_later before bytes some printed }

-- a line that is in no form
pub form_bad : (before : List Line) (bytes : List ℕ) {word tail : List ℕ} → before ≢ [] → AllByRecursion IsPrinted bytes → FrontOf 32 bytes word tail
    → Contains (words_after before) word → ((line : Line) → ¬ (IsLine bytes line)) → IsLeastOfLine BadForm before bytes
form_bad before bytes some printed front stands none = record { holds = none; least = free_word before bytes some printed front stands }

-- bytes that have the stop
has_stop : (stop : ℕ) (xs ys : List ℕ) → ¬ (AllByRecursion (λ byte. byte ≢ stop) (xs ++ stop ∷ ys))
has_stop stop [] ys all = all.0 refl
has_stop stop (x ∷ xs) ys all = has_stop stop xs ys all.1

not_nothing : (xs ys : List ℕ) (y : ℕ) → xs ++ y ∷ ys ≢ []
not_nothing [] ys y e = absurd (cc)
not_nothing (x ∷ xs) ys y e = absurd (cc)

-- what holds of the next line holds of these bytes
of_next : (cause : Cause) (before : List Line) {rest bytes after : List ℕ} → FrontOf 10 rest bytes (10 ∷ after) → HoldsOfNext cause before rest → HoldsOfLine cause before bytes
of_next cause before front held =
    let other = held.splits in
    let same = same_front front held.bytes (10 ∷ held.more) other.lacks other.stops other.found in
    subst (HoldsOfLine cause before) (sym same.0) held.holds

to_next : (cause : Cause) (before : List Line) {rest bytes after : List ℕ} → IsWanted before → FrontOf 10 rest bytes (10 ∷ after) → HoldsOfLine cause before bytes
    → HoldsOfNext cause before rest
to_next cause before {bytes = bytes} {after = after} wanted front held = record { bytes = bytes; more = after; wanted = wanted; splits = front; holds = held }

no_line : (before : List Line) {rest bytes after : List ℕ} → FrontOf 10 rest bytes (10 ∷ after) → ¬ (Holds NoLine before rest)
no_line before {bytes = bytes} {after = after} front held = not_nothing bytes after 10 (sym front.found ∙ held.1)

no_cut : (before : List Line) {rest bytes after : List ℕ} → FrontOf 10 rest bytes (10 ∷ after) → ¬ (Holds CutLine before rest)
no_cut before {bytes = bytes} {after = after} front held = has_stop 10 bytes after (subst (AllByRecursion (λ byte. byte ≢ 10)) front.found held.2)

-- a cause of the rest is one of the line
line_cause : (before : List Line) {rest bytes after : List ℕ} → IsWanted before → FrontOf 10 rest bytes (10 ∷ after)
    → (cause : Cause) → Holds cause before rest → HoldsOfLine cause before bytes
line_cause before wanted front NoLine held = absurd (no_line before front held)
line_cause before wanted front CutLine held = absurd (no_cut before front held)
line_cause before wanted front BadByte held = of_next BadByte before front held
line_cause before wanted front BadFirst held = of_next BadFirst before front held
line_cause before wanted front BadKind held = of_next BadKind before front held
line_cause before wanted front BadForm held = of_next BadForm before front held
line_cause before wanted front BadNumber held = of_next BadNumber before front held
line_cause before wanted front BadField held = of_next BadField before front held
line_cause before wanted front BadBase held = of_next BadBase before front held
line_cause before wanted front ManyBases held = of_next ManyBases before front held
line_cause before wanted front FewSides held = of_next FewSides before front held
line_cause before wanted front ManyPolygons held = of_next ManyPolygons before front held
line_cause before wanted front BadName held = of_next BadName before front held
line_cause before wanted front AfterEnd held = absurd (held.0 wanted)

-- a cause of the line is one of the rest
rest_cause : (before : List Line) {rest bytes after : List ℕ} → IsWanted before → FrontOf 10 rest bytes (10 ∷ after)
    → (cause : Cause) → HoldsOfLine cause before bytes → Holds cause before rest
rest_cause before wanted front NoLine held = absurd (held.2)
rest_cause before wanted front CutLine held = absurd (held.2)
rest_cause before wanted front BadByte held = to_next BadByte before wanted front held
rest_cause before wanted front BadFirst held = to_next BadFirst before wanted front held
rest_cause before wanted front BadKind held = to_next BadKind before wanted front held
rest_cause before wanted front BadForm held = to_next BadForm before wanted front held
rest_cause before wanted front BadNumber held = to_next BadNumber before wanted front held
rest_cause before wanted front BadField held = to_next BadField before wanted front held
rest_cause before wanted front BadBase held = to_next BadBase before wanted front held
rest_cause before wanted front ManyBases held = to_next ManyBases before wanted front held
rest_cause before wanted front FewSides held = to_next FewSides before wanted front held
rest_cause before wanted front ManyPolygons held = to_next ManyPolygons before wanted front held
rest_cause before wanted front BadName held = to_next BadName before wanted front held
rest_cause before wanted front AfterEnd held = absurd (held.2)

-- the least cause of the next line is that of the rest
pub least_next : (cause : Cause) (before : List Line) {rest bytes after : List ℕ} → IsWanted before → IsNextLine rest bytes after
    → IsLeastOfLine cause before bytes → IsLeast cause before rest
least_next cause before wanted next line =
    record {
      holds = rest_cause before wanted next.0 cause line.holds;
      least = λ other below held. line.least other below (line_cause before wanted next.0 other held);
    }

-- where there is no next line
pub least_none : (before : List Line) (rest : List ℕ) → IsWanted before → (cause : Cause) → IsNoNextLine rest cause → IsLeast cause before rest
least_none before rest wanted NoLine none =
    record { holds = (wanted, none); least = λ other below held. let low = numbered other in absurd (omega arith) }
least_none before rest wanted CutLine none =
    record {
      holds = (wanted, none.0, none.1);
      least = λ other below held. let low = numbered other in
          let is : other ≡ NoLine = one_cause other NoLine (omega arith) in
          let first : Holds NoLine before rest = subst (λ (c : Cause). Holds c before rest) is held in none.0 first.1;
    }
least_none before rest wanted BadByte none =
    let found : HoldsOfLine BadByte before none.0 = none.3 in
    record {
      holds = to_next BadByte before wanted none.2 found;
      least = λ other below held. let low = numbered other in
          elim (cases_lt (number_of other) 2) [
            | inl less ↦ no_line before none.2 (subst (λ (c : Cause). Holds c before rest) (one_cause other NoLine (omega arith)) held)
            | inr more ↦ no_cut before none.2 (subst (λ (c : Cause). Holds c before rest) (one_cause other CutLine (omega arith)) held)
          ];
    }
least_none before rest wanted BadFirst none = absurd none
least_none before rest wanted BadKind none = absurd none
least_none before rest wanted BadForm none = absurd none
least_none before rest wanted BadNumber none = absurd none
least_none before rest wanted BadField none = absurd none
least_none before rest wanted BadBase none = absurd none
least_none before rest wanted ManyBases none = absurd none
least_none before rest wanted FewSides none = absurd none
least_none before rest wanted ManyPolygons none = absurd none
least_none before rest wanted BadName none = absurd none
least_none before rest wanted AfterEnd none = absurd none
