-- No text is neither that of a file within the limits nor refused.
use Rattle.std.proofs.Common.{◌≡◌, ◌≢◌, ◌⊎◌, inl, inr, ℕ, zero, suc, ◌+◌, ◌<◌, ◌≤◌, Bool, true, false, List, [], ◌∷◌, ◌++◌, length, get_or, codes, Contains, refl, ap, sym, ◌∙◌, subst, arith}
use Rattle.std.specs.List.{AllByRecursion}
use Rattle.std.proofs.lemmas.Bool.{cases_eq, cases_lt}
use Rattle.quad_field.specs.FieldNumber.{IsFieldNumber}
use Rattle.plane.specs.declared.vec2.Vec2.{Vec2}
use Rattle.surface_text.specs.declared.cause.Cause.{Cause}
use Rattle.surface_text.specs.declared.cause.Cause.TheVariants.{NoLine, CutLine, BadByte, BadFirst, BadKind, BadForm, BadNumber, BadField, BadBase, ManyBases, FewSides, ManyPolygons, BadName, AfterEnd}
use Rattle.surface_text.specs.Spelling.{Line, Content, line_text, word_of, tail_of, lines_then, lines_before_end}
use Rattle.surface_text.specs.Spelling.Line.{flat, field, base, polygon, glue, end}
use Rattle.surface_text.specs.Limits.{NamesSides}
use Rattle.surface_text.specs.Causes.{number_of, FrontOf, words_after, IsWanted, HasForm, IsLine, IsWrong, HoldsOfLine, HoldsOfNext, Holds, Stand, IsLeast, IsRefused}
use Rattle.surface_text.specs.Refusals.{IsTextOf}
use Rattle.surface_text.specs.Lines.{MayFollow, IsTaken, IsBody}
use Rattle.surface_text.specs.Faults.{words_by}
use Rattle.surface_text.proofs.Behind.{Tells, parts_words, parts_order, parts_bases, parts_polygons, some_words, bool_of, none_from}
use Rattle.surface_text.proofs.Outcomes.{BodySoFar, body_none, behind_two, line_longer, more_base, more_polygon, more_glue, more_end, late_refused}
use Rattle.surface_text.proofs.Spellings.{line_injective, word_lacks, tail_stops}
use Rattle.surface_text.proofs.Standing.{good_free, good_flat, stand_so_far}

-- where no cause is the least that holds, none holds
none_holds : (before : List Line) (rest : List ℕ) → ((k : Cause) → ¬ (IsLeast k before rest)) → (cause : Cause) → ¬ (Holds cause before rest)
none_holds before rest none cause = below (suc (number_of cause)) cause (omega arith)
  where
    below : (n : ℕ) (cause : Cause) → number_of cause < n → ¬ (Holds cause before rest)
    below zero cause less is = omega arith
    below (suc n) cause less is = none cause (record { holds = is; least = λ other lower. below n other (omega arith) })

-- bytes have no stop, or a first one
split : (stop : ℕ) (bytes : List ℕ) → AllByRecursion (λ byte. byte ≢ stop) bytes ⊎ ((front : List ℕ) × (more : List ℕ) × FrontOf stop bytes front (stop ∷ more))
split stop [] = inl tt
split stop (b ∷ bytes) = elim (cases_eq b stop) [
  | inl e ↦ inr ([], bytes, record { found = ap (λ (x : ℕ). x ∷ bytes) e; lacks = tt; stops = refl })
  | inr other ↦ elim (split stop bytes) [
    | inl all ↦ inl (other, all)
    | inr w ↦ inr (b ∷ w.0, w.1, record { found = ap (λ (xs : List ℕ). b ∷ xs) w.2.found; lacks = (other, w.2.lacks); stops = w.2.stops })
  ]
]

-- a line that no cause refuses behind these lines, and the rest behind it
record IsNext (before : List Line) (rest : List ℕ) (line : Line) (more : List ℕ) : Type 0 where
  spelled : rest ≡ line_text line ++ 10 ∷ more
  form : HasForm line
  right : (cause : Cause) → ¬ (IsWrong cause before line)
  word : ¬ (¬ (Contains (words_after before) (word_of line)))
  first : before ≡ [] → ¬ (line ≢ flat)

module _ (before : List Line) (rest : List ℕ) (wanted : IsWanted before) (free : (cause : Cause) → ¬ (Holds cause before rest)) where
  cut : AllByRecursion (λ byte. byte ≢ 10) rest → ⊥
  cut lacks = go rest refl
    where
      go : (bytes : List ℕ) → rest ≡ bytes → ⊥
      go [] e = free NoLine (wanted, e)
      go (b ∷ bytes) e = free CutLine (wanted, (λ none. let no : b ∷ bytes ≡ [] = sym e ∙ none in cc), lacks)

  module _ (bytes more : List ℕ) (front : FrontOf 10 rest bytes (10 ∷ more)) where
    next : (cause : Cause) → HoldsOfLine cause before bytes → HoldsOfNext cause before rest
    next cause holds = record { bytes = bytes; more = more; wanted = wanted; splits = front; holds = holds }

    right_of : (line : Line) → IsLine bytes line → (cause : Cause) → ¬ (IsWrong cause before line)
    right_of line is NoLine wrong = wrong
    right_of line is CutLine wrong = wrong
    right_of line is BadByte wrong = wrong
    right_of line is BadFirst wrong = wrong
    right_of line is BadKind wrong = wrong
    right_of line is BadForm wrong = wrong
    right_of line is BadNumber wrong = free BadNumber (next BadNumber (line, is, wrong))
    right_of line is BadField wrong = free BadField (next BadField (line, is, wrong))
    right_of line is BadBase wrong = free BadBase (next BadBase (line, is, wrong))
    right_of line is ManyBases wrong = free ManyBases (next ManyBases (line, is, wrong))
    right_of line is FewSides wrong = free FewSides (next FewSides (line, is, wrong))
    right_of line is ManyPolygons wrong = free ManyPolygons (next ManyPolygons (line, is, wrong))
    right_of line is BadName wrong = free BadName (next BadName (line, is, wrong))
    right_of line is AfterEnd wrong = wrong

    next_of : (line : Line) → IsLine bytes line → IsNext before rest line more
    next_of line is = record {
      spelled = front.found ∙ ap (λ (xs : List ℕ). xs ++ 10 ∷ more) is.0;
      form = is.1;
      right = right_of line is;
      word = λ none. free BadKind (next BadKind (word_of line, tail_of line, record { found = is.0; lacks = word_lacks line; stops = tail_stops line }, none));
      first = λ e other. free BadFirst (next BadFirst (e, (λ same. other (line_injective line flat (sym is.0 ∙ same)))));
    }

  -- where no cause holds, the rest begins with such a line
  next_line : ((line : Line) (more : List ℕ) → ¬ (IsNext before rest line more)) → ⊥
  next_line none = elim (split 10 rest) [
    | inl lacks ↦ cut lacks
    | inr w ↦ free BadForm (next w.0 w.1 w.2 BadForm (λ line is. none line w.1 (next_of w.0 w.1 w.2 line is)))
  ]

-- what isn't at least a bound is below it
fewer : (a b : ℕ) → ¬ (b ≤ a) → a < b
fewer a b h = elim (cases_lt a b) [ inl less ↦ less | inr more ↦ absurd (h more) ]

-- words that differ in a byte
apart : (xs ys : List ℕ) (i m n : ℕ) → get_or xs i 0 ≡ m → get_or ys i 0 ≡ n → m ≢ n → xs ≢ ys
apart xs ys i m n a b other e = other (sym a ∙ ap (λ (w : List ℕ). get_or w i 0) e ∙ b)

base_polygon : codes "base" ≢ codes "polygon"
base_polygon = apart (codes "base") (codes "polygon") 0 98 112 refl refl (λ e. omega arith)

base_glue : codes "base" ≢ codes "glue"
base_glue = apart (codes "base") (codes "glue") 0 98 103 refl refl (λ e. omega arith)

base_end : codes "base" ≢ codes "end"
base_end = apart (codes "base") (codes "end") 0 98 101 refl refl (λ e. omega arith)

polygon_glue : codes "polygon" ≢ codes "glue"
polygon_glue = apart (codes "polygon") (codes "glue") 0 112 103 refl refl (λ e. omega arith)

polygon_end : codes "polygon" ≢ codes "end"
polygon_end = apart (codes "polygon") (codes "end") 0 112 101 refl refl (λ e. omega arith)

-- `flat` and `field` are no words of lines behind the field line
begins_with_f : (word : List ℕ) → get_or word 0 0 ≡ 102 → (word ≢ codes "base") × (word ≢ codes "polygon") × (word ≢ codes "glue") × (word ≢ codes "end")
begins_with_f word first = (
  apart word (codes "base") 0 102 98 first refl (λ e. omega arith),
  apart word (codes "polygon") 0 102 112 first refl (λ e. omega arith),
  apart word (codes "glue") 0 102 103 first refl (λ e. omega arith),
  apart word (codes "end") 0 102 101 first refl (λ e. omega arith),
)

-- the word of each line among those that may stand
contains_base : (bare glueless : Bool) → Contains (words_by bare glueless) (codes "base") → bare ≡ true
contains_base true glueless has = refl
contains_base false true (zero, below, e) = absurd (base_polygon (sym e))
contains_base false true (suc zero, below, e) = absurd (base_glue (sym e))
contains_base false true (suc (suc zero), below, e) = absurd (base_end (sym e))
contains_base false true (suc (suc (suc k)), below, e) = absurd (omega (arith, below))
contains_base false false (zero, below, e) = absurd (base_glue (sym e))
contains_base false false (suc zero, below, e) = absurd (base_end (sym e))
contains_base false false (suc (suc k), below, e) = absurd (omega (arith, below))

contains_polygon : (bare glueless : Bool) → (bare ≡ true → glueless ≡ true) → Contains (words_by bare glueless) (codes "polygon") → glueless ≡ true
contains_polygon true glueless order has = order refl
contains_polygon false true order has = refl
contains_polygon false false order (zero, below, e) = absurd (polygon_glue (sym e))
contains_polygon false false order (suc zero, below, e) = absurd (polygon_end (sym e))
contains_polygon false false order (suc (suc k), below, e) = absurd (omega (arith, below))

-- words that don't stand where there is no polygon
contains_late : (glueless : Bool) (word : List ℕ) → word ≢ codes "base" → word ≢ codes "polygon" → ¬ (Contains (words_by true glueless) word)
contains_late glueless word one two (zero, below, e) = one (sym e)
contains_late glueless word one two (suc zero, below, e) = two (sym e)
contains_late glueless word one two (suc (suc k), below, e) = omega (arith, below)

contains_none : (bare glueless : Bool) (word : List ℕ) → word ≢ codes "base" → word ≢ codes "polygon" → word ≢ codes "glue" → word ≢ codes "end" → ¬ (Contains (words_by bare glueless) word)
contains_none true glueless word a b c d has = contains_late glueless word a b has
contains_none false true word a b c d (zero, below, e) = b (sym e)
contains_none false true word a b c d (suc zero, below, e) = c (sym e)
contains_none false true word a b c d (suc (suc zero), below, e) = d (sym e)
contains_none false true word a b c d (suc (suc (suc k)), below, e) = omega (arith, below)
contains_none false false word a b c d (zero, below, e) = c (sym e)
contains_none false false word a b c d (suc zero, below, e) = d (sym e)
contains_none false false word a b c d (suc (suc k), below, e) = omega (arith, below)

-- a text that is neither that of a file nor refused
module _ (bytes : List ℕ) (short : length bytes ≤ 1048576) (no_file : (file : Content) → ¬ (IsTextOf bytes file)) (not_refused : (cause line : ℕ) → ¬ (IsRefused bytes cause line)) where
  -- no cause holds behind lines that stand
  free_behind : (before : List Line) (rest : List ℕ) → bytes ≡ lines_then before rest → Stand [] before rest → (cause : Cause) → ¬ (Holds cause before rest)
  free_behind before rest found stand =
      none_holds before rest (λ k least. not_refused (number_of k) (length before + 1)
      (record { cause = k; before = before; rest = rest; found = found; stand = stand; least = least; number_is = refl; line_is = refl }))

  module _ (size : ℕ) (few : size ≤ 1048576) where
    module _ (file : Content) (rest : List ℕ) (was : BodySoFar bytes size file rest) where
      abbrev before : List Line
      before = lines_before_end file

      bare : (b : Bool) × Tells b file.polygons
      bare = bool_of file.polygons

      glueless : (b : Bool) × Tells b file.glues
      glueless = bool_of file.glues

      words_are : words_after before ≡ words_by bare.0 glueless.0
      words_are = parts_words file.field file.bases file.polygons file.glues bare.0 glueless.0 bare.1 glueless.1 was.so_far.glues

      order : bare.0 ≡ true → glueless.0 ≡ true
      order = parts_order file.polygons file.glues bare.0 glueless.0 bare.1 glueless.1 was.so_far.glues

      wanted : IsWanted before
      wanted none = some_words bare.0 glueless.0 (sym words_are ∙ none)

      -- some polygon stands before, where a word may stand that no earlier line begins with
      some_polygon : (word : List ℕ) → word ≢ codes "base" → word ≢ codes "polygon" → Contains (words_after before) word → 1 ≤ length file.polygons
      some_polygon word one two has = go file.polygons bare.0 bare.1 (subst (λ (words : List (List ℕ)). Contains words word) words_are has)
        where
          go : (ps : List (List Vec2)) (b : Bool) → Tells b ps → Contains (words_by b glueless.0) word → 1 ≤ length ps
          go [] b tells has = absurd (contains_late glueless.0 word one two (subst (λ (x : Bool). Contains (words_by x glueless.0) word) tells has))
          go (p ∷ ps) b tells has = omega arith

      -- a line that no cause refuses may follow
      may_follow : (line : Line) (more : List ℕ) → IsNext before rest line more → ¬ (¬ (MayFollow file line))
      may_follow flat more next none = let f = begins_with_f (codes "flat") refl in next.word (λ has. contains_none bare.0 glueless.0 (codes "flat") f.0 f.1 f.2 f.3 (subst (λ (words : List (List ℕ)). Contains words (codes "flat")) words_are has))
      may_follow (field d) more next none = let f = begins_with_f (codes "field") refl in next.word (λ has. contains_none bare.0 glueless.0 (codes "field") f.0 f.1 f.2 f.3 (subst (λ (words : List (List ℕ)). Contains words (codes "field")) words_are has))
      may_follow (base at) more next none =
          next.word (λ has. next.right BadNumber (λ bounded. next.right BadBase (λ above.
          let empty : bare.0 ≡ true = contains_base bare.0 glueless.0 (subst (λ (words : List (List ℕ)). Contains words (codes "base")) words_are has) in
          let small : length file.bases < 8 = fewer (length file.bases) 8 (λ many. next.right ManyBases (tt, subst (λ (n : ℕ). 8 ≤ n) (sym (parts_bases file.bases file.polygons file.glues)) many)) in
          none (none_from file.polygons bare.0 bare.1 empty, none_from file.glues glueless.0 glueless.1 (order empty), small, record { form = next.form; bounded = bounded; above = above }))))
      may_follow (polygon sides) more next none =
          next.word (λ has. next.right BadNumber (λ bounded.
          let empty : glueless.0 ≡ true = contains_polygon bare.0 glueless.0 order (subst (λ (words : List (List ℕ)). Contains words (codes "polygon")) words_are has) in
          let small : length file.polygons < 256 = fewer (length file.polygons) 256 (λ many. next.right ManyPolygons (tt, subst (λ (ps : List (List Vec2)). 256 ≤ length ps) (sym (parts_polygons file.bases file.polygons file.glues)) many)) in
          let sides_there : 3 ≤ length sides = omega (arith, fewer 2 (length sides) (λ less. next.right FewSides (omega arith))) in
          none (none_from file.glues glueless.0 glueless.1 empty, small, (sides_there, bounded))))
      may_follow (glue g) more next none =
          next.word (λ has. next.right BadName (λ there.
          none (some_polygon (codes "glue") (λ e. base_glue (sym e)) (λ e. polygon_glue (sym e)) has, subst (λ (ps : List (List Vec2)). NamesSides ps g) (parts_polygons file.bases file.polygons file.glues) there)))
      may_follow end more next none = next.word (λ has. none (some_polygon (codes "end") (λ e. base_end (sym e)) (λ e. polygon_end (sym e)) has))

      -- so it is taken
      taken : (line : Line) (more : List ℕ) → IsNext before rest line more → ¬ (¬ (IsTaken file rest line more))
      taken line more next none = may_follow line more next (λ may. none (record { spelled = next.spelled; follows = may }))

    -- behind the end line nothing is left, and so it is the text of a file
    no_end : (file : Content) (more : List ℕ) → ¬ (IsBody bytes file more)
    no_end file [] is = no_file file (is.spelled, is.limits)
    no_end file (b ∷ more) is = not_refused 14 (length (lines_before_end file) + 1 + 1) (late_refused bytes file (b ∷ more) (length (lines_before_end file) + 1) is (λ e. cc) refl)

    -- what goes on with each line that is taken, where it goes on no longer with fewer bytes
    onward : (n : ℕ) → ((file : Content) (rest : List ℕ) → length rest < n → ¬ (BodySoFar bytes size file rest)) → (file : Content) (rest : List ℕ) → length rest < suc n
        → BodySoFar bytes size file rest → (line : Line) (more : List ℕ) → ¬ (IsTaken file rest line more)
    onward n ends file rest small was line more t = go line t
      where
        go : (line : Line) → ¬ (IsTaken file rest line more)
        go flat t = t.follows
        go (field d) t = t.follows
        go (base at) t =
            let less = line_longer rest more (line_text (base at)) t.spelled in
            ends (record { field = file.field; bases = file.bases ++ at ∷ []; polygons = file.polygons; glues = file.glues }) more (omega arith)
            (more_base bytes size few file.field file.bases file.polygons file.glues rest more at was t)
        go (polygon sides) t =
            let less = line_longer rest more (line_text (polygon sides)) t.spelled in
            ends (record { field = file.field; bases = file.bases; polygons = file.polygons ++ sides ∷ []; glues = file.glues }) more (omega arith)
            (more_polygon bytes size few file.field file.bases file.polygons file.glues rest more sides was t)
        go (glue g) t =
            let less = line_longer rest more (line_text (glue g)) t.spelled in
            ends (record { field = file.field; bases = file.bases; polygons = file.polygons; glues = file.glues ++ g ∷ [] }) more (omega arith)
            (more_glue bytes size few file.field file.bases file.polygons file.glues rest more g was t)
        go end t = no_end file more (more_end bytes size few file.field file.bases file.polygons file.glues rest more was t)

    -- so the lines of the file so far go on no longer
    goes : (n : ℕ) (file : Content) (rest : List ℕ) → length rest < n → ¬ (BodySoFar bytes size file rest)
    goes zero file rest small was = omega arith
    goes (suc n) file rest small was =
        next_line (lines_before_end file) rest (wanted file rest was) (free_behind (lines_before_end file) rest was.found (stand_so_far file rest was.so_far))
        (λ line more next. taken file rest was line more next (onward n (goes n) file rest small was line more))

  -- behind the field line
  from_field : (rest more : List ℕ) (d : ℕ) → bytes ≡ line_text flat ++ 10 ∷ rest → rest ≡ line_text (field d) ++ 10 ∷ more → ¬ (IsFieldNumber d)
  from_field rest more d one two is =
      let first = line_longer bytes rest (line_text flat) one in
      let second = line_longer rest more (line_text (field d)) two in
      let few : length more ≤ 1048576 = omega arith in
      goes (length more) few (suc (length more)) (record { field = d; bases = []; polygons = []; glues = [] }) more (omega arith)
      (subst (λ (xs : List ℕ). BodySoFar xs (length more) (record { field = d; bases = []; polygons = []; glues = [] }) more) (behind_two bytes rest more d one two) (body_none d more is))

  -- the second line is a field line
  second : (rest : List ℕ) → bytes ≡ line_text flat ++ 10 ∷ rest → ⊥
  second rest one =
      next_line (flat ∷ []) rest (λ e. cc) (free_behind (flat ∷ []) rest one (good_free [] flat rest good_flat, tt)) go
    where
      -- the second byte of `field` is 105
      only : (word : List ℕ) (m : ℕ) → get_or word 1 0 ≡ m → m ≢ 105 → ¬ (Contains (codes "field" ∷ []) word)
      only word m is other (zero, below, e) = apart word (codes "field") 1 m 105 is refl other (sym e)
      only word m is other (suc k, below, e) = omega (arith, below)

      go : (line : Line) (more : List ℕ) → ¬ (IsNext (flat ∷ []) rest line more)
      go flat more next = next.word (only (codes "flat") 108 refl (λ e. omega arith))
      go (field d) more next = next.right BadField (from_field rest more d one next.spelled)
      go (base at) more next = next.word (only (codes "base") 97 refl (λ e. omega arith))
      go (polygon sides) more next = next.word (only (codes "polygon") 111 refl (λ e. omega arith))
      go (glue g) more next = next.word (only (codes "glue") 108 refl (λ e. omega arith))
      go end more next = next.word (only (codes "end") 110 refl (λ e. omega arith))

  -- and the first is the flat line
  pub contradiction : ⊥
  contradiction =
      next_line [] bytes (λ e. cc) (free_behind [] bytes refl tt) (λ line more next.
      next.first refl (λ same. second more (next.spelled ∙ ap (λ (l : Line). line_text l ++ 10 ∷ more) same)))

-- so each short text is that of a file within the limits, or refused
pub neither : (bytes : List ℕ) → length bytes ≤ 1048576 → ((file : Content) → ¬ (IsTextOf bytes file)) → ¬ ((cause line : ℕ) → ¬ (IsRefused bytes cause line))
neither bytes short no_file not_refused = contradiction bytes short no_file not_refused
