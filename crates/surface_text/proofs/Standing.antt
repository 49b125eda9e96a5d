-- The lines of a file within the limits are free of causes, one behind another.
use Rattle.std.proofs.Common.{◌≡◌, ◌≢◌, ℕ, ◌+◌, ◌<◌, ◌≤◌, List, [], ◌∷◌, ◌++◌, map, length, codes, Contains, refl, ap, sym, ◌∙◌, subst, arith, append_assoc}
use Rattle.std.specs.List.{AllByRecursion}
use Rattle.std.proofs.lemmas.List.{append-nil, length-append}
use Rattle.quad_field.specs.FieldNumber.{IsFieldNumber}
use Rattle.plane.specs.declared.vec2.Vec2.{Vec2}
use Rattle.surface_text.specs.declared.file.Point.{Point}
use Rattle.surface_text.specs.declared.file.Glue.{Glue}
use Rattle.surface_text.specs.declared.cause.Cause.{Cause}
use Rattle.surface_text.specs.declared.cause.Cause.TheVariants.{NoLine, CutLine, BadByte, BadFirst, BadKind, BadForm, BadNumber, BadField, BadBase, ManyBases, FewSides, ManyPolygons, BadName, AfterEnd}
use Rattle.surface_text.specs.Spelling.{Line, Content, line_text, word_of, tail_of, lines_then, lines_before_end, lines_of}
use Rattle.surface_text.specs.Spelling.Line.{flat, field, base, polygon, glue, end}
use Rattle.surface_text.specs.Limits.{IsBasePoint, IsPolygon, NamesSides, IsWithinLimits}
use Rattle.surface_text.specs.Causes.{words_after, words_behind, HoldsOfLine, HoldsOfNext, HasForm, IsLine, IsWrong, IsFree, Stand, base_lines, polygons_in}
use Rattle.surface_text.specs.Lines.{IsSoFar, MayFollow}
use Rattle.surface_text.proofs.Stops.{same_front}
use Rattle.surface_text.proofs.Numbers.{Lacks}
use Rattle.surface_text.proofs.Spellings.{line_printed, line_lacks, line_injective, word_lacks, tail_stops}
use Rattle.surface_text.proofs.Verdicts.{polygons_glues, polygons_polygons, polygons_bases, lines_shape}

-- a line and its line feed are some bytes
some_bytes : (bytes more : List ℕ) → bytes ++ 10 ∷ more ≢ []
some_bytes [] more e = absurd (cc)
some_bytes (b ∷ bytes) more e = absurd (cc)

-- and one of them is a line feed
has_feed : (bytes more : List ℕ) → ¬ (Lacks 10 (bytes ++ 10 ∷ more))
has_feed [] more lacks = lacks.0 refl
has_feed (b ∷ bytes) more lacks = has_feed bytes more lacks.1

-- no word is among none
some_words : (words : List (List ℕ)) (word : List ℕ) → Contains words word → words ≢ []
some_words [] word has e = absurd (omega (arith, has.1))
some_words (w ∷ words) word has e = absurd (cc)

-- what makes a line free of causes behind others
pub record IsGood (before : List Line) (line : Line) : Type 0 where
  pub first : before ≡ [] → line ≡ flat
  pub word : Contains (words_after before) (word_of line)
  pub form : HasForm line
  pub right : (cause : Cause) → ¬ (IsWrong cause before line)

-- the bytes of the next line are those of this one
next_is : {cause : Cause} {before : List Line} (line : Line) (after : List ℕ) → (is : HoldsOfNext cause before (line_text line ++ 10 ∷ after)) → is.bytes ≡ line_text line
next_is line after is = (same_front is.splits (line_text line) (10 ∷ after) (line_lacks line) refl refl).0

-- no line with these bytes is wrong
wrong_of : (cause : Cause) (before : List Line) (line : Line) → IsGood before line → ¬ ((other : Line) × IsLine (line_text line) other × IsWrong cause before other)
wrong_of cause before line good is =
    let found = is.1 in
    good.right cause (subst (IsWrong cause before) (sym (line_injective line is.0 found.0)) is.2)

-- no cause of a refusal of its bytes
not_of_line : (cause : Cause) (before : List Line) (line : Line) → IsGood before line → ¬ (HoldsOfLine cause before (line_text line))
not_of_line BadByte before line good is = is (line_printed line)
not_of_line BadFirst before line good is = is.1 (ap line_text (good.first is.0))
not_of_line BadKind before line good is =
    let front = is.2 in
    let same = same_front front (word_of line) (tail_of line) (word_lacks line) (tail_stops line) refl in
    is.3 (subst (Contains (words_after before)) (sym same.0) good.word)
not_of_line BadForm before line good is = is line (refl, good.form)
not_of_line NoLine before line good is = wrong_of NoLine before line good is
not_of_line CutLine before line good is = wrong_of CutLine before line good is
not_of_line BadNumber before line good is = wrong_of BadNumber before line good is
not_of_line BadField before line good is = wrong_of BadField before line good is
not_of_line BadBase before line good is = wrong_of BadBase before line good is
not_of_line ManyBases before line good is = wrong_of ManyBases before line good is
not_of_line FewSides before line good is = wrong_of FewSides before line good is
not_of_line ManyPolygons before line good is = wrong_of ManyPolygons before line good is
not_of_line BadName before line good is = wrong_of BadName before line good is
not_of_line AfterEnd before line good is = wrong_of AfterEnd before line good is

not_next : (cause : Cause) (before : List Line) (line : Line) (after : List ℕ) → IsGood before line → ¬ (HoldsOfNext cause before (line_text line ++ 10 ∷ after))
not_next cause before line after good is =
    not_of_line cause before line good (subst (HoldsOfLine cause before) (next_is line after is) is.holds)

-- a good line is free of causes
pub good_free : (before : List Line) (line : Line) (after : List ℕ) → IsGood before line → IsFree before (line_text line ++ 10 ∷ after)
good_free before line after good NoLine is = some_bytes (line_text line) after is.1
good_free before line after good CutLine is = has_feed (line_text line) after is.2
good_free before line after good AfterEnd is = is.0 (some_words (words_after before) (word_of line) good.word)
good_free before line after good BadByte is = not_next BadByte before line after good is
good_free before line after good BadFirst is = not_next BadFirst before line after good is
good_free before line after good BadKind is = not_next BadKind before line after good is
good_free before line after good BadForm is = not_next BadForm before line after good is
good_free before line after good BadNumber is = not_next BadNumber before line after good is
good_free before line after good BadField is = not_next BadField before line after good is
good_free before line after good BadBase is = not_next BadBase before line after good is
good_free before line after good ManyBases is = not_next ManyBases before line after good is
good_free before line after good FewSides is = not_next FewSides before line after good is
good_free before line after good ManyPolygons is = not_next ManyPolygons before line after good is
good_free before line after good BadName is = not_next BadName before line after good is

-- lines of a file that may still grow
abbrev pub so_far : ℕ → List Point → List (List Vec2) → List Glue → List Line
so_far d bs ps gs = flat ∷ field d ∷ (map base bs ++ (map polygon ps ++ map glue gs))

-- the words behind lines whose last ones are these
words_onward : (xs : List Line) (y : Line) (ys : List Line) → words_after (xs ++ y ∷ ys) ≡ words_after (y ∷ ys)
words_onward [] y ys = refl
words_onward (x ∷ []) y ys = refl
words_onward (x ∷ z ∷ xs) y ys = words_onward (z ∷ xs) y ys

words_glues : (g : Glue) (gs : List Glue) → words_after (glue g ∷ map glue gs) ≡ codes "glue" ∷ codes "end" ∷ []
words_glues g [] = refl
words_glues g (h ∷ gs) = words_glues h gs

words_polygons : (p : List Vec2) (ps : List (List Vec2)) → words_after (polygon p ∷ map polygon ps) ≡ codes "polygon" ∷ codes "glue" ∷ codes "end" ∷ []
words_polygons p [] = refl
words_polygons p (q ∷ ps) = words_polygons q ps

words_bases : (x : Line) (bs : List Point) → words_behind x ≡ codes "base" ∷ codes "polygon" ∷ [] → words_after (x ∷ map base bs) ≡ codes "base" ∷ codes "polygon" ∷ []
words_bases x [] e = e
words_bases x (b ∷ bs) e = words_bases (base b) bs refl

-- the words behind the glue lines
after_glues : (d : ℕ) (bs : List Point) (ps : List (List Vec2)) (g : Glue) (gs : List Glue) → words_after (so_far d bs ps (g ∷ gs)) ≡ codes "glue" ∷ codes "end" ∷ []
after_glues d bs ps g gs =
    ap (λ (xs : List Line). words_after (flat ∷ field d ∷ xs)) (sym (append_assoc (map base bs) (map polygon ps) (map glue (g ∷ gs))))
    ∙ words_onward (flat ∷ field d ∷ (map base bs ++ map polygon ps)) (glue g) (map glue gs) ∙ words_glues g gs

-- and behind the polygon lines
after_polygons : (d : ℕ) (bs : List Point) (p : List Vec2) (ps : List (List Vec2)) → words_after (so_far d bs (p ∷ ps) []) ≡ codes "polygon" ∷ codes "glue" ∷ codes "end" ∷ []
after_polygons d bs p ps =
    words_onward (flat ∷ field d ∷ map base bs) (polygon p) (map polygon ps ++ [])
    ∙ ap (λ (xs : List Line). words_after (polygon p ∷ xs)) (append-nil (map polygon ps)) ∙ words_polygons p ps

-- and behind the base lines
after_bases : (d : ℕ) (bs : List Point) → words_after (so_far d bs [] []) ≡ codes "base" ∷ codes "polygon" ∷ []
after_bases d bs = ap (λ (xs : List Line). words_after (field d ∷ xs)) (append-nil (map base bs)) ∙ words_bases (field d) bs refl

-- words that stand at the front
at_first : (words more : List (List ℕ)) (word : List ℕ) → words ≡ word ∷ more → Contains words word
at_first words more word e = subst (λ (xs : List (List ℕ)). Contains xs word) (sym e) (0, omega arith, refl)

at_second : (words more : List (List ℕ)) (other word : List ℕ) → words ≡ other ∷ word ∷ more → Contains words word
at_second words more other word e = subst (λ (xs : List (List ℕ)). Contains xs word) (sym e) (1, omega arith, refl)

at_third : (words more : List (List ℕ)) (one two word : List ℕ) → words ≡ one ∷ two ∷ word ∷ more → Contains words word
at_third words more one two word e = subst (λ (xs : List (List ℕ)). Contains xs word) (sym e) (2, omega arith, refl)

may_polygon : (d : ℕ) (bs : List Point) (ps : List (List Vec2)) → Contains (words_after (so_far d bs ps [])) (codes "polygon")
may_polygon d bs [] = at_second (words_after (so_far d bs [] [])) [] (codes "base") (codes "polygon") (after_bases d bs)
may_polygon d bs (p ∷ ps) = at_first (words_after (so_far d bs (p ∷ ps) [])) (codes "glue" ∷ codes "end" ∷ []) (codes "polygon") (after_polygons d bs p ps)

may_glue : (d : ℕ) (bs : List Point) (ps : List (List Vec2)) (gs : List Glue) → 1 ≤ length ps → Contains (words_after (so_far d bs ps gs)) (codes "glue")
may_glue d bs [] gs some = absurd (omega arith)
may_glue d bs (p ∷ ps) [] some = at_second (words_after (so_far d bs (p ∷ ps) [])) (codes "end" ∷ []) (codes "polygon") (codes "glue") (after_polygons d bs p ps)
may_glue d bs (p ∷ ps) (g ∷ gs) some = at_first (words_after (so_far d bs (p ∷ ps) (g ∷ gs))) (codes "end" ∷ []) (codes "glue") (after_glues d bs (p ∷ ps) g gs)

may_end : (d : ℕ) (bs : List Point) (ps : List (List Vec2)) (gs : List Glue) → 1 ≤ length ps → Contains (words_after (so_far d bs ps gs)) (codes "end")
may_end d bs [] gs some = absurd (omega arith)
may_end d bs (p ∷ ps) [] some = at_third (words_after (so_far d bs (p ∷ ps) [])) [] (codes "polygon") (codes "glue") (codes "end") (after_polygons d bs p ps)
may_end d bs (p ∷ ps) (g ∷ gs) some = at_second (words_after (so_far d bs (p ∷ ps) (g ∷ gs))) [] (codes "glue") (codes "end") (after_glues d bs (p ∷ ps) g gs)

-- how many base lines there are
count_bases : (bs : List Point) → base_lines (map base bs ++ []) ≡ length bs
count_bases [] = refl
count_bases (b ∷ bs) = let n = count_bases bs in omega arith

-- the polygons of the lines so far
pub polygons_so_far : (d : ℕ) (bs : List Point) (ps : List (List Vec2)) (gs : List Glue) → polygons_in (so_far d bs ps gs) ≡ ps
polygons_so_far d bs ps gs =
    polygons_bases bs (map polygon ps ++ map glue gs) ∙ polygons_polygons ps (map glue gs)
    ∙ ap (λ (xs : List (List Vec2)). ps ++ xs) (ap polygons_in (sym (append-nil (map glue gs))) ∙ polygons_glues gs []) ∙ append-nil ps

-- nothing is wrong with a base line
right_base : (cause : Cause) (before : List Line) (at : Point) → IsBasePoint at → base_lines before < 8 → ¬ (IsWrong cause before (base at))
right_base BadNumber before at is few wrong = wrong is.bounded
right_base BadBase before at is few wrong = wrong is.above
right_base ManyBases before at is few wrong = let many = wrong.1 in omega arith
right_base ManyPolygons before at is few wrong = wrong.0
right_base cause before at is few wrong = wrong

right_polygon : (cause : Cause) (before : List Line) (sides : List Vec2) → IsPolygon sides → length (polygons_in before) < 256 → ¬ (IsWrong cause before (polygon sides))
right_polygon BadNumber before sides is few wrong = wrong is.1
right_polygon FewSides before sides is few wrong = let some = is.0 in omega arith
right_polygon ManyPolygons before sides is few wrong = let many = wrong.1 in omega arith
right_polygon ManyBases before sides is few wrong = wrong.0
right_polygon cause before sides is few wrong = wrong

right_glue : (cause : Cause) (before : List Line) (g : Glue) → NamesSides (polygons_in before) g → ¬ (IsWrong cause before (glue g))
right_glue BadNumber before g is wrong = wrong tt
right_glue BadName before g is wrong = wrong is
right_glue ManyBases before g is wrong = wrong.0
right_glue ManyPolygons before g is wrong = wrong.0
right_glue cause before g is wrong = wrong

right_end : (cause : Cause) (before : List Line) → ¬ (IsWrong cause before end)
right_end BadNumber before wrong = wrong tt
right_end ManyBases before wrong = wrong.0
right_end ManyPolygons before wrong = wrong.0
right_end cause before wrong = wrong

right_flat : (cause : Cause) (before : List Line) → ¬ (IsWrong cause before flat)
right_flat BadNumber before wrong = wrong tt
right_flat ManyBases before wrong = wrong.0
right_flat ManyPolygons before wrong = wrong.0
right_flat cause before wrong = wrong

right_field : (cause : Cause) (before : List Line) (d : ℕ) → IsFieldNumber d → ¬ (IsWrong cause before (field d))
right_field BadNumber before d is wrong = wrong tt
right_field BadField before d is wrong = wrong is
right_field ManyBases before d is wrong = wrong.0
right_field ManyPolygons before d is wrong = wrong.0
right_field cause before d is wrong = wrong

-- lines that may follow are good
good_base : (d : ℕ) (bs : List Point) (at : Point) → length bs < 8 → IsBasePoint at → IsGood (so_far d bs [] []) (base at)
good_base d bs at few is =
    record {
      first = λ e. absurd (cc);
      word = at_first (words_after (so_far d bs [] [])) (codes "polygon" ∷ []) (codes "base") (after_bases d bs);
      form = is.form;
      right = λ cause. right_base cause (so_far d bs [] []) at is (let n = count_bases bs in omega arith);
    }

good_polygon : (d : ℕ) (bs : List Point) (ps : List (List Vec2)) (sides : List Vec2) → length ps < 256 → IsPolygon sides → IsGood (so_far d bs ps []) (polygon sides)
good_polygon d bs ps sides few is =
    let count : length (polygons_in (so_far d bs ps [])) ≡ length ps = ap length (polygons_so_far d bs ps []) in
    let some = is.0 in
    record {
      first = λ e. absurd (cc);
      word = may_polygon d bs ps;
      form = omega arith;
      right = λ cause. right_polygon cause (so_far d bs ps []) sides is (omega arith);
    }

good_glue : (d : ℕ) (bs : List Point) (ps : List (List Vec2)) (gs : List Glue) (g : Glue) → 1 ≤ length ps → NamesSides ps g → IsGood (so_far d bs ps gs) (glue g)
good_glue d bs ps gs g some is =
    record {
      first = λ e. absurd (cc);
      word = may_glue d bs ps gs some;
      form = tt;
      right = λ cause. right_glue cause (so_far d bs ps gs) g (subst (λ (xs : List (List Vec2)). NamesSides xs g) (sym (polygons_so_far d bs ps gs)) is);
    }

good_end : (d : ℕ) (bs : List Point) (ps : List (List Vec2)) (gs : List Glue) → 1 ≤ length ps → IsGood (so_far d bs ps gs) end
good_end d bs ps gs some =
    record { first = λ e. absurd (cc); word = may_end d bs ps gs some; form = tt; right = λ cause. right_end cause (so_far d bs ps gs) }

pub good_flat : IsGood [] flat
good_flat = record { first = λ e. refl; word = at_first (codes "flat" ∷ []) [] (codes "flat") refl; form = tt; right = λ cause. right_flat cause [] }

pub good_field : (d : ℕ) → IsFieldNumber d → IsGood (flat ∷ []) (field d)
good_field d is =
    record { first = λ e. absurd (cc); word = at_first (codes "field" ∷ []) [] (codes "field") refl; form = tt; right = λ cause. right_field cause (flat ∷ []) d is }

-- what holds of each of two lists
all_first : {X : Type 0} (P : X → Type 0) (xs ys : List X) → AllByRecursion P (xs ++ ys) → AllByRecursion P xs
all_first P [] ys all = tt
all_first P (x ∷ xs) ys all = (all.0, all_first P xs ys all.1)

-- a list with one more at its end, mapped
map_more : {X : Type 0} (f : X → Line) (xs : List X) (x : X) → map f xs ++ f x ∷ [] ≡ map f (xs ++ x ∷ [])
map_more f [] x = refl
map_more f (y ∷ xs) x = ap (λ (ys : List Line). f y ∷ ys) (map_more f xs x)

-- one line more
pub one_glue : (d : ℕ) (bs : List Point) (ps : List (List Vec2)) (gs : List Glue) (g : Glue) → so_far d bs ps gs ++ glue g ∷ [] ≡ so_far d bs ps (gs ++ g ∷ [])
one_glue d bs ps gs g =
    lines_shape d bs ps gs (glue g ∷ []) ∙ ap (λ (xs : List Line). flat ∷ field d ∷ (map base bs ++ (map polygon ps ++ xs))) (map_more glue gs g)

pub one_polygon : (d : ℕ) (bs : List Point) (ps : List (List Vec2)) (p : List Vec2) → so_far d bs ps [] ++ polygon p ∷ [] ≡ so_far d bs (ps ++ p ∷ []) []
one_polygon d bs ps p =
    lines_shape d bs ps [] (polygon p ∷ [])
    ∙ ap (λ (xs : List Line). flat ∷ field d ∷ (map base bs ++ xs)) (map_more polygon ps p ∙ sym (append-nil (map polygon (ps ++ p ∷ []))))

pub one_base : (d : ℕ) (bs : List Point) (b : Point) → so_far d bs [] [] ++ base b ∷ [] ≡ so_far d (bs ++ b ∷ []) [] []
one_base d bs b =
    lines_shape d bs [] [] (base b ∷ []) ∙ ap (λ (xs : List Line). flat ∷ field d ∷ xs) (map_more base bs b ∙ sym (append-nil (map base (bs ++ b ∷ []))))

-- lines stand, and further ones behind them
stand_glues : (d : ℕ) (bs : List Point) (ps : List (List Vec2)) (had gs all : List Glue) (tail : List Line) (rest : List ℕ) → 1 ≤ length ps
    → AllByRecursion (NamesSides ps) gs → all ≡ had ++ gs → Stand (so_far d bs ps all) tail rest → Stand (so_far d bs ps had) (map glue gs ++ tail) rest
stand_glues d bs ps had [] all tail rest some right e stand =
    subst (λ (xs : List Glue). Stand (so_far d bs ps xs) tail rest) (e ∙ append-nil had) stand
stand_glues d bs ps had (g ∷ gs) all tail rest some right e stand = (
  good_free (so_far d bs ps had) (glue g) (lines_then (map glue gs ++ tail) rest) (good_glue d bs ps had g some right.0),
  subst (λ (xs : List Line). Stand xs (map glue gs ++ tail) rest) (sym (one_glue d bs ps had g))
      (stand_glues d bs ps (had ++ g ∷ []) gs all tail rest some right.1 (e ∙ sym (append_assoc had (g ∷ []) gs)) stand),
)

stand_polygons : (d : ℕ) (bs : List Point) (had ps all : List (List Vec2)) (tail : List Line) (rest : List ℕ) → length had + length ps ≤ 256
    → AllByRecursion IsPolygon ps → all ≡ had ++ ps → Stand (so_far d bs all []) tail rest → Stand (so_far d bs had []) (map polygon ps ++ tail) rest
stand_polygons d bs had [] all tail rest few right e stand =
    subst (λ (xs : List (List Vec2)). Stand (so_far d bs xs []) tail rest) (e ∙ append-nil had) stand
stand_polygons d bs had (p ∷ ps) all tail rest few right e stand =
    let longer = length-append had (p ∷ []) in (
      good_free (so_far d bs had []) (polygon p) (lines_then (map polygon ps ++ tail) rest) (good_polygon d bs had p (omega arith) right.0),
      subst (λ (xs : List Line). Stand xs (map polygon ps ++ tail) rest) (sym (one_polygon d bs had p))
          (stand_polygons d bs (had ++ p ∷ []) ps all tail rest (omega arith) right.1 (e ∙ sym (append_assoc had (p ∷ []) ps)) stand),
    )

stand_bases : (d : ℕ) (had bs all : List Point) (tail : List Line) (rest : List ℕ) → length had + length bs ≤ 8
    → AllByRecursion IsBasePoint bs → all ≡ had ++ bs → Stand (so_far d all [] []) tail rest → Stand (so_far d had [] []) (map base bs ++ tail) rest
stand_bases d had [] all tail rest few right e stand =
    subst (λ (xs : List Point). Stand (so_far d xs [] []) tail rest) (e ∙ append-nil had) stand
stand_bases d had (b ∷ bs) all tail rest few right e stand =
    let longer = length-append had (b ∷ []) in (
      good_free (so_far d had [] []) (base b) (lines_then (map base bs ++ tail) rest) (good_base d had b (omega arith) right.0),
      subst (λ (xs : List Line). Stand xs (map base bs ++ tail) rest) (sym (one_base d had b))
          (stand_bases d (had ++ b ∷ []) bs all tail rest (omega arith) right.1 (e ∙ sym (append_assoc had (b ∷ []) bs)) stand),
    )

-- glue lines stand, where each names sides that are there
stand_names : (d : ℕ) (bs : List Point) (ps : List (List Vec2)) (gs : List Glue) (tail : List Line) (rest : List ℕ)
    → AllByRecursion (NamesSides ps) gs → Stand (so_far d bs ps gs) tail rest → Stand (so_far d bs ps []) (map glue gs ++ tail) rest
stand_names d bs ps [] tail rest right stand = stand
stand_names d bs ps (g ∷ gs) tail rest right stand =
    let names = right.0 in
    let there = names.0 in
    let below = there.0 in
    stand_glues d bs ps [] (g ∷ gs) (g ∷ gs) tail rest (omega arith) right refl stand

-- the lines of a file that may still grow stand, and what stands behind them
pub stand_lines : (d : ℕ) (bs : List Point) (ps : List (List Vec2)) (gs : List Glue) (tail : List Line) (rest : List ℕ) → IsFieldNumber d
    → AllByRecursion IsBasePoint bs → length bs ≤ 8 → AllByRecursion IsPolygon ps → length ps ≤ 256 → AllByRecursion (NamesSides ps) gs
    → Stand (so_far d bs ps gs) tail rest → Stand [] (so_far d bs ps gs ++ tail) rest
stand_lines d bs ps gs tail rest is points few polygons fewer names stand =
    let lines = map base bs ++ (map polygon ps ++ (map glue gs ++ tail)) in
    let glues = stand_names d bs ps gs tail rest names stand in
    let sides = stand_polygons d bs [] ps ps (map glue gs ++ tail) rest (omega arith) polygons refl glues in
    let starts = stand_bases d [] bs bs (map polygon ps ++ (map glue gs ++ tail)) rest (omega arith) points refl sides in
    subst (λ (xs : List Line). Stand [] xs rest) (sym (lines_shape d bs ps gs tail)) (
      good_free [] flat (lines_then (field d ∷ lines) rest) good_flat,
      (good_free (flat ∷ []) (field d) (lines_then lines rest) (good_field d is), starts),
    )

-- the lines of a file so far stand
pub stand_so_far : (file : Content) (rest : List ℕ) → IsSoFar file → Stand [] (lines_before_end file) rest
stand_so_far file rest is =
    subst (λ (xs : List Line). Stand [] xs rest) (append-nil (lines_before_end file))
    (stand_lines file.field file.bases file.polygons file.glues [] rest is.field is.bases is.few_bases is.polygons is.few_polygons is.glues tt)

-- and so do all lines of a file within the limits
pub stand_whole : (file : Content) (rest : List ℕ) → IsWithinLimits file → Stand [] (lines_of file) rest
stand_whole file rest is =
    stand_lines file.field file.bases file.polygons file.glues (end ∷ []) rest is.field is.bases is.few_bases is.polygons is.few_polygons is.glues
    (good_free (lines_before_end file) end rest (good_end file.field file.bases file.polygons file.glues is.some_polygons), tt)

-- a line that may follow is free of causes
pub may_free : (file : Content) (line : Line) (after : List ℕ) → MayFollow file line → IsFree (lines_before_end file) (line_text line ++ 10 ∷ after)
may_free file flat after may = absurd may
may_free file (field d) after may = absurd may
may_free file (base at) after may =
    good_free (lines_before_end file) (base at) after
    (subst (λ (gs : List Glue). IsGood (so_far file.field file.bases file.polygons gs) (base at)) (sym may.1)
    (subst (λ (ps : List (List Vec2)). IsGood (so_far file.field file.bases ps []) (base at)) (sym may.0) (good_base file.field file.bases at may.2 may.3)))
may_free file (polygon sides) after may =
    good_free (lines_before_end file) (polygon sides) after
    (subst (λ (gs : List Glue). IsGood (so_far file.field file.bases file.polygons gs) (polygon sides)) (sym may.0)
    (good_polygon file.field file.bases file.polygons sides may.1 may.2))
may_free file (glue g) after may = good_free (lines_before_end file) (glue g) after (good_glue file.field file.bases file.polygons file.glues g may.0 may.1)
may_free file end after may = good_free (lines_before_end file) end after (good_end file.field file.bases file.polygons file.glues may)
