-- A text is refused in one way, and a text within the limits in none.
use Rattle.std.proofs.Common.{◌≡◌, ◌≢◌, ◌⊎◌, inl, inr, ℕ, suc, ◌+◌, List, [], ◌∷◌, ◌++◌, map, length, refl, ap, sym, ◌∙◌, subst, arith, append_assoc}
use Rattle.std.proofs.lemmas.Bool.{cases_lt}
use Rattle.std.proofs.lemmas.List.{append-nil}
use Rattle.plane.specs.declared.vec2.Vec2.{Vec2}
use Rattle.surface_text.specs.declared.file.Point.{Point}
use Rattle.surface_text.specs.declared.file.Glue.{Glue}
use Rattle.surface_text.specs.declared.cause.Cause.{Cause}
use Rattle.surface_text.specs.declared.cause.Cause.TheVariants.{NoLine, CutLine, BadByte, BadFirst, BadKind, BadForm, BadNumber, BadField, BadBase, ManyBases, FewSides, ManyPolygons, BadName, AfterEnd}
use Rattle.surface_text.specs.Spelling.{Line, Content, line_text, lines_then, lines_of, text}
use Rattle.surface_text.specs.Spelling.Line.{flat, field, base, polygon, glue, end}
use Rattle.surface_text.specs.Causes.{IsWanted, words_after, words_behind, Holds, IsFree, Stand, IsLeast, IsRefused, number_of, polygons_in}
use Rattle.surface_text.proofs.Spellings.{front_line}

-- a line and its line feed are some bytes
no_bytes : (bytes more : List ℕ) → [] ≢ bytes ++ 10 ∷ more
no_bytes [] more e = absurd (cc)
no_bytes (b ∷ bytes) more e = absurd (cc)

-- the words behind the last line
pub words_last : (xs : List Line) (y : Line) → words_after (xs ++ y ∷ []) ≡ words_behind y
words_last [] y = refl
words_last (x ∷ []) y = refl
words_last (x ∷ z ∷ xs) y = words_last (z ∷ xs) y

-- behind the end line no further line is wanted
pub end_unwanted : (xs : List Line) → ¬ (IsWanted (xs ++ end ∷ []))
end_unwanted xs wanted = wanted (words_last xs end)

-- where no further line is wanted, each cause but the last wants one
wanted_by : (cause : Cause) (before : List Line) (rest : List ℕ) → Holds cause before rest → IsWanted before ⊎ ((cause ≡ AfterEnd) × (rest ≢ []))
wanted_by NoLine before rest is = inl is.0
wanted_by CutLine before rest is = inl is.0
wanted_by AfterEnd before rest is = inr (refl, is.1)
wanted_by BadByte before rest is = inl is.wanted
wanted_by BadFirst before rest is = inl is.wanted
wanted_by BadKind before rest is = inl is.wanted
wanted_by BadForm before rest is = inl is.wanted
wanted_by BadNumber before rest is = inl is.wanted
wanted_by BadField before rest is = inl is.wanted
wanted_by BadBase before rest is = inl is.wanted
wanted_by ManyBases before rest is = inl is.wanted
wanted_by FewSides before rest is = inl is.wanted
wanted_by ManyPolygons before rest is = inl is.wanted
wanted_by BadName before rest is = inl is.wanted

-- no cause holds behind the end line, where nothing follows
pub end_free : (xs : List Line) → IsFree (xs ++ end ∷ []) []
end_free xs cause is =
    elim (wanted_by cause (xs ++ end ∷ []) [] is) [
      | inl wanted ↦ end_unwanted xs wanted
      | inr late ↦ late.1 refl
    ]

-- bytes behind the end line are refused for it
pub late_least : (xs : List Line) (rest : List ℕ) → rest ≢ [] → IsLeast AfterEnd (xs ++ end ∷ []) rest
late_least xs rest some =
    record {
      holds = (end_unwanted xs, some);
      least = λ other below is.
          elim (wanted_by other (xs ++ end ∷ []) rest is) [
            | inl wanted ↦ end_unwanted xs wanted
            | inr late ↦ let same : number_of other ≡ 14 = ap number_of late.0 in omega arith
          ];
    }

-- two least causes have one number
least_same : (c k : Cause) (before : List Line) (rest : List ℕ) → IsLeast c before rest → IsLeast k before rest → number_of c ≡ number_of k
least_same c k before rest one two =
    elim (cases_lt (number_of c) (number_of k)) [
      | inl below ↦ absurd (two.least c below one.holds)
      | inr above ↦ elim (cases_lt (number_of k) (number_of c)) [
        | inl less ↦ absurd (one.least k less two.holds)
        | inr more ↦ omega arith
      ]
    ]

-- lines behind lines, one moved over
moved : (acc xs : List Line) (x : Line) → acc ++ x ∷ xs ≡ (acc ++ x ∷ []) ++ xs
moved acc xs x = sym (append_assoc acc (x ∷ []) xs)

-- behind the same lines, two first refusals of the same bytes are one
refused_same : (acc xs ys : List Line) (r s : List ℕ) (c k : Cause) → lines_then xs r ≡ lines_then ys s
    → Stand acc xs r → IsLeast c (acc ++ xs) r → Stand acc ys s → IsLeast k (acc ++ ys) s
    → (number_of c ≡ number_of k) × (length xs ≡ length ys)
refused_same acc [] [] r s c k e left one right two =
    (least_same c k (acc ++ []) r one (subst (IsLeast k (acc ++ [])) (sym e) two), refl)
refused_same acc [] (y ∷ ys) r s c k e left one right two =
    absurd (right.0 c (subst (Holds c acc) e (subst (λ (b : List Line). Holds c b r) (append-nil acc) one.holds)))
refused_same acc (x ∷ xs) [] r s c k e left one right two =
    absurd (left.0 k (subst (Holds k acc) (sym e) (subst (λ (b : List Line). Holds k b s) (append-nil acc) two.holds)))
refused_same acc (x ∷ xs) (y ∷ ys) r s c k e left one right two =
    let heads = front_line x y (lines_then xs r) (lines_then ys s) e in
    let turn = sym heads.0 in
    let first = subst (λ (b : List Line). IsLeast c b r) (moved acc xs x) one in
    let second = subst (λ (b : List Line). IsLeast k b s) (moved acc ys y) two in
    let rec = refused_same (acc ++ x ∷ []) xs ys r s c k heads.1 left.1 first
    (subst (λ (z : Line). Stand (acc ++ z ∷ []) ys s) turn right.1) (subst (λ (z : Line). IsLeast k ((acc ++ z ∷ []) ++ ys) s) turn second) in
    (rec.0, ap suc rec.1)

-- a text is refused for one cause in one line
pub refused_once : (bytes : List ℕ) (c k l m : ℕ) → IsRefused bytes c l → IsRefused bytes k m → (c ≡ k) × (l ≡ m)
refused_once bytes c k l m one two =
    let same = refused_same [] one.before two.before one.rest two.rest one.cause two.cause (sym one.found ∙ two.found) one.stand one.least two.stand two.least in
    (one.number_is ∙ same.0 ∙ sym two.number_is, one.line_is ∙ ap (λ (n : ℕ). n + 1) same.1 ∙ sym two.line_is)

-- where all lines stand and none is missing behind them, no refusal stands before
stands_whole : (acc xs ys : List Line) (s : List ℕ) (k : Cause) → lines_then xs [] ≡ lines_then ys s
    → Stand acc xs [] → IsFree (acc ++ xs) [] → Stand acc ys s → ¬ (Holds k (acc ++ ys) s)
stands_whole acc [] [] s k e left free right is = free k (subst (Holds k (acc ++ [])) (sym e) is)
stands_whole acc [] (y ∷ ys) s k e left free right is = no_bytes (line_text y) (lines_then ys s) e
stands_whole acc (x ∷ xs) [] s k e left free right is =
    left.0 k (subst (Holds k acc) (sym e) (subst (λ (b : List Line). Holds k b s) (append-nil acc) is))
stands_whole acc (x ∷ xs) (y ∷ ys) s k e left free right is =
    let heads = front_line x y (lines_then xs []) (lines_then ys s) e in
    let turn = sym heads.0 in
    let there = subst (λ (b : List Line). Holds k b s) (moved acc ys y) is in
    stands_whole (acc ++ x ∷ []) xs ys s k heads.1 left.1 (subst (λ (b : List Line). IsFree b []) (moved acc xs x) free)
    (subst (λ (z : Line). Stand (acc ++ z ∷ []) ys s) turn right.1) (subst (λ (z : Line). Holds k ((acc ++ z ∷ []) ++ ys) s) turn there)

-- lines that stand up to the end line are refused nowhere
pub not_refused : (bytes : List ℕ) (xs : List Line) (c l : ℕ) → bytes ≡ lines_then (xs ++ end ∷ []) [] → Stand [] (xs ++ end ∷ []) [] → ¬ (IsRefused bytes c l)
not_refused bytes xs c l e stand is =
    let least = is.least in
    stands_whole [] (xs ++ end ∷ []) is.before is.rest is.cause (sym e ∙ is.found) stand (end_free xs) is.stand least.holds

-- lines with one text are the same
lines_same : (xs ys : List Line) → lines_then xs [] ≡ lines_then ys [] → xs ≡ ys
lines_same [] [] e = refl
lines_same [] (y ∷ ys) e = absurd (no_bytes (line_text y) (lines_then ys []) e)
lines_same (x ∷ xs) [] e = absurd (no_bytes (line_text x) (lines_then xs []) (sym e))
lines_same (x ∷ xs) (y ∷ ys) e =
    let heads = front_line x y (lines_then xs []) (lines_then ys []) e in
    ap (λ (z : Line). z ∷ xs) heads.0 ∙ ap (λ (zs : List Line). y ∷ zs) (lines_same xs ys heads.1)

-- the points of the base lines
abbrev points_in : List Line → List Point
points_in [] = []
points_in (base at ∷ lines) = at ∷ points_in lines
points_in (line ∷ lines) = points_in lines

-- what the glue lines say
abbrev glues_in : List Line → List Glue
glues_in [] = []
glues_in (glue g ∷ lines) = g ∷ glues_in lines
glues_in (line ∷ lines) = glues_in lines

-- the number of the field line that comes second
abbrev field_in : List Line → ℕ
field_in (first ∷ field d ∷ lines) = d
field_in lines = 0

points_glues : (gs : List Glue) (tail : List Line) → points_in (map glue gs ++ tail) ≡ points_in tail
points_glues [] tail = refl
points_glues (g ∷ gs) tail = points_glues gs tail

points_polygons : (ps : List (List Vec2)) (tail : List Line) → points_in (map polygon ps ++ tail) ≡ points_in tail
points_polygons [] tail = refl
points_polygons (p ∷ ps) tail = points_polygons ps tail

points_bases : (bs : List Point) (tail : List Line) → points_in (map base bs ++ tail) ≡ bs ++ points_in tail
points_bases [] tail = refl
points_bases (b ∷ bs) tail = ap (λ (xs : List Point). b ∷ xs) (points_bases bs tail)

pub polygons_glues : (gs : List Glue) (tail : List Line) → polygons_in (map glue gs ++ tail) ≡ polygons_in tail
polygons_glues [] tail = refl
polygons_glues (g ∷ gs) tail = polygons_glues gs tail

pub polygons_polygons : (ps : List (List Vec2)) (tail : List Line) → polygons_in (map polygon ps ++ tail) ≡ ps ++ polygons_in tail
polygons_polygons [] tail = refl
polygons_polygons (p ∷ ps) tail = ap (λ (xs : List (List Vec2)). p ∷ xs) (polygons_polygons ps tail)

pub polygons_bases : (bs : List Point) (tail : List Line) → polygons_in (map base bs ++ tail) ≡ polygons_in tail
polygons_bases [] tail = refl
polygons_bases (b ∷ bs) tail = polygons_bases bs tail

glues_glues : (gs : List Glue) (tail : List Line) → glues_in (map glue gs ++ tail) ≡ gs ++ glues_in tail
glues_glues [] tail = refl
glues_glues (g ∷ gs) tail = ap (λ (xs : List Glue). g ∷ xs) (glues_glues gs tail)

glues_polygons : (ps : List (List Vec2)) (tail : List Line) → glues_in (map polygon ps ++ tail) ≡ glues_in tail
glues_polygons [] tail = refl
glues_polygons (p ∷ ps) tail = glues_polygons ps tail

glues_bases : (bs : List Point) (tail : List Line) → glues_in (map base bs ++ tail) ≡ glues_in tail
glues_bases [] tail = refl
glues_bases (b ∷ bs) tail = glues_bases bs tail

-- the lines of a file, grouped to the right
pub lines_shape : (d : ℕ) (bs : List Point) (ps : List (List Vec2)) (gs : List Glue) (tail : List Line)
    → (flat ∷ field d ∷ (map base bs ++ (map polygon ps ++ map glue gs))) ++ tail ≡ flat ∷ field d ∷ (map base bs ++ (map polygon ps ++ (map glue gs ++ tail)))
lines_shape d bs ps gs tail =
    ap (λ (xs : List Line). flat ∷ field d ∷ xs)
    (append_assoc (map base bs) (map polygon ps ++ map glue gs) tail ∙ ap (λ (xs : List Line). map base bs ++ xs) (append_assoc (map polygon ps) (map glue gs) tail))

points_of : (file : Content) → points_in (lines_of file) ≡ file.bases
points_of file =
    ap points_in (lines_shape file.field file.bases file.polygons file.glues (end ∷ []))
    ∙ points_bases file.bases (map polygon file.polygons ++ (map glue file.glues ++ end ∷ []))
    ∙ ap (λ (xs : List Point). file.bases ++ xs) (points_polygons file.polygons (map glue file.glues ++ end ∷ []) ∙ points_glues file.glues (end ∷ []))
    ∙ append-nil file.bases

polygons_of : (file : Content) → polygons_in (lines_of file) ≡ file.polygons
polygons_of file =
    ap polygons_in (lines_shape file.field file.bases file.polygons file.glues (end ∷ []))
    ∙ polygons_bases file.bases (map polygon file.polygons ++ (map glue file.glues ++ end ∷ []))
    ∙ polygons_polygons file.polygons (map glue file.glues ++ end ∷ [])
    ∙ ap (λ (xs : List (List Vec2)). file.polygons ++ xs) (polygons_glues file.glues (end ∷ []))
    ∙ append-nil file.polygons

glues_of : (file : Content) → glues_in (lines_of file) ≡ file.glues
glues_of file =
    ap glues_in (lines_shape file.field file.bases file.polygons file.glues (end ∷ []))
    ∙ glues_bases file.bases (map polygon file.polygons ++ (map glue file.glues ++ end ∷ []))
    ∙ glues_polygons file.polygons (map glue file.glues ++ end ∷ [])
    ∙ glues_glues file.glues (end ∷ []) ∙ append-nil file.glues

pub same_content : (x y : Content) → x.field ≡ y.field → x.bases ≡ y.bases → x.polygons ≡ y.polygons → x.glues ≡ y.glues → x ≡ y
same_content x y a b c d =
    ap (λ (n : ℕ). let z : Content = record { field = n; bases = x.bases; polygons = x.polygons; glues = x.glues } in z) a
    ∙ ap (λ (n : List Point). let z : Content = record { field = y.field; bases = n; polygons = x.polygons; glues = x.glues } in z) b
    ∙ ap (λ (n : List (List Vec2)). let z : Content = record { field = y.field; bases = y.bases; polygons = n; glues = x.glues } in z) c
    ∙ ap (λ (n : List Glue). let z : Content = record { field = y.field; bases = y.bases; polygons = y.polygons; glues = n } in z) d

-- files with one text are the same
pub text_injective : (x y : Content) → text x ≡ text y → x ≡ y
text_injective x y e =
    let same = lines_same (lines_of x) (lines_of y) e in
    same_content x y (ap field_in same)
    (sym (points_of x) ∙ ap points_in same ∙ points_of y)
    (sym (polygons_of x) ∙ ap polygons_in same ∙ polygons_of y)
    (sym (glues_of x) ∙ ap glues_in same ∙ glues_of y)
