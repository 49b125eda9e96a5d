-- What may stand behind the lines of a file so far.
use Rattle.std.proofs.Common.{◌≡◌, ◌≢◌, ℕ, suc, Bool, true, false, List, [], ◌∷◌, ◌++◌, length, map, codes, Contains, refl, ap, sym, ◌∙◌, subst, arith}
use Rattle.std.specs.Bool.{◌==◌}
use Rattle.std.specs.List.{AllByRecursion}
use Rattle.std.proofs.lemmas.Bool.{true≢false}
use Rattle.std.proofs.lemmas.Bool.Decides.{nat_tests}
use Rattle.std.proofs.lemmas.List.{append-nil}
use Rattle.plane.specs.declared.vec2.Vec2.{Vec2}
use Rattle.surface_text.specs.declared.file.Point.{Point}
use Rattle.surface_text.specs.declared.file.Glue.{Glue}
use Rattle.surface_text.specs.declared.file.Polygon.{Polygon}
use Rattle.surface_text.specs.declared.file.SurfaceFile.{SurfaceFile}
use Rattle.surface_text.specs.declared.sides.LineFault.{LineFault}
use Rattle.surface_text.specs.declared.sides.LineFault.TheVariants as faults
use Rattle.surface_text.specs.declared.lines.Kind.{Kind}
use Rattle.surface_text.specs.declared.lines.Kind.TheVariants as kinds
use Rattle.surface_text.specs.Spelling.{Line, content, lines_before_end}
use Rattle.surface_text.specs.Spelling.Line.{flat, field, base, polygon, glue}
use Rattle.surface_text.specs.Limits.{NamesSides}
use Rattle.surface_text.specs.Causes.{FrontOf, words_behind, words_after, IsWanted, IsPrinted, base_lines, polygons_in}
use Rattle.surface_text.specs.Lines.{IsSoFar, IsLineRefused, IsNextLine}
use Rattle.surface_text.specs.Faults.{word_of_kind, words_by, IsOpen, IsBodyRefused, IsPolygonRefused}
use Rattle.surface_text.proofs.Bodies.{Standing, polygon_bad}
use Rattle.surface_text.proofs.Least.{least_next}

-- whether there is none
abbrev pub Tells : {X : Type 0} → Bool → List X → Type 0
Tells b [] = b ≡ true
Tells b (x ∷ xs) = b ≡ false

not_zero : (n : ℕ) → (suc n == 0) ≡ false
not_zero n = grind (arith, nat_tests)

-- whether the length is 0
pub tells : {X : Type 0} (xs : List X) (n : ℕ) (b : Bool) → b ≡ (n == 0) → n ≡ length xs → Tells b xs
tells [] n b e is = e ∙ ap (λ (m : ℕ). m == 0) is
tells (x ∷ xs) n b e is = e ∙ ap (λ (m : ℕ). m == 0) is ∙ not_zero (length xs)

tells_map : {X Y : Type 0} (f : X → Y) (xs : List X) (b : Bool) → Tells b xs → Tells b (map f xs)
tells_map f [] b is = is
tells_map f (x ∷ xs) b is = is

-- the words behind the last of these lines
words_more : (xs : List Line) (y : Line) (ys : List Line) → words_after (xs ++ y ∷ ys) ≡ words_after (y ∷ ys)
words_more [] y ys = refl
words_more (x ∷ []) y ys = refl
words_more (x ∷ z ∷ xs) y ys = words_more (z ∷ xs) y ys

bases_words : (line : Line) (bs : List Point) → words_behind line ≡ codes "base" ∷ codes "polygon" ∷ []
    → words_after (line ∷ map base bs) ≡ codes "base" ∷ codes "polygon" ∷ []
bases_words line [] e = e
bases_words line (b ∷ bs) e = bases_words (base b) bs refl

polygons_words : (p : List Vec2) (ps : List (List Vec2)) → words_after (polygon p ∷ map polygon ps) ≡ codes "polygon" ∷ codes "glue" ∷ codes "end" ∷ []
polygons_words p [] = refl
polygons_words p (q ∷ ps) = polygons_words q ps

glues_words : (g : Glue) (gs : List Glue) → words_after (glue g ∷ map glue gs) ≡ codes "glue" ∷ codes "end" ∷ []
glues_words g [] = refl
glues_words g (h ∷ gs) = glues_words h gs

-- the lines of these parts
abbrev lines_by : ℕ → List Point → List (List Vec2) → List Glue → List Line
lines_by d bs ps gs = flat ∷ field d ∷ (map base bs ++ (map polygon ps ++ map glue gs))

-- no glue names a side where no polygon is
glues_none : (g : Glue) (gs : List Glue) → ¬ (AllByRecursion (NamesSides []) (g ∷ gs))
glues_none g gs all =
    let first = all.0 in
    let side = first.0 in
    let below = side.0 in
    omega arith

-- the words that may stand behind the lines of these parts
pub parts_words : (d : ℕ) (bs : List Point) (ps : List (List Vec2)) (gs : List Glue) (bare glueless : Bool) → Tells bare ps → Tells glueless gs
    → AllByRecursion (NamesSides ps) gs → words_after (lines_by d bs ps gs) ≡ words_by bare glueless
parts_words d bs [] [] bare glueless b g all =
    ap (λ (xs : List Line). words_after (flat ∷ field d ∷ xs)) (append-nil (map base bs)) ∙ bases_words (field d) bs refl
    ∙ ap (λ (x : Bool). words_by x glueless) (sym b)
parts_words d bs [] (h ∷ gs) bare glueless b g all = absurd (glues_none h gs all)
parts_words d bs (p ∷ ps) [] bare glueless b g all =
    words_more (flat ∷ field d ∷ map base bs) (polygon p) (map polygon ps ++ [])
    ∙ ap (λ (xs : List Line). words_after (polygon p ∷ xs)) (append-nil (map polygon ps)) ∙ polygons_words p ps
    ∙ ap (λ (x : Bool). words_by false x) (sym g) ∙ ap (λ (x : Bool). words_by x glueless) (sym b)
parts_words d bs (p ∷ ps) (h ∷ gs) bare glueless b g all =
    words_more (flat ∷ field d ∷ map base bs) (polygon p) (map polygon ps ++ glue h ∷ map glue gs)
    ∙ words_more (polygon p ∷ map polygon ps) (glue h) (map glue gs) ∙ glues_words h gs
    ∙ ap (λ (x : Bool). words_by false x) (sym g) ∙ ap (λ (x : Bool). words_by x glueless) (sym b)

-- where no polygon is, no glue is
pub parts_order : (ps : List (List Vec2)) (gs : List Glue) (bare glueless : Bool) → Tells bare ps → Tells glueless gs
    → AllByRecursion (NamesSides ps) gs → bare ≡ true → glueless ≡ true
parts_order [] [] bare glueless b g all is = g
parts_order [] (h ∷ gs) bare glueless b g all is = absurd (glues_none h gs all)
parts_order (p ∷ ps) gs bare glueless b g all is = absurd (true≢false (sym is ∙ b))

-- as many base lines as base points
pub parts_bases : (bs : List Point) (ps : List (List Vec2)) (gs : List Glue) → base_lines (map base bs ++ (map polygon ps ++ map glue gs)) ≡ length bs
parts_bases [] [] [] = refl
parts_bases [] [] (g ∷ gs) = parts_bases [] [] gs
parts_bases [] (p ∷ ps) gs = parts_bases [] ps gs
parts_bases (b ∷ bs) ps gs = let rest = parts_bases bs ps gs in omega arith

-- the polygons of the polygon lines are those of the file
pub parts_polygons : (bs : List Point) (ps : List (List Vec2)) (gs : List Glue) → polygons_in (map base bs ++ (map polygon ps ++ map glue gs)) ≡ ps
parts_polygons [] [] [] = refl
parts_polygons [] [] (g ∷ gs) = parts_polygons [] [] gs
parts_polygons [] (p ∷ ps) gs = ap (λ (xs : List (List Vec2)). p ∷ xs) (parts_polygons [] ps gs)
parts_polygons (b ∷ bs) ps gs = parts_polygons bs ps gs

-- the same of a file in memory
pub file_bases : (file : SurfaceFile) → base_lines (lines_before_end (content file)) ≡ length file.bases.items
file_bases file = parts_bases file.bases.items (map (λ (p : Polygon). p.sides.items) file.polygons.items) file.glues.items

pub file_polygons : (file : SurfaceFile) → polygons_in (lines_before_end (content file)) ≡ map (λ (p : Polygon). p.sides.items) file.polygons.items
file_polygons file = parts_polygons file.bases.items (map (λ (p : Polygon). p.sides.items) file.polygons.items) file.glues.items

length_map : {X Y : Type 0} (f : X → Y) (xs : List X) → length (map f xs) ≡ length xs
length_map f [] = refl
length_map f (x ∷ xs) = ap suc (length_map f xs)

pub file_count : (file : SurfaceFile) → length (polygons_in (lines_before_end (content file))) ≡ length file.polygons.items
file_count file = ap length (file_polygons file) ∙ length_map (λ (p : Polygon). p.sides.items) file.polygons.items

bare_of : (file : SurfaceFile) (bare : Bool) → Tells bare file.polygons.items → Tells bare (map (λ (p : Polygon). p.sides.items) file.polygons.items)
bare_of file bare b = tells_map (λ (p : Polygon). p.sides.items) file.polygons.items bare b

pub file_order : (file : SurfaceFile) (bare glueless : Bool) → IsSoFar (content file) → Tells bare file.polygons.items → Tells glueless file.glues.items
    → bare ≡ true → glueless ≡ true
file_order file bare glueless so_far b g =
    parts_order (map (λ (p : Polygon). p.sides.items) file.polygons.items) file.glues.items bare glueless (bare_of file bare b) g so_far.glues

pub file_words : (file : SurfaceFile) (bare glueless : Bool) → IsSoFar (content file) → Tells bare file.polygons.items → Tells glueless file.glues.items
    → words_after (lines_before_end (content file)) ≡ words_by bare glueless
file_words file bare glueless so_far b g =
    parts_words file.field file.bases.items (map (λ (p : Polygon). p.sides.items) file.polygons.items) file.glues.items bare glueless (bare_of file bare b) g so_far.glues

-- a kind that may stand has a word that may
opened : (bare glueless : Bool) (kind : Kind) (word : List ℕ) → (bare ≡ true → glueless ≡ true) → word ≡ word_of_kind kind → IsOpen bare glueless kind
    → Contains (words_by bare glueless) word
opened true glueless kinds.Base word order e stands = (0, omega arith, sym e)
opened true glueless kinds.Polygon word order e stands = (1, omega arith, sym e)
opened true glueless kinds.Glue word order e stands = absurd (true≢false stands)
opened true glueless kinds.End word order e stands = absurd (true≢false stands)
opened false glueless kinds.Base word order e stands = absurd (true≢false (sym stands))
opened false true kinds.Polygon word order e stands = (0, omega arith, sym e)
opened false true kinds.Glue word order e stands = (1, omega arith, sym e)
opened false true kinds.End word order e stands = (2, omega arith, sym e)
opened false false kinds.Polygon word order e stands = absurd (true≢false (sym stands))
opened false false kinds.Glue word order e stands = (0, omega arith, sym e)
opened false false kinds.End word order e stands = (1, omega arith, sym e)

-- a line that begins with the word of a kind that may stand
pub file_stands : (file : SurfaceFile) (bare glueless : Bool) {bytes word tail : List ℕ} (kind : Kind) → IsSoFar (content file) → Tells bare file.polygons.items
    → Tells glueless file.glues.items → AllByRecursion IsPrinted bytes → FrontOf 32 bytes word tail → word ≡ word_of_kind kind → IsOpen bare glueless kind
    → Standing (lines_before_end (content file)) bytes word tail (word_of_kind kind)
file_stands file bare glueless {word = word} kind so_far b g printed front e stands =
    record {
      some = λ nothing. absurd (cc);
      printed = printed;
      front = front;
      stands = subst (λ (ws : List (List ℕ)). Contains ws word) (sym (file_words file bare glueless so_far b g))
          (opened bare glueless kind word (file_order file bare glueless so_far b g) e stands);
      is = e;
    }

-- what may not stand behind the lines of a file
pub file_closed : (file : SurfaceFile) (bare glueless : Bool) (word : List ℕ) → IsSoFar (content file) → Tells bare file.polygons.items
    → Tells glueless file.glues.items → ¬ (Contains (words_by bare glueless) word) → ¬ (Contains (words_after (lines_before_end (content file))) word)
file_closed file bare glueless word so_far b g not held = not (subst (λ (ws : List (List ℕ)). Contains ws word) (file_words file bare glueless so_far b g) held)

-- there is none
pub none_from : {X : Type 0} (xs : List X) (b : Bool) → Tells b xs → b ≡ true → xs ≡ []
none_from [] b is yes_one = refl
none_from (x ∷ xs) b is yes_one = absurd (true≢false (sym yes_one ∙ is))

pub some_words : (bare glueless : Bool) → words_by bare glueless ≢ []
some_words true glueless e = absurd (cc)
some_words false true e = absurd (cc)
some_words false false e = absurd (cc)

pub bool_of : {X : Type 0} (xs : List X) → (b : Bool) × Tells b xs
bool_of [] = (true, refl)
bool_of (x ∷ xs) = (false, refl)

-- a further line is wanted
pub file_wanted : (file : SurfaceFile) → IsSoFar (content file) → IsWanted (lines_before_end (content file))
file_wanted file so_far nothing =
    let b = bool_of file.polygons.items in
    let g = bool_of file.glues.items in
    some_words b.0 g.0 (sym (file_words file b.0 g.0 so_far b.1 g.1) ∙ nothing)

-- a refusal of the next line is one of the rest
pub refused_next : (fault : LineFault) (before : List Line) {rest bytes after : List ℕ} → IsWanted before → IsNextLine rest bytes after → IsBodyRefused before bytes fault
    → IsLineRefused before rest fault
refused_next (faults.Bad cause) before wanted next refused = least_next cause before wanted next refused
refused_next faults.Memory before wanted next refused = tt

-- a polygon line that is refused, or for which memory is wanting
pub polygon_refused : (before : List Line) (bytes word tail : List ℕ) (count : ℕ) → Standing before bytes word tail (codes "polygon") → length (polygons_in before) ≡ count
    → (fault : LineFault) → IsPolygonRefused tail count fault → IsBodyRefused before bytes fault
polygon_refused before bytes word tail count s counted (faults.Bad cause) refused = polygon_bad before bytes word tail count s counted cause refused
polygon_refused before bytes word tail count s counted faults.Memory refused = tt

-- bytes whose length isn't 0
pub some_bytes : (bytes : List ℕ) → false ≡ (length bytes == 0) → bytes ≢ []
some_bytes bytes is e = true≢false (sym (is ∙ ap (λ (xs : List ℕ). length xs == 0) e))
