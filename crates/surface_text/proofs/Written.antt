-- Lines put behind bytes, one after another.
use Rattle.std.proofs.Common.{◌≡◌, ℕ, List, [], ◌∷◌, ◌++◌, map, codes, refl, ap, sym, ◌∙◌, append_assoc}
use Rattle.plane.specs.Spelling.{natural_text}
use Rattle.surface_text.specs.declared.file.Polygon.{Polygon}
use Rattle.surface_text.specs.declared.file.SurfaceFile.{SurfaceFile}
use Rattle.surface_text.specs.Spelling.{Line, line_text, lines_then, content, text}

-- lines, then further lines
pub lines_then-append : (xs ys : List Line) (rest : List ℕ) → lines_then (xs ++ ys) rest ≡ lines_then xs (lines_then ys rest)
lines_then-append [] ys rest = refl
lines_then-append (x ∷ xs) ys rest = ap (λ (end : List ℕ). line_text x ++ 10 ∷ end) (lines_then-append xs ys rest)

-- lines, and the rest behind them
pub lines_then-rest : (xs : List Line) (rest : List ℕ) → lines_then xs [] ++ rest ≡ lines_then xs rest
lines_then-rest [] rest = refl
lines_then-rest (x ∷ xs) rest =
    append_assoc (line_text x) (10 ∷ lines_then xs []) rest ∙ ap (λ (end : List ℕ). line_text x ++ 10 ∷ end) (lines_then-rest xs rest)

-- two fractions with a space between
pub coordinates : (out a b now x y : List ℕ) → a ≡ out ++ x → b ≡ a ++ 32 ∷ [] → now ≡ b ++ y → now ≡ out ++ (x ++ 32 ∷ [] ++ y)
coordinates out a b now x y first space second =
    second ∙ ap (λ (text : List ℕ). text ++ y) (space ∙ ap (λ (text : List ℕ). text ++ 32 ∷ []) first)
    ∙ ap (λ (text : List ℕ). text ++ y) (append_assoc out x (32 ∷ [])) ∙ append_assoc out (x ++ 32 ∷ []) y

-- the lines of the polygons, one polygon after another
polygon_lines : (polygons : List Polygon)
    → map (λ (polygon : Polygon). Line.polygon polygon.sides.items) polygons ≡ map Line.polygon (map (λ (polygon : Polygon). polygon.sides.items) polygons)
polygon_lines [] = refl
polygon_lines (p ∷ polygons) = ap (λ (lines : List Line). Line.polygon p.sides.items ∷ lines) (polygon_lines polygons)

-- the text of a file, part by part
file_parts : (d : ℕ) (bs ps gs : List Line)
    → lines_then ((Line.flat ∷ Line.field d ∷ (bs ++ (ps ++ gs))) ++ Line.end ∷ []) []
    ≡ ((codes "flat 1\nfield " ++ natural_text d) ++ 10 ∷ []) ++ lines_then bs (lines_then ps (lines_then gs (codes "end\n")))
file_parts d bs ps gs =
    let lines = lines_then-append (bs ++ (ps ++ gs)) (Line.end ∷ []) [] ∙ lines_then-append bs (ps ++ gs) (codes "end\n")
    ∙ ap (lines_then bs) (lines_then-append ps gs (codes "end\n")) in
    ap (λ (rest : List ℕ). codes "flat 1\nfield " ++ (natural_text d ++ 10 ∷ rest)) lines
    ∙ ap (λ (rest : List ℕ). codes "flat 1\nfield " ++ rest) (sym (append_assoc (natural_text d) (10 ∷ []) (lines_then bs (lines_then ps (lines_then gs (codes "end\n"))))))

-- lines behind one another
lines_put : (front tail : List ℕ) (bs ps gs : List Line)
    → (((front ++ lines_then bs []) ++ lines_then ps []) ++ lines_then gs []) ++ tail ≡ front ++ lines_then bs (lines_then ps (lines_then gs tail))
lines_put front tail bs ps gs =
    append_assoc ((front ++ lines_then bs []) ++ lines_then ps []) (lines_then gs []) tail
    ∙ ap (λ (end : List ℕ). ((front ++ lines_then bs []) ++ lines_then ps []) ++ end) (lines_then-rest gs tail)
    ∙ append_assoc (front ++ lines_then bs []) (lines_then ps []) (lines_then gs tail)
    ∙ ap (λ (end : List ℕ). (front ++ lines_then bs []) ++ end) (lines_then-rest ps (lines_then gs tail))
    ∙ append_assoc front (lines_then bs []) (lines_then ps (lines_then gs tail))
    ∙ ap (λ (end : List ℕ). front ++ end) (lines_then-rest bs (lines_then ps (lines_then gs tail)))

-- what is written part by part is the text of the file
pub file_written : (file : SurfaceFile) (a b c d e now : List ℕ) → a ≡ (codes "flat 1\nfield " ++ natural_text file.field) → b ≡ a ++ 10 ∷ []
    → c ≡ b ++ lines_then (map Line.base file.bases.items) []
    → d ≡ c ++ lines_then (map (λ (polygon : Polygon). Line.polygon polygon.sides.items) file.polygons.items) []
    → e ≡ d ++ lines_then (map Line.glue file.glues.items) [] → now ≡ e ++ codes "end\n" → now ≡ text (content file)
file_written file a b c d e now p q r s t u =
    let bs : List Line = map Line.base file.bases.items in
    let made : List Line = map (λ (polygon : Polygon). Line.polygon polygon.sides.items) file.polygons.items in
    let ps : List Line = map Line.polygon (map (λ (polygon : Polygon). polygon.sides.items) file.polygons.items) in
    let gs : List Line = map Line.glue file.glues.items in
    let front : List ℕ = (codes "flat 1\nfield " ++ natural_text file.field) ++ 10 ∷ [] in
    let one : b ≡ front = q ∙ ap (λ (x : List ℕ). x ++ 10 ∷ []) p in
    let two : c ≡ front ++ lines_then bs [] = r ∙ ap (λ (x : List ℕ). x ++ lines_then bs []) one in
    let three : d ≡ (front ++ lines_then bs []) ++ lines_then ps [] =
    s ∙ ap (λ (x : List ℕ). x ++ lines_then made []) two ∙ ap (λ (x : List Line). (front ++ lines_then bs []) ++ lines_then x []) (polygon_lines file.polygons.items) in
    let four : e ≡ ((front ++ lines_then bs []) ++ lines_then ps []) ++ lines_then gs [] = t ∙ ap (λ (x : List ℕ). x ++ lines_then gs []) three in
    u ∙ ap (λ (x : List ℕ). x ++ codes "end\n") four ∙ lines_put front (codes "end\n") bs ps gs ∙ sym (file_parts file.field bs ps gs)
