-- The lines that bytes spell, by their word, and what each kind of line is refused for.
use Rattle.std.proofs.Common.{◌≡◌, ◌≢◌, ℕ, List, [], ◌++◌, length, get_or, codes, Contains, refl, ap, sym, ◌∙◌, subst, arith}
use Rattle.std.specs.List.{AllByRecursion}
use Rattle.plane.specs.declared.vec2.Vec2.{Vec2}
use Rattle.surface_text.specs.declared.file.Point.{Point}
use Rattle.surface_text.specs.declared.file.Glue.{Glue}
use Rattle.surface_text.specs.declared.cause.Cause.{Cause}
use Rattle.surface_text.specs.declared.cause.Cause.TheVariants.{NoLine, CutLine, BadByte, BadFirst, BadKind, BadForm, BadNumber, BadField, BadBase, ManyBases, FewSides, ManyPolygons, BadName, AfterEnd}
use Rattle.surface_text.specs.Spelling.{Line, word_of, tail_of, line_text}
use Rattle.surface_text.specs.Spelling.Line.{flat, field, base, polygon, glue, end}
use Rattle.surface_text.specs.Limits.{IsBoundedPoint, NamesSides}
use Rattle.surface_text.specs.Causes.{FrontOf, StopsAt, words_after, IsPrinted, IsLine, HasBoundedNumbers, IsWrong, base_lines, polygons_in}
use Rattle.surface_text.specs.Readings.{IsTheOne, IsTailPoint}
use Rattle.surface_text.specs.Sides.{AreSides}
use Rattle.surface_text.specs.Bases.{IsBaseBad}
use Rattle.surface_text.specs.Faults.{IsLeastOfLine, IsTailNumber, IsFieldBad, AreTheSides, IsPolygonBad, IsTailGlue, IsGlueBad}
use Rattle.surface_text.proofs.Stops.{same_front}
use Rattle.surface_text.proofs.Runs.{sides_stop}
use Rattle.surface_text.proofs.Numbers.{Lacks}
use Rattle.surface_text.proofs.Least.{IsFreeBelow, free_next, free_formed, form_bad}

-- no word has a space
word_lacks : (line : Line) → Lacks 32 (word_of line)
word_lacks flat = (λ e. omega arith, (λ e. omega arith, (λ e. omega arith, (λ e. omega arith, tt))))
word_lacks (field d) = (λ e. omega arith, (λ e. omega arith, (λ e. omega arith, (λ e. omega arith, (λ e. omega arith, tt)))))
word_lacks (base at) = (λ e. omega arith, (λ e. omega arith, (λ e. omega arith, (λ e. omega arith, tt))))
word_lacks (polygon sides) = (λ e. omega arith, (λ e. omega arith, (λ e. omega arith, (λ e. omega arith, (λ e. omega arith, (λ e. omega arith, (λ e. omega arith, tt)))))))
word_lacks (glue g) = (λ e. omega arith, (λ e. omega arith, (λ e. omega arith, (λ e. omega arith, tt))))
word_lacks end = (λ e. omega arith, (λ e. omega arith, (λ e. omega arith, tt)))

-- what follows a word is nothing or begins with a space
tail_stops : (line : Line) → StopsAt 32 (tail_of line)
tail_stops flat = refl
tail_stops (field d) = refl
tail_stops (base at) = refl
tail_stops (polygon sides) = sides_stop sides
tail_stops (glue g) = refl
tail_stops end = tt

-- the word and the tail of a line
pub line_parts : {bytes word tail : List ℕ} → FrontOf 32 bytes word tail → (line : Line) → bytes ≡ line_text line → (word ≡ word_of line) × (tail ≡ tail_of line)
line_parts front line e = same_front front (word_of line) (tail_of line) (word_lacks line) (tail_stops line) e

-- a line of its word and its tail
pub line_joined : {bytes word tail : List ℕ} → FrontOf 32 bytes word tail → (line : Line) → word ≡ word_of line → tail ≡ tail_of line → bytes ≡ line_text line
line_joined {tail = tail} front line a b = front.found ∙ ap (λ (start : List ℕ). start ++ tail) a ∙ ap (λ (end : List ℕ). word_of line ++ end) b

-- words with other third letters differ
apart : {word a b : List ℕ} (x y : ℕ) → word ≡ a → word ≡ b → get_or a 2 0 ≡ x → get_or b 2 0 ≡ y → x ≢ y → ⊥
apart x y ea eb is_x is_y other = other (sym is_x ∙ ap (λ (w : List ℕ). get_or w 2 0) (sym ea ∙ eb) ∙ is_y)

-- a line that begins with a word is of its kind
field_only : {bytes word tail : List ℕ} → FrontOf 32 bytes word tail → word ≡ codes "field" → (line : Line) → IsLine bytes line → (d : ℕ) × (line ≡ field d) × IsTailNumber tail d
field_only front e flat is = absurd (apart 101 97 e (line_parts front flat is.0).0 refl refl (λ k. omega arith))
field_only front e (field d) is = let parts = line_parts front (field d) is.0 in (d, refl, parts.1)
field_only front e (base at) is = absurd (apart 101 115 e (line_parts front (base at) is.0).0 refl refl (λ k. omega arith))
field_only front e (polygon sides) is = absurd (apart 101 108 e (line_parts front (polygon sides) is.0).0 refl refl (λ k. omega arith))
field_only front e (glue g) is = absurd (apart 101 117 e (line_parts front (glue g) is.0).0 refl refl (λ k. omega arith))
field_only front e end is = absurd (apart 101 100 e (line_parts front end is.0).0 refl refl (λ k. omega arith))

base_only : {bytes word tail : List ℕ} → FrontOf 32 bytes word tail → word ≡ codes "base" → (line : Line) → IsLine bytes line → (at : Point) × (line ≡ base at) × IsTailPoint tail at
base_only front e flat is = absurd (apart 115 97 e (line_parts front flat is.0).0 refl refl (λ k. omega arith))
base_only front e (field d) is = absurd (apart 115 101 e (line_parts front (field d) is.0).0 refl refl (λ k. omega arith))
base_only front e (base at) is = let parts = line_parts front (base at) is.0 in (at, refl, (parts.1, is.1))
base_only front e (polygon sides) is = absurd (apart 115 108 e (line_parts front (polygon sides) is.0).0 refl refl (λ k. omega arith))
base_only front e (glue g) is = absurd (apart 115 117 e (line_parts front (glue g) is.0).0 refl refl (λ k. omega arith))
base_only front e end is = absurd (apart 115 100 e (line_parts front end is.0).0 refl refl (λ k. omega arith))

polygon_only : {bytes word tail : List ℕ} → FrontOf 32 bytes word tail → word ≡ codes "polygon" → (line : Line) → IsLine bytes line
    → (sides : List Vec2) × (line ≡ polygon sides) × AreSides tail sides
polygon_only front e flat is = absurd (apart 108 97 e (line_parts front flat is.0).0 refl refl (λ k. omega arith))
polygon_only front e (field d) is = absurd (apart 108 101 e (line_parts front (field d) is.0).0 refl refl (λ k. omega arith))
polygon_only front e (base at) is = absurd (apart 108 115 e (line_parts front (base at) is.0).0 refl refl (λ k. omega arith))
polygon_only front e (polygon sides) is = let parts = line_parts front (polygon sides) is.0 in (sides, refl, (parts.1, is.1))
polygon_only front e (glue g) is = absurd (apart 108 117 e (line_parts front (glue g) is.0).0 refl refl (λ k. omega arith))
polygon_only front e end is = absurd (apart 108 100 e (line_parts front end is.0).0 refl refl (λ k. omega arith))

glue_only : {bytes word tail : List ℕ} → FrontOf 32 bytes word tail → word ≡ codes "glue" → (line : Line) → IsLine bytes line → (g : Glue) × (line ≡ glue g) × IsTailGlue tail g
glue_only front e flat is = absurd (apart 117 97 e (line_parts front flat is.0).0 refl refl (λ k. omega arith))
glue_only front e (field d) is = absurd (apart 117 101 e (line_parts front (field d) is.0).0 refl refl (λ k. omega arith))
glue_only front e (base at) is = absurd (apart 117 115 e (line_parts front (base at) is.0).0 refl refl (λ k. omega arith))
glue_only front e (polygon sides) is = absurd (apart 117 108 e (line_parts front (polygon sides) is.0).0 refl refl (λ k. omega arith))
glue_only front e (glue g) is = let parts = line_parts front (glue g) is.0 in (g, refl, parts.1)
glue_only front e end is = absurd (apart 117 100 e (line_parts front end is.0).0 refl refl (λ k. omega arith))

end_only : {bytes word tail : List ℕ} → FrontOf 32 bytes word tail → word ≡ codes "end" → (line : Line) → IsLine bytes line → tail ≡ []
end_only front e flat is = absurd (apart 100 97 e (line_parts front flat is.0).0 refl refl (λ k. omega arith))
end_only front e (field d) is = absurd (apart 100 101 e (line_parts front (field d) is.0).0 refl refl (λ k. omega arith))
end_only front e (base at) is = absurd (apart 100 115 e (line_parts front (base at) is.0).0 refl refl (λ k. omega arith))
end_only front e (polygon sides) is = absurd (apart 100 108 e (line_parts front (polygon sides) is.0).0 refl refl (λ k. omega arith))
end_only front e (glue g) is = absurd (apart 100 117 e (line_parts front (glue g) is.0).0 refl refl (λ k. omega arith))
end_only front e end is = (line_parts front end is.0).1

-- what rules out the causes up to the form, for a line behind these lines
pub record Standing (before : List Line) (bytes word tail w : List ℕ) : Type 0 where
  pub some : before ≢ []
  pub printed : AllByRecursion IsPrinted bytes
  pub front : FrontOf 32 bytes word tail
  pub stands : Contains (words_after before) word
  pub is : word ≡ w

-- a field line that is refused
pub field_bad : (before : List Line) (bytes word tail : List ℕ) → Standing before bytes word tail (codes "field") → (cause : Cause) → IsFieldBad tail cause
    → IsLeastOfLine cause before bytes
field_bad before bytes word tail s NoLine bad = absurd bad
field_bad before bytes word tail s CutLine bad = absurd bad
field_bad before bytes word tail s BadByte bad = absurd bad
field_bad before bytes word tail s BadFirst bad = absurd bad
field_bad before bytes word tail s BadKind bad = absurd bad
field_bad before bytes word tail s BadForm bad =
    form_bad before bytes s.some s.printed s.front s.stands (λ line is. let own = field_only s.front s.is line is in bad own.0 own.2)
field_bad before bytes word tail s BadNumber bad = absurd bad
field_bad before bytes word tail s BadField bad =
    let line : Line = field bad.0 in
    let formed : IsLine bytes line = (line_joined s.front line s.is bad.1, tt) in
    let seven = free_formed before bytes s.some s.printed s.front s.stands line formed in
    record {
      holds = (line, formed, bad.2);
      least = free_next before bytes BadNumber seven (λ held. let own = field_only s.front s.is held.0 held.1 in field_bounded own.1 held.2);
    }
  where
    field_bounded : {line : Line} {d : ℕ} → line ≡ field d → ¬ (¬ (HasBoundedNumbers line))
    field_bounded e not = not (subst HasBoundedNumbers (sym e) tt)
field_bad before bytes word tail s BadBase bad = absurd bad
field_bad before bytes word tail s ManyBases bad = absurd bad
field_bad before bytes word tail s FewSides bad = absurd bad
field_bad before bytes word tail s ManyPolygons bad = absurd bad
field_bad before bytes word tail s BadName bad = absurd bad
field_bad before bytes word tail s AfterEnd bad = absurd bad

-- a line that is the only one that the bytes spell has no cause that doesn't stand for it
free_wrong : (before : List Line) (bytes : List ℕ) (cause : Cause) (line : Line) → ((other : Line) → IsLine bytes other → other ≡ line) → ¬ (IsWrong cause before line)
    → ¬ ((other : Line) × IsLine bytes other × IsWrong cause before other)
free_wrong before bytes cause line only not held = not (subst (IsWrong cause before) (only held.0 held.1) held.2)

-- a point that alone is spelled makes the only line
one_base : {bytes word tail : List ℕ} {at : Point} → FrontOf 32 bytes word tail → word ≡ codes "base" → IsTheOne (IsTailPoint tail) IsBoundedPoint at
    → (line : Line) → IsLine bytes line → line ≡ base at
one_base front e one line is = let own = base_only front e line is in own.1 ∙ ap base (one.only own.0 own.2)

base_line : {bytes word tail : List ℕ} (at : Point) → FrontOf 32 bytes word tail → word ≡ codes "base" → IsTailPoint tail at → IsLine bytes (base at)
base_line at front e spelled = (line_joined front (base at) e spelled.0, spelled.1)

-- up to the number of its field
base_nine : (before : List Line) (bytes word tail : List ℕ) → Standing before bytes word tail (codes "base") → (at : Point) → IsTheOne (IsTailPoint tail) IsBoundedPoint at
    → IsFreeBelow 9 before bytes
base_nine before bytes word tail s at one =
    let only = one_base s.front s.is one in
    let line : Line = base at in
    let seven = free_formed before bytes s.some s.printed s.front s.stands line (base_line at s.front s.is one.found) in
    let eight = free_next before bytes BadNumber seven (free_wrong before bytes BadNumber line only (λ wide. wide one.fits)) in
    free_next before bytes BadField eight (free_wrong before bytes BadField line only (λ wrong. wrong))

-- a base line that is refused
pub base_bad : (before : List Line) (bytes word tail : List ℕ) (count : ℕ) → Standing before bytes word tail (codes "base") → base_lines before ≡ count
    → (cause : Cause) → IsBaseBad tail count cause → IsLeastOfLine cause before bytes
base_bad before bytes word tail count s counted NoLine bad = absurd bad
base_bad before bytes word tail count s counted CutLine bad = absurd bad
base_bad before bytes word tail count s counted BadByte bad = absurd bad
base_bad before bytes word tail count s counted BadFirst bad = absurd bad
base_bad before bytes word tail count s counted BadKind bad = absurd bad
base_bad before bytes word tail count s counted BadForm bad =
    form_bad before bytes s.some s.printed s.front s.stands (λ line is. let own = base_only s.front s.is line is in bad own.0 own.2)
base_bad before bytes word tail count s counted BadNumber bad =
    let line : Line = base bad.x in
    let formed : IsLine bytes line = base_line bad.x s.front s.is bad.found in
    record { holds = (line, formed, bad.beyond bad.x bad.found); least = free_formed before bytes s.some s.printed s.front s.stands line formed }
base_bad before bytes word tail count s counted BadField bad = absurd bad
base_bad before bytes word tail count s counted BadBase bad =
    let one : IsTheOne (IsTailPoint tail) IsBoundedPoint bad.0 = bad.1 in
    record { holds = (base bad.0, base_line bad.0 s.front s.is one.found, bad.2); least = base_nine before bytes word tail s bad.0 one }
base_bad before bytes word tail count s counted ManyBases bad =
    let one : IsTheOne (IsTailPoint tail) IsBoundedPoint bad.0 = bad.1 in
    let above = bad.2 in
    let many = bad.3 in
    record {
      holds = (base bad.0, base_line bad.0 s.front s.is one.found, (tt, omega arith));
      least = free_next before bytes BadBase (base_nine before bytes word tail s bad.0 one)
          (free_wrong before bytes BadBase (base bad.0) (one_base s.front s.is one) (λ below. below above));
    }
base_bad before bytes word tail count s counted FewSides bad = absurd bad
base_bad before bytes word tail count s counted ManyPolygons bad = absurd bad
base_bad before bytes word tail count s counted BadName bad = absurd bad
base_bad before bytes word tail count s counted AfterEnd bad = absurd bad

-- sides that alone are spelled make the only line
one_polygon : {bytes word tail : List ℕ} {sides : List Vec2} → FrontOf 32 bytes word tail → word ≡ codes "polygon" → AreTheSides tail sides
    → (line : Line) → IsLine bytes line → line ≡ polygon sides
one_polygon front e one line is = let own = polygon_only front e line is in own.1 ∙ ap polygon (one.only own.0 own.2)

polygon_line : {bytes word tail : List ℕ} (sides : List Vec2) → FrontOf 32 bytes word tail → word ≡ codes "polygon" → AreSides tail sides → IsLine bytes (polygon sides)
polygon_line sides front e spelled = (line_joined front (polygon sides) e spelled.0, spelled.1)

-- up to the number of its sides
polygon_eleven : (before : List Line) (bytes word tail : List ℕ) → Standing before bytes word tail (codes "polygon") → (sides : List Vec2) → AreTheSides tail sides
    → IsFreeBelow 11 before bytes
polygon_eleven before bytes word tail s sides one =
    let only = one_polygon s.front s.is one in
    let line : Line = polygon sides in
    let seven = free_formed before bytes s.some s.printed s.front s.stands line (polygon_line sides s.front s.is one.found) in
    let eight = free_next before bytes BadNumber seven (free_wrong before bytes BadNumber line only (λ wide. wide one.fits)) in
    let nine = free_next before bytes BadField eight (free_wrong before bytes BadField line only (λ wrong. wrong)) in
    let ten = free_next before bytes BadBase nine (free_wrong before bytes BadBase line only (λ wrong. wrong)) in
    free_next before bytes ManyBases ten (free_wrong before bytes ManyBases line only (λ wrong. wrong.0))

-- a polygon line that is refused
pub polygon_bad : (before : List Line) (bytes word tail : List ℕ) (count : ℕ) → Standing before bytes word tail (codes "polygon") → length (polygons_in before) ≡ count
    → (cause : Cause) → IsPolygonBad tail count cause → IsLeastOfLine cause before bytes
polygon_bad before bytes word tail count s counted NoLine bad = absurd bad
polygon_bad before bytes word tail count s counted CutLine bad = absurd bad
polygon_bad before bytes word tail count s counted BadByte bad = absurd bad
polygon_bad before bytes word tail count s counted BadFirst bad = absurd bad
polygon_bad before bytes word tail count s counted BadKind bad = absurd bad
polygon_bad before bytes word tail count s counted BadForm bad =
    form_bad before bytes s.some s.printed s.front s.stands (λ line is. let own = polygon_only s.front s.is line is in bad own.0 own.2)
polygon_bad before bytes word tail count s counted BadNumber bad =
    let line : Line = polygon bad.x in
    let formed : IsLine bytes line = polygon_line bad.x s.front s.is bad.found in
    record { holds = (line, formed, bad.beyond bad.x bad.found); least = free_formed before bytes s.some s.printed s.front s.stands line formed }
polygon_bad before bytes word tail count s counted BadField bad = absurd bad
polygon_bad before bytes word tail count s counted BadBase bad = absurd bad
polygon_bad before bytes word tail count s counted ManyBases bad = absurd bad
polygon_bad before bytes word tail count s counted FewSides bad =
    let one : AreTheSides tail bad.0 = bad.1 in
    record { holds = (polygon bad.0, polygon_line bad.0 s.front s.is one.found, bad.2); least = polygon_eleven before bytes word tail s bad.0 one }
polygon_bad before bytes word tail count s counted ManyPolygons bad =
    let one : AreTheSides tail bad.0 = bad.1 in
    let enough = bad.2 in
    let many = bad.3 in
    record {
      holds = (polygon bad.0, polygon_line bad.0 s.front s.is one.found, (tt, omega arith));
      least = free_next before bytes FewSides (polygon_eleven before bytes word tail s bad.0 one)
          (free_wrong before bytes FewSides (polygon bad.0) (one_polygon s.front s.is one) (λ few. omega arith));
    }
polygon_bad before bytes word tail count s counted BadName bad = absurd bad
polygon_bad before bytes word tail count s counted AfterEnd bad = absurd bad

-- a glue line has no cause but its names
free_glue : (before : List Line) (bytes : List ℕ) {word tail : List ℕ} (cause : Cause) → FrontOf 32 bytes word tail → word ≡ codes "glue"
    → ((g : Glue) → ¬ (IsWrong cause before (glue g))) → ¬ ((other : Line) × IsLine bytes other × IsWrong cause before other)
free_glue before bytes cause front e not held = let own = glue_only front e held.0 held.1 in not own.0 (subst (IsWrong cause before) own.1 held.2)

-- a glue line that is refused
pub glue_bad : (before : List Line) (bytes word tail : List ℕ) (polygons : List (List Vec2)) → Standing before bytes word tail (codes "glue") → polygons_in before ≡ polygons
    → (cause : Cause) → IsGlueBad tail polygons cause → IsLeastOfLine cause before bytes
glue_bad before bytes word tail polygons s these NoLine bad = absurd bad
glue_bad before bytes word tail polygons s these CutLine bad = absurd bad
glue_bad before bytes word tail polygons s these BadByte bad = absurd bad
glue_bad before bytes word tail polygons s these BadFirst bad = absurd bad
glue_bad before bytes word tail polygons s these BadKind bad = absurd bad
glue_bad before bytes word tail polygons s these BadForm bad =
    form_bad before bytes s.some s.printed s.front s.stands (λ line is. let own = glue_only s.front s.is line is in bad own.0 own.2)
glue_bad before bytes word tail polygons s these BadNumber bad = absurd bad
glue_bad before bytes word tail polygons s these BadField bad = absurd bad
glue_bad before bytes word tail polygons s these BadBase bad = absurd bad
glue_bad before bytes word tail polygons s these ManyBases bad = absurd bad
glue_bad before bytes word tail polygons s these FewSides bad = absurd bad
glue_bad before bytes word tail polygons s these ManyPolygons bad = absurd bad
glue_bad before bytes word tail polygons s these BadName bad =
    let line : Line = glue bad.0 in
    let formed : IsLine bytes line = (line_joined s.front line s.is bad.1, tt) in
    let seven = free_formed before bytes s.some s.printed s.front s.stands line formed in
    let eight = free_next before bytes BadNumber seven (free_glue before bytes BadNumber s.front s.is (λ g wide. wide tt)) in
    let nine = free_next before bytes BadField eight (free_glue before bytes BadField s.front s.is (λ g wrong. wrong)) in
    let ten = free_next before bytes BadBase nine (free_glue before bytes BadBase s.front s.is (λ g wrong. wrong)) in
    let eleven = free_next before bytes ManyBases ten (free_glue before bytes ManyBases s.front s.is (λ g wrong. wrong.0)) in
    let twelve = free_next before bytes FewSides eleven (free_glue before bytes FewSides s.front s.is (λ g wrong. wrong)) in
    record {
      holds = (line, formed, λ there. bad.2 (subst (λ (ps : List (List Vec2)). NamesSides ps bad.0) these there));
      least = free_next before bytes ManyPolygons twelve (free_glue before bytes ManyPolygons s.front s.is (λ g wrong. wrong.0));
    }
glue_bad before bytes word tail polygons s these AfterEnd bad = absurd bad

-- an end line with something behind its word
pub end_bad : (before : List Line) (bytes word tail : List ℕ) → Standing before bytes word tail (codes "end") → tail ≢ [] → IsLeastOfLine BadForm before bytes
end_bad before bytes word tail s more = form_bad before bytes s.some s.printed s.front s.stands (λ line is. more (end_only s.front s.is line is))
