-- The file so far, one line more at a time, and what is answered at the end.
use Rattle.std.proofs.Common.{◌≡◌, ◌≢◌, ◌⊎◌, inl, inr, ℕ, ◌+◌, ◌<◌, ◌≤◌, List, [], ◌∷◌, ◌++◌, map, length, refl, ap, sym, ◌∙◌, subst, arith, Ok, Err, Result, MatchResult}
use Rattle.std.specs.List.{AllByRecursion}
use Rattle.std.proofs.lemmas.List.{length-append, length-map}
use Rattle.quad_field.specs.FieldNumber.{IsFieldNumber}
use Rattle.plane.specs.declared.vec2.Vec2.{Vec2}
use Rattle.plane.specs.Spelling.{vector_text}
use Rattle.surface_text.specs.declared.file.Point.{Point}
use Rattle.surface_text.specs.declared.file.Polygon.{Polygon}
use Rattle.surface_text.specs.declared.file.Glue.{Glue}
use Rattle.surface_text.specs.declared.file.TextFault.{TextFault}
use Rattle.surface_text.specs.declared.file.TextFault.TheVariants.{Bad, Memory}
use Rattle.surface_text.specs.declared.sides.LineFault.{LineFault}
use Rattle.surface_text.specs.declared.sides.LineFault.TheVariants as faults
use Rattle.surface_text.specs.declared.cause.Cause.{Cause}
use Rattle.surface_text.specs.declared.cause.Cause.TheVariants.{AfterEnd}
use Rattle.surface_text.specs.Spelling.{Line, Content, line_text, sides_text, lines_then, lines_before_end, lines_of, text}
use Rattle.surface_text.specs.Spelling.Line.{flat, field, base, polygon, glue, end}
use Rattle.surface_text.specs.Limits.{IsBasePoint, IsPolygon, NamesSides, IsWithinLimits}
use Rattle.surface_text.specs.Causes.{IsLeast, IsRefused, number_of}
use Rattle.surface_text.specs.Lines.{IsSoFar, HasFittingLength, IsTaken, IsLineRefused, IsFaultAt, IsBody, behind_field}
use Rattle.surface_text.specs.Refusals.{IsFaultOf, IsTextOf}
use Rattle.surface_text.proofs.Written.{lines_then-append}
use Rattle.surface_text.proofs.Verdicts.{refused_once, not_refused, late_least, text_injective, same_content}
use Rattle.surface_text.proofs.Standing.{so_far, good_free, good_flat, stand_so_far, stand_whole, one_base, one_polygon, one_glue}

-- the lines of the file so far stand before the rest
pub record BodySoFar (start : List ℕ) (size : ℕ) (file : Content) (rest : List ℕ) : Type 0 where
  pub found : start ≡ lines_then (lines_before_end file) rest
  pub so_far : IsSoFar file
  pub shorter : length file.glues + length rest ≤ size

-- before the first of these lines
pub body_none : (d : ℕ) (bytes : List ℕ) → IsFieldNumber d → BodySoFar (behind_field d bytes) (length bytes) (record { field = d; bases = []; polygons = []; glues = [] }) bytes
body_none d bytes is =
    record {
      found = refl;
      so_far = record { field = is; bases = tt; few_bases = omega arith; polygons = tt; few_polygons = omega arith; lengths = tt; glues = tt };
      shorter = omega arith;
    }

-- what holds of each of a list, and of one more
all_more : {X : Type 0} (P : X → Type 0) (xs : List X) (x : X) → AllByRecursion P xs → P x → AllByRecursion P (xs ++ x ∷ [])
all_more P [] x all one = (one, tt)
all_more P (y ∷ xs) x all one = (all.0, all_more P xs x all.1 one)

-- a list with one more at its end
longer : {X : Type 0} (xs : List X) (x : X) → length (xs ++ x ∷ []) ≡ length xs + 1
longer xs x = length-append xs (x ∷ [])

-- bytes behind one more line
found_more : (start : List ℕ) (before : List Line) (line : Line) (rest after : List ℕ) → start ≡ lines_then before rest → rest ≡ line_text line ++ 10 ∷ after
    → start ≡ lines_then (before ++ line ∷ []) after
found_more start before line rest after found spelled = found ∙ ap (lines_then before) spelled ∙ sym (lines_then-append before (line ∷ []) after)

-- a line takes bytes
pub line_longer : (rest after text : List ℕ) → rest ≡ text ++ 10 ∷ after → length text + length after < length rest
line_longer rest after text e =
    let long : length rest ≡ length (text ++ 10 ∷ after) = ap length e in
    let parts = length-append text (10 ∷ after) in
    omega arith

-- each side takes a byte
sides_long : (sides : List Vec2) → length sides ≤ length (sides_text sides)
sides_long [] = omega arith
sides_long (v ∷ sides) =
    let rec = sides_long sides in
    let parts = length-append (32 ∷ vector_text v) (sides_text sides) in
    omega arith

polygon_long : (sides : List Vec2) → length sides ≤ length (line_text (polygon sides))
polygon_long sides = let long = sides_long sides in omega arith

module _ (start : List ℕ) (size : ℕ) (few : size ≤ 1048576) (d : ℕ) (bs : List Point) (ps : List (List Vec2)) (gs : List Glue) (rest after : List ℕ) where
  -- the file of these
  abbrev pub file_with : List Point → List (List Vec2) → List Glue → Content
  file_with bases polygons glues = record { field = d; bases = bases; polygons = polygons; glues = glues }

  pub more_base : (at : Point) → BodySoFar start size (file_with bs ps gs) rest → IsTaken (file_with bs ps gs) rest (base at) after
      → BodySoFar start size (file_with (bs ++ at ∷ []) ps gs) after
  more_base at was taken =
      let may = taken.follows in
      let is = was.so_far in
      let less = line_longer rest after (line_text (base at)) taken.spelled in
      let fits = was.shorter in
      let one = longer bs at in
      let low = may.2 in
      let no_polygon : ps ≡ [] = may.0 in
      let no_glue : gs ≡ [] = may.1 in
      let lines : so_far d bs ps gs ++ base at ∷ [] ≡ so_far d (bs ++ at ∷ []) ps gs =
      subst (λ (xs : List (List Vec2)). so_far d bs xs gs ++ base at ∷ [] ≡ so_far d (bs ++ at ∷ []) xs gs) (sym no_polygon)
      (subst (λ (xs : List Glue). so_far d bs [] xs ++ base at ∷ [] ≡ so_far d (bs ++ at ∷ []) [] xs) (sym no_glue) (one_base d bs at)) in
      record {
        found = found_more start (so_far d bs ps gs) (base at) rest after was.found taken.spelled ∙ ap (λ (xs : List Line). lines_then xs after) lines;
        so_far = record {
          field = is.field;
          bases = all_more IsBasePoint bs at is.bases may.3;
          few_bases = omega arith;
          polygons = is.polygons;
          few_polygons = is.few_polygons;
          lengths = is.lengths;
          glues = is.glues;
        };
        shorter = omega arith;
      }

  pub more_polygon : (sides : List Vec2) → BodySoFar start size (file_with bs ps gs) rest → IsTaken (file_with bs ps gs) rest (polygon sides) after
      → BodySoFar start size (file_with bs (ps ++ sides ∷ []) gs) after
  more_polygon sides was taken =
      let may = taken.follows in
      let is = was.so_far in
      let less = line_longer rest after (line_text (polygon sides)) taken.spelled in
      let long = polygon_long sides in
      let fits = was.shorter in
      let one = longer ps sides in
      let low = may.1 in
      let no_glue : gs ≡ [] = may.0 in
      let lines : so_far d bs ps gs ++ polygon sides ∷ [] ≡ so_far d bs (ps ++ sides ∷ []) gs =
      subst (λ (xs : List Glue). so_far d bs ps xs ++ polygon sides ∷ [] ≡ so_far d bs (ps ++ sides ∷ []) xs) (sym no_glue) (one_polygon d bs ps sides) in
      record {
        found = found_more start (so_far d bs ps gs) (polygon sides) rest after was.found taken.spelled ∙ ap (λ (xs : List Line). lines_then xs after) lines;
        so_far = record {
          field = is.field;
          bases = is.bases;
          few_bases = is.few_bases;
          polygons = all_more IsPolygon ps sides is.polygons may.2;
          few_polygons = omega arith;
          lengths = all_more HasFittingLength ps sides is.lengths (omega arith);
          glues = subst (AllByRecursion (NamesSides (ps ++ sides ∷ []))) (sym no_glue) tt;
        };
        shorter = omega arith;
      }

  pub more_glue : (g : Glue) → BodySoFar start size (file_with bs ps gs) rest → IsTaken (file_with bs ps gs) rest (glue g) after
      → BodySoFar start size (file_with bs ps (gs ++ g ∷ [])) after
  more_glue g was taken =
      let may = taken.follows in
      let is = was.so_far in
      let less = line_longer rest after (line_text (glue g)) taken.spelled in
      let fits = was.shorter in
      let one = longer gs g in
      record {
        found = found_more start (so_far d bs ps gs) (glue g) rest after was.found taken.spelled ∙ ap (λ (xs : List Line). lines_then xs after) (one_glue d bs ps gs g);
        so_far = record {
          field = is.field;
          bases = is.bases;
          few_bases = is.few_bases;
          polygons = is.polygons;
          few_polygons = is.few_polygons;
          lengths = is.lengths;
          glues = all_more (NamesSides ps) gs g is.glues may.1;
        };
        shorter = omega arith;
      }

  pub more_end : BodySoFar start size (file_with bs ps gs) rest → IsTaken (file_with bs ps gs) rest end after → IsBody start (file_with bs ps gs) after
  more_end was taken =
      let is = was.so_far in
      let fits = was.shorter in
      record {
        spelled = found_more start (so_far d bs ps gs) end rest after was.found taken.spelled;
        limits = record {
          field = is.field;
          bases = is.bases;
          few_bases = is.few_bases;
          polygons = is.polygons;
          some_polygons = taken.follows;
          few_polygons = is.few_polygons;
          glues = is.glues;
        };
        few_glues = omega arith;
      }

-- the sides of polygons in memory
abbrev sides_in : List Polygon → List (List Vec2)
sides_in polygons = map (λ (p : Polygon). p.sides.items) polygons

sides_more : (xs : List Polygon) (p : Polygon) → sides_in (xs ++ p ∷ []) ≡ sides_in xs ++ p.sides.items ∷ []
sides_more [] p = refl
sides_more (x ∷ xs) p = ap (λ (ys : List (List Vec2)). x.sides.items ∷ ys) (sides_more xs p)

-- one base point more in memory
pub body_base : (start : List ℕ) (size : ℕ) (was now : Content) (rest after : List ℕ) (at : Point) → size ≤ 1048576 → BodySoFar start size was rest → IsTaken was rest (base at) after
    → now.field ≡ was.field → now.bases ≡ was.bases ++ at ∷ [] → now.polygons ≡ was.polygons → now.glues ≡ was.glues → BodySoFar start size now after
body_base start size was now rest after at few before taken a b c e =
    let made : Content = record { field = was.field; bases = was.bases ++ at ∷ []; polygons = was.polygons; glues = was.glues } in
    subst (λ (f : Content). BodySoFar start size f after) (sym (same_content now made a b c e))
    (more_base start size few was.field was.bases was.polygons was.glues rest after at before taken)

-- one polygon more
pub body_polygon : (start : List ℕ) (size : ℕ) (was now : Content) (rest after : List ℕ) (xs ys : List Polygon) (p : Polygon) → size ≤ 1048576 → BodySoFar start size was rest
    → IsTaken was rest (polygon p.sides.items) after → now.field ≡ was.field → now.bases ≡ was.bases → was.polygons ≡ sides_in xs → now.polygons ≡ sides_in ys → ys ≡ xs ++ p ∷ []
    → now.glues ≡ was.glues → BodySoFar start size now after
body_polygon start size was now rest after xs ys p few before taken a b c e f g =
    let made : Content = record { field = was.field; bases = was.bases; polygons = was.polygons ++ p.sides.items ∷ []; glues = was.glues } in
    let more : now.polygons ≡ was.polygons ++ p.sides.items ∷ [] = e ∙ ap sides_in f ∙ sides_more xs p ∙ ap (λ (zs : List (List Vec2)). zs ++ p.sides.items ∷ []) (sym c) in
    subst (λ (z : Content). BodySoFar start size z after) (sym (same_content now made a b more g))
    (more_polygon start size few was.field was.bases was.polygons was.glues rest after p.sides.items before taken)

-- one glue line more
pub body_glue : (start : List ℕ) (size : ℕ) (was now : Content) (rest after : List ℕ) (g : Glue) → size ≤ 1048576 → BodySoFar start size was rest → IsTaken was rest (glue g) after
    → now.field ≡ was.field → now.bases ≡ was.bases → now.polygons ≡ was.polygons → now.glues ≡ was.glues ++ g ∷ [] → BodySoFar start size now after
body_glue start size was now rest after g few before taken a b c e =
    let made : Content = record { field = was.field; bases = was.bases; polygons = was.polygons; glues = was.glues ++ g ∷ [] } in
    subst (λ (f : Content). BodySoFar start size f after) (sym (same_content now made a b c e))
    (more_glue start size few was.field was.bases was.polygons was.glues rest after g before taken)

-- the end line
pub body_end : (start : List ℕ) (size : ℕ) (file : Content) (rest after : List ℕ) → size ≤ 1048576 → BodySoFar start size file rest → IsTaken file rest end after → IsBody start file after
body_end start size file rest after few before taken = more_end start size few file.field file.bases file.polygons file.glues rest after before taken

-- a line takes bytes
pub body_shorter : (file : Content) (rest : List ℕ) (line : Line) (after : List ℕ) → IsTaken file rest line after → length after < length rest
body_shorter file rest line after taken = let less = line_longer rest after (line_text line) taken.spelled in omega arith

-- how many lines there are
pub count_lines : (file : Content) → length (lines_before_end file) ≡ 2 + length file.bases + length file.polygons + length file.glues
count_lines file =
    let a = length-append (map base file.bases) (map polygon file.polygons ++ map glue file.glues) in
    let b = length-append (map polygon file.polygons) (map glue file.glues) in
    let c = length-map file.bases base in
    let d = length-map file.polygons polygon in
    let e = length-map file.glues glue in
    omega arith

-- the polygons in memory are as many
pub count_polygons : (xs : List Polygon) → length (sides_in xs) ≡ length xs
count_polygons xs = length-map xs (λ (p : Polygon). p.sides.items)

-- a refusal in the first line
pub first_refused : (bytes : List ℕ) (cause : Cause) → IsLeast cause [] bytes → IsRefused bytes (number_of cause) 1
first_refused bytes cause least =
    record { cause = cause; before = []; rest = bytes; found = refl; stand = tt; least = least; number_is = refl; line_is = omega arith }

-- and in the second
pub field_refused : (bytes rest : List ℕ) (cause : Cause) → bytes ≡ line_text flat ++ 10 ∷ rest → IsLeast cause (flat ∷ []) rest → IsRefused bytes (number_of cause) 2
field_refused bytes rest cause found least =
    record {
      cause = cause;
      before = flat ∷ [];
      rest = rest;
      found = found;
      stand = (good_free [] flat rest good_flat, tt);
      least = least;
      number_is = refl;
      line_is = omega arith;
    }

-- and in a later one
pub body_refused : (start : List ℕ) (size : ℕ) (file : Content) (rest : List ℕ) (fault : LineFault) (line : ℕ) (answer : TextFault) → BodySoFar start size file rest
    → IsLineRefused (lines_before_end file) rest fault → line ≡ length (lines_before_end file) + 1 → IsFaultAt fault line answer → IsFaultOf start answer
body_refused start size file rest (faults.Bad cause) line answer was least number is =
    let there : IsRefused start (number_of cause) line = record {
      cause = cause;
      before = lines_before_end file;
      rest = rest;
      found = was.found;
      stand = stand_so_far file rest was.so_far;
      least = least;
      number_is = refl;
      line_is = number;
    } in
    subst (IsFaultOf start) (sym is) there
body_refused start size file rest faults.Memory line answer was least number is = subst (IsFaultOf start) (sym is) tt

-- bytes behind the end line
pub late_refused : (bytes : List ℕ) (file : Content) (rest : List ℕ) (line : ℕ) → IsBody bytes file rest → rest ≢ [] → line ≡ length (lines_before_end file) + 1
    → IsRefused bytes 14 (line + 1)
late_refused bytes file rest line is some number =
    let one = longer (lines_before_end file) end in
    record {
      cause = AfterEnd;
      before = lines_of file;
      rest = rest;
      found = is.spelled;
      stand = stand_whole file rest is.limits;
      least = late_least (lines_before_end file) rest some;
      number_is = refl;
      line_is = omega arith;
    }

-- a text within the limits is refused nowhere
pub text_not_refused : (bytes : List ℕ) (file : Content) (c l : ℕ) → IsTextOf bytes file → ¬ (IsRefused bytes c l)
text_not_refused bytes file c l is = not_refused bytes (lines_before_end file) c l is.0 (stand_whole file [] is.1)

-- what is read of a text within the limits
pub read_accepted : {R : Type 0} (view : R → Content) (bytes : List ℕ) (answer : Result R TextFault) → MatchResult answer (λ read. IsTextOf bytes (view read)) (IsFaultOf bytes)
    → (file : Content) → bytes ≡ text file → IsWithinLimits file → MatchResult answer (λ read. view read ≡ file) (λ fault. fault ≡ Memory)
read_accepted view bytes (Ok read) is file spelled limits = text_injective (view read) file (sym is.0 ∙ spelled)
read_accepted view bytes (Err (Bad c l)) is file spelled limits = absurd (text_not_refused bytes file c l (spelled, limits) is)
read_accepted view bytes (Err Memory) is file spelled limits = refl

-- and of one that is refused
pub read_refused : {R : Type 0} (view : R → Content) (bytes : List ℕ) (answer : Result R TextFault) → MatchResult answer (λ read. IsTextOf bytes (view read)) (IsFaultOf bytes)
    → (c l : ℕ) → IsRefused bytes c l → MatchResult answer (λ read. ⊥) (λ fault. (fault ≡ Bad c l) ⊎ (fault ≡ Memory))
read_refused view bytes (Ok read) is c l refused = text_not_refused bytes (view read) c l is refused
read_refused view bytes (Err (Bad k m)) is c l refused =
    let same = refused_once bytes k c m l is refused in
    inl (ap (λ (n : ℕ). Bad n m) same.0 ∙ ap (λ (n : ℕ). Bad c n) same.1)
read_refused view bytes (Err Memory) is c l refused = inr refl

-- the answer to a refusal in the second line
pub field_answer : (bytes rest : List ℕ) (cause : Cause) (answer : TextFault) → bytes ≡ line_text flat ++ 10 ∷ rest → IsLeast cause (flat ∷ []) rest
    → answer ≡ Bad (number_of cause) 2 → IsFaultOf bytes answer
field_answer bytes rest cause answer found least e = subst (IsFaultOf bytes) (sym e) (field_refused bytes rest cause found least)

-- all lines of a file, behind its first two
pub behind_two : (bytes rest after : List ℕ) (d : ℕ) → bytes ≡ line_text flat ++ 10 ∷ rest → rest ≡ line_text (field d) ++ 10 ∷ after → behind_field d after ≡ bytes
behind_two bytes rest after d found second = sym (found ∙ ap (λ (end : List ℕ). line_text flat ++ 10 ∷ end) second)

-- the answer to bytes behind the end line
pub late_answer : (bytes start : List ℕ) (file : Content) (rest : List ℕ) (line : ℕ) (answer : TextFault) → start ≡ bytes → IsBody start file rest → rest ≢ []
    → line ≡ length (lines_before_end file) + 1 → answer ≡ Bad 14 (line + 1) → IsFaultOf bytes answer
late_answer bytes start file rest line answer same is some number e =
    subst (IsFaultOf bytes) (sym e) (late_refused bytes file rest line (subst (λ (x : List ℕ). IsBody x file rest) same is) some number)
