-- Files of small numbers: they are within the limits, and their texts are short.
use Rattle.std.proofs.Common.{◌≡◌, ℕ, zero, suc, ◌+◌, ◌*◌, ◌<◌, ◌≤◌, List, [], ◌∷◌, ◌++◌, length, map, refl, arith}
use Rattle.std.specs.Prelude.{ℤ, pos, negsuc, codes, unsigned_abs}
use Rattle.std.specs.List.{AllByRecursion}
use Rattle.std.specs.Int.Digits.{digits_of}
use Rattle.std.proofs.lemmas.Int.Digits.{length-digits_of-le}
use Rattle.std.proofs.lemmas.List.{length-append, length-map}
use Rattle.std.proofs.lemmas.Nat.Gcd.{le_of_dvd}
use Rattle.std.proofs.Math.Nat.{eq-zero_of_zero-dvd}
use Prim.Native.Nat.{◌∣◌}
use Rattle.quad_field.specs.declared.quad.Quad.{Quad}
use Rattle.quad_field.specs.FieldNumber.{IsFieldNumber}
use Rattle.plane.specs.declared.vec2.Vec2.{Vec2}
use Rattle.plane.specs.Spelling.{natural_text, whole_text, root_text, quad_text, vector_text}
use Rattle.surface_text.specs.declared.file.Glue.{Glue}
use Rattle.surface_text.specs.Spelling.{Line, Content, glue_text, sides_text, line_text, lines_then, lines_of, text}
use Rattle.surface_text.specs.Limits.{IsBoundedVector, IsPolygon}
use Rattle.family_gen.specs.Tilings.{unit_square}

-- 2 is square-free: its field is that of √2
pub two : IsFieldNumber 2
two = (omega arith, omega arith, free)
  where
    free : (k : ℕ) → (k * k) ∣ 2 → k ≡ 1
    free zero h = let none : ◌≡◌ {A = ℕ} 2 0 = eq-zero_of_zero-dvd h in absurd (omega arith)
    free (suc zero) h = refl
    free (suc (suc k)) h = let small : suc (suc k) * suc (suc k) ≤ 2 = le_of_dvd (omega arith) h in absurd (large k small)
      where
        large : (k : ℕ) → suc (suc k) * suc (suc k) ≤ 2 → ⊥
        large k h = omega arith

-- ---- small numbers
-- a whole number is small: at most 100 in absolute value
abbrev pub IsLittle : ℤ → Type 0
IsLittle n = unsigned_abs n ≤ 100

-- all parts of a vector are small
abbrev pub IsLittleVector : Vec2 → Type 0
IsLittleVector v = (IsLittle v.s.a × IsLittle v.s.b) × (IsLittle v.t.a × IsLittle v.t.b)

-- three to eight sides, with small parts
abbrev pub IsLittlePolygon : List Vec2 → Type 0
IsLittlePolygon sides = (3 ≤ length sides) × (length sides ≤ 8) × AllByRecursion IsLittleVector sides

-- four numbers below 1000
abbrev pub IsLittleGlue : Glue → Type 0
IsLittleGlue g = (g.p1 < 1000) × (g.e1 < 1000) × (g.p2 < 1000) × (g.e2 < 1000)

pub small_square : IsLittlePolygon unit_square
small_square = (
  omega arith,
  omega arith,
  (
    ((one, none), (none, none)),
    (((none, none), (one, none)), (((less, none), (none, none)), (((none, none), (less, none)), tt))),
  ),
)
  where
    none : IsLittle (pos 0)
    none = omega arith

    one : IsLittle (pos 1)
    one = omega arith

    less : IsLittle (negsuc 0)
    less = omega arith

-- such a polygon is within the limits
all_bounded : (sides : List Vec2) → AllByRecursion IsLittleVector sides → AllByRecursion IsBoundedVector sides
all_bounded [] all = tt
all_bounded (v ∷ sides) all = (
  (((omega (arith, all.0.0.0)), (omega (arith, all.0.0.1))), ((omega (arith, all.0.1.0)), (omega (arith, all.0.1.1)))),
  all_bounded sides all.1,
)

pub within : (sides : List Vec2) → IsLittlePolygon sides → IsPolygon sides
within sides is = (is.0, all_bounded sides is.2)

-- ---- their texts
natural_short : (n : ℕ) → n < 1000 → length (natural_text n) ≤ 3
unfolding natural_text
natural_short zero h = omega arith
natural_short (suc n) h =
    omega (arith, length-map (digits_of 10 (suc n)) (λ digit. 48 + digit), length-digits_of-le 10 3 (suc n) (omega arith) (omega arith))

whole_short : (n : ℤ) → IsLittle n → length (whole_text n) ≤ 4
whole_short (pos n) h = omega (arith, natural_short n (omega arith))
whole_short (negsuc n) h = omega (arith, length-append (codes "-") (natural_text (suc n)), natural_short (suc n) (omega arith))

root_short : (n : ℤ) → IsLittle n → length (root_text n) ≤ 5
root_short (pos zero) h = omega arith
root_short (pos (suc n)) h =
    omega (arith, length-append (codes "+" ++ natural_text (suc n)) (codes "r"), length-append (codes "+") (natural_text (suc n)), natural_short (suc n) (omega arith))
root_short (negsuc n) h =
    omega (arith, length-append (codes "-" ++ natural_text (suc n)) (codes "r"), length-append (codes "-") (natural_text (suc n)), natural_short (suc n) (omega arith))

quad_short : (x : Quad) → IsLittle x.a → IsLittle x.b → length (quad_text x) ≤ 9
quad_short x a b = omega (arith, length-append (whole_text x.a) (root_text x.b), whole_short x.a a, root_short x.b b)

vector_short : (v : Vec2) → IsLittleVector v → length (vector_text v) ≤ 19
vector_short v is =
    omega (
      arith,
      length-append (quad_text v.s ++ codes ",") (quad_text v.t),
      length-append (quad_text v.s) (codes ","),
      quad_short v.s is.0.0 is.0.1,
      quad_short v.t is.1.0 is.1.1,
    )

sides_short : (sides : List Vec2) → AllByRecursion IsLittleVector sides → length (sides_text sides) ≤ 20 * length sides
sides_short [] all = omega arith
sides_short (v ∷ sides) all =
    omega (
      arith,
      length-append (codes " " ++ vector_text v) (sides_text sides),
      length-append (codes " ") (vector_text v),
      vector_short v all.0,
      sides_short sides all.1,
    )

glue_short : (g : Glue) → IsLittleGlue g → length (glue_text g) ≤ 15
glue_short g is =
    omega (
      arith,
      length-append (natural_text g.p1 ++ codes "." ++ natural_text g.e1 ++ codes " " ++ natural_text g.p2 ++ codes ".") (natural_text g.e2),
      length-append (natural_text g.p1 ++ codes "." ++ natural_text g.e1 ++ codes " " ++ natural_text g.p2) (codes "."),
      length-append (natural_text g.p1 ++ codes "." ++ natural_text g.e1 ++ codes " ") (natural_text g.p2),
      length-append (natural_text g.p1 ++ codes "." ++ natural_text g.e1) (codes " "),
      length-append (natural_text g.p1 ++ codes ".") (natural_text g.e1),
      length-append (natural_text g.p1) (codes "."),
      natural_short g.p1 is.0,
      natural_short g.e1 is.1,
      natural_short g.p2 is.2,
      natural_short g.e2 is.3,
    )

-- a line is short
abbrev IsShort : Line → Type 0
IsShort l = length (line_text l) ≤ 199

polygons_short : (polygons : List (List Vec2)) → AllByRecursion IsLittlePolygon polygons → AllByRecursion IsShort (map Line.polygon polygons)
polygons_short [] all = tt
polygons_short (sides ∷ polygons) all = (
  (omega (arith, length-append (codes "polygon") (sides_text sides), sides_short sides all.0.2, all.0.1)),
  polygons_short polygons all.1,
)

glues_short : (glues : List Glue) → AllByRecursion IsLittleGlue glues → AllByRecursion IsShort (map Line.glue glues)
glues_short [] all = tt
glues_short (g ∷ glues) all = (
  (omega (arith, length-append (codes "glue") (codes " " ++ glue_text g), length-append (codes " ") (glue_text g), glue_short g all.0)),
  glues_short glues all.1,
)

-- so short lines make a short text
both_short : (xs ys : List Line) → AllByRecursion IsShort xs → AllByRecursion IsShort ys → AllByRecursion IsShort (xs ++ ys)
both_short [] ys left right = right
both_short (x ∷ xs) ys left right = (left.0, both_short xs ys left.1 right)

lines_short : (lines : List Line) → AllByRecursion IsShort lines → length (lines_then lines []) ≤ 200 * length lines
lines_short [] all = omega arith
lines_short (l ∷ lines) all = omega (arith, length-append (line_text l) (10 ∷ lines_then lines []), all.0, lines_short lines all.1)

-- ---- files
-- a file over the field of √2 without base points
abbrev pub small_file : List (List Vec2) → List Glue → Content
small_file polygons glues = record { field = 2; bases = []; polygons = polygons; glues = glues }

module _ (polygons : List (List Vec2)) (glues : List Glue)
    (little : AllByRecursion IsLittlePolygon polygons) (glued : AllByRecursion IsLittleGlue glues)
    (few : length polygons ≤ 128) (lines : length glues ≤ 256)
  where
    field_line : IsShort (Line.field 2)
    field_line =
        omega (arith, length-append (codes "field") (codes " " ++ natural_text 2), length-append (codes " ") (natural_text 2), natural_short 2 (omega arith))

    all_short : AllByRecursion IsShort (lines_of (small_file polygons glues))
    all_short = (
      (omega arith),
      (
        field_line,
        both_short (map Line.polygon polygons ++ map Line.glue glues) (Line.end ∷ [])
            (both_short (map Line.polygon polygons) (map Line.glue glues) (polygons_short polygons little) (glues_short glues glued)) ((omega arith), tt),
      ),
    )

    -- the text of a file of small numbers is short
    pub short_text : length (text (small_file polygons glues)) ≤ 1048576
    short_text =
        omega (
          arith,
          lines_short (lines_of (small_file polygons glues)) all_short,
          length-append (map Line.polygon polygons ++ map Line.glue glues) (Line.end ∷ []),
          length-append (map Line.polygon polygons) (map Line.glue glues),
          length-map polygons Line.polygon,
          length-map glues Line.glue,
        )
