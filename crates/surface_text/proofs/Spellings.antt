-- Lines and their texts: one text a line, of printed characters.
use Rattle.std.proofs.Common.{◌≡◌, ◌⊎◌, inl, inr, ℕ, zero, suc, ◌+◌, ◌<◌, ◌≤◌, ℤ, pos, negsuc, List, [], ◌∷◌, ◌++◌, codes, IsTrue, Bool, nat_lt, get_or, ◌&&◌, true, refl, ap, sym, ◌∙◌, subst, arith, append_assoc}
use Rattle.std.specs.List.{AllByRecursion}
use Rattle.std.specs.Str.Parse.{AllDigits}
use Rattle.std.specs.Char.{digit_value}
use Rattle.quad_field.specs.declared.quad.Quad.{Quad}
use Rattle.plane.specs.declared.vec2.Vec2.{Vec2}
use Rattle.plane.specs.Spelling.{natural_text, whole_text, root_text, quad_text, vector_text}
use Rattle.plane.proofs.CallerLemmas.{natural_text_digits, natural_text_injective, glyph_of_value, whole_injective, vector_injective}
use Rattle.surface_text.specs.declared.file.Point.{Point}
use Rattle.surface_text.specs.declared.file.Glue.{Glue}
use Rattle.surface_text.specs.Spelling.{denominator_text, fraction_text, point_text, glue_text, sides_text, Line, word_of, tail_of, line_text}
use Rattle.surface_text.specs.Spelling.Line.{flat, field, base, polygon, glue, end}
use Rattle.surface_text.specs.Causes.{StopsAt, IsPrinted}
use Rattle.surface_text.proofs.Stops.{one_front}
use Rattle.surface_text.proofs.Numbers.{Lacks, natural_text_lacks, whole_text_lacks}

-- bytes from `+` to `z`
abbrev pub AreHigh : List ℕ → Type 0
AreHigh bytes = AllByRecursion (λ byte. (43 ≤ byte) × (byte ≤ 122)) bytes

high_both : (xs ys : List ℕ) → AreHigh xs → AreHigh ys → AreHigh (xs ++ ys)
high_both [] ys left right = right
high_both (x ∷ xs) ys left right = (left.0, high_both xs ys left.1 right)

high_digit : (c : ℕ) → digit_value c < 10 → (43 ≤ c) × (c ≤ 122)
high_digit c low = let same : 48 + digit_value c ≡ c = glyph_of_value c low in (omega arith, omega arith)

high_digits : (cs : List ℕ) → AllDigits 10 cs → AreHigh cs
high_digits [] all = tt
high_digits (c ∷ cs) all = (high_digit c all.0, high_digits cs all.1)

high_natural : (n : ℕ) → AreHigh (natural_text n)
high_natural n = high_digits (natural_text n) (natural_text_digits n)

high_one : (byte : ℕ) (bytes : List ℕ) → 43 ≤ byte → byte ≤ 122 → AreHigh bytes → AreHigh (byte ∷ bytes)
high_one byte bytes low high rest = ((low, high), rest)

high_whole : (n : ℤ) → AreHigh (whole_text n)
high_whole (pos n) = high_natural n
high_whole (negsuc n) = high_one 45 (natural_text (suc n)) (omega arith) (omega arith) (high_natural (suc n))

high_root : (n : ℤ) → AreHigh (root_text n)
high_root (pos zero) = tt
high_root (pos (suc n)) =
    high_one 43 (natural_text (suc n) ++ 114 ∷ []) (omega arith) (omega arith)
    (high_both (natural_text (suc n)) (114 ∷ []) (high_natural (suc n)) (high_one 114 [] (omega arith) (omega arith) tt))
high_root (negsuc n) =
    high_one 45 (natural_text (suc n) ++ 114 ∷ []) (omega arith) (omega arith)
    (high_both (natural_text (suc n)) (114 ∷ []) (high_natural (suc n)) (high_one 114 [] (omega arith) (omega arith) tt))

high_quad : (x : Quad) → AreHigh (quad_text x)
high_quad x = high_both (whole_text x.a) (root_text x.b) (high_whole x.a) (high_root x.b)

high_vector : (v : Vec2) → AreHigh (vector_text v)
high_vector v =
    high_both (quad_text v.s ++ 44 ∷ []) (quad_text v.t)
    (high_both (quad_text v.s) (44 ∷ []) (high_quad v.s) (high_one 44 [] (omega arith) (omega arith) tt)) (high_quad v.t)

high_over : (d : ℤ) → AreHigh (47 ∷ whole_text d)
high_over d = high_one 47 (whole_text d) (omega arith) (omega arith) (high_whole d)

high_denominator : (d : ℤ) → AreHigh (denominator_text d)
high_denominator (pos zero) = high_over (pos zero)
high_denominator (pos (suc zero)) = tt
high_denominator (pos (suc (suc k))) = high_over (pos (suc (suc k)))
high_denominator (negsuc k) = high_over (negsuc k)

high_fraction : (n d : ℤ) → AreHigh (fraction_text n d)
high_fraction n d = high_both (whole_text n) (denominator_text d) (high_whole n) (high_denominator d)

-- such bytes lack a lower one
high_lacks : (stop : ℕ) (bytes : List ℕ) → stop < 43 → AreHigh bytes → Lacks stop bytes
high_lacks stop [] low high = tt
high_lacks stop (b ∷ bytes) low high = (λ e. let one = high.0 in omega (arith, one.0), high_lacks stop bytes low high.1)

-- all bytes are those of printed characters
abbrev pub ArePrinted : List ℕ → Type 0
ArePrinted bytes = AllByRecursion IsPrinted bytes

high_printed : (bytes : List ℕ) → AreHigh bytes → ArePrinted bytes
high_printed [] high = tt
high_printed (b ∷ bytes) high = let one = high.0 in ((omega (arith, one.0), omega (arith, one.1)), high_printed bytes high.1)

printed_both : (xs ys : List ℕ) → ArePrinted xs → ArePrinted ys → ArePrinted (xs ++ ys)
printed_both [] ys left right = right
printed_both (x ∷ xs) ys left right = (left.0, printed_both xs ys left.1 right)

printed_space : (bytes : List ℕ) → AreHigh bytes → ArePrinted (32 ∷ bytes)
printed_space bytes high = ((omega arith, omega arith), high_printed bytes high)

printed_sides : (sides : List Vec2) → ArePrinted (sides_text sides)
printed_sides [] = tt
printed_sides (v ∷ sides) = printed_both (32 ∷ vector_text v) (sides_text sides) (printed_space (vector_text v) (high_vector v)) (printed_sides sides)

printed_point : (at : Point) → ArePrinted (point_text at)
printed_point at =
    printed_both (fraction_text at.xn at.xd ++ 32 ∷ []) (fraction_text at.yn at.yd)
    (printed_both (fraction_text at.xn at.xd) (32 ∷ []) (high_printed (fraction_text at.xn at.xd) (high_fraction at.xn at.xd)) (printed_space [] tt))
    (high_printed (fraction_text at.yn at.yd) (high_fraction at.yn at.yd))

-- the name of a side
abbrev side_name : ℕ → ℕ → List ℕ
side_name p e = natural_text p ++ 46 ∷ natural_text e

high_name : (p e : ℕ) → AreHigh (side_name p e)
high_name p e = high_both (natural_text p) (46 ∷ natural_text e) (high_natural p) (high_one 46 (natural_text e) (omega arith) (omega arith) (high_natural e))

-- two names with a space between
regroup : (a b c d : List ℕ) → a ++ 46 ∷ [] ++ b ++ 32 ∷ [] ++ c ++ 46 ∷ [] ++ d ≡ (a ++ 46 ∷ b) ++ 32 ∷ (c ++ 46 ∷ d)
regroup a b c d =
    append_assoc ((((a ++ 46 ∷ []) ++ b) ++ 32 ∷ []) ++ c) (46 ∷ []) d
    ∙ append_assoc (((a ++ 46 ∷ []) ++ b) ++ 32 ∷ []) c (46 ∷ d)
    ∙ append_assoc ((a ++ 46 ∷ []) ++ b) (32 ∷ []) (c ++ 46 ∷ d)
    ∙ ap (λ (x : List ℕ). x ++ 32 ∷ (c ++ 46 ∷ d)) (append_assoc a (46 ∷ []) b)

glue_shape : (g : Glue) → glue_text g ≡ side_name g.p1 g.e1 ++ 32 ∷ side_name g.p2 g.e2
glue_shape g = regroup (natural_text g.p1) (natural_text g.e1) (natural_text g.p2) (natural_text g.e2)

printed_glue : (g : Glue) → ArePrinted (glue_text g)
printed_glue g =
    subst ArePrinted (sym (glue_shape g))
    (printed_both (side_name g.p1 g.e1) (32 ∷ side_name g.p2 g.e2) (high_printed (side_name g.p1 g.e1) (high_name g.p1 g.e1))
    (printed_space (side_name g.p2 g.e2) (high_name g.p2 g.e2)))

-- a test of bytes that are known
abbrev are_printed : List ℕ → Bool
are_printed [] = true
are_printed (b ∷ bytes) = nat_lt 31 b && (nat_lt b 127 && are_printed bytes)

printed_by : (bytes : List ℕ) → IsTrue (are_printed bytes) → ArePrinted bytes
printed_by [] is = tt
printed_by (b ∷ bytes) is = grind (arith, printed_by bytes)

-- the same of higher ones
abbrev are_high : List ℕ → Bool
are_high [] = true
are_high (b ∷ bytes) = nat_lt 42 b && (nat_lt b 123 && are_high bytes)

high_by : (bytes : List ℕ) → IsTrue (are_high bytes) → AreHigh bytes
high_by [] is = tt
high_by (b ∷ bytes) is = grind (arith, high_by bytes)

-- the bytes of a line are those of printed characters
pub line_printed : (line : Line) → ArePrinted (line_text line)
line_printed flat = printed_by (codes "flat 1") refl
line_printed (field d) = printed_both (codes "field ") (natural_text d) (printed_by (codes "field ") refl) (high_printed (natural_text d) (high_natural d))
line_printed (base at) = printed_both (codes "base ") (point_text at) (printed_by (codes "base ") refl) (printed_point at)
line_printed (polygon sides) = printed_both (codes "polygon") (sides_text sides) (printed_by (codes "polygon") refl) (printed_sides sides)
line_printed (glue g) = printed_both (codes "glue ") (glue_text g) (printed_by (codes "glue ") refl) (printed_glue g)
line_printed end = printed_by (codes "end") refl

printed_lacks : (bytes : List ℕ) → ArePrinted bytes → Lacks 10 bytes
printed_lacks [] all = tt
printed_lacks (b ∷ bytes) all = let one = all.0 in (λ e. omega (arith, one.0), printed_lacks bytes all.1)

-- no line has a line feed
pub line_lacks : (line : Line) → Lacks 10 (line_text line)
line_lacks line = printed_lacks (line_text line) (line_printed line)

-- one text a denominator
over_injective : (d k : ℤ) → 47 ∷ whole_text d ≡ 47 ∷ whole_text k → d ≡ k
over_injective d k e = let same : whole_text d ≡ whole_text k = cc in whole_injective d k same

denominator_cases : (d : ℤ) → (d ≡ pos 1) ⊎ (denominator_text d ≡ 47 ∷ whole_text d)
denominator_cases (pos zero) = inr refl
denominator_cases (pos (suc zero)) = inl refl
denominator_cases (pos (suc (suc k))) = inr refl
denominator_cases (negsuc k) = inr refl

denominator_injective : (d k : ℤ) → denominator_text d ≡ denominator_text k → d ≡ k
denominator_injective d k e =
    elim (denominator_cases d) [
      | inl a ↦ elim (denominator_cases k) [
        | inl b ↦ a ∙ sym b
        | inr b ↦ let none : [] ≡ denominator_text d = ap denominator_text (sym a) in let wrong : [] ≡ 47 ∷ whole_text k = none ∙ e ∙ b in absurd cc
      ]
      | inr a ↦ elim (denominator_cases k) [
        | inl b ↦ let none : denominator_text k ≡ [] = ap denominator_text b in let wrong : 47 ∷ whole_text d ≡ [] = sym a ∙ e ∙ none in absurd cc
        | inr b ↦ over_injective d k (sym a ∙ e ∙ b)
      ]
    ]

denominator_stops : (d : ℤ) → StopsAt 47 (denominator_text d)
denominator_stops (pos zero) = refl
denominator_stops (pos (suc zero)) = tt
denominator_stops (pos (suc (suc k))) = refl
denominator_stops (negsuc k) = refl

whole_lacks : (n : ℤ) → Lacks 47 (whole_text n)
whole_lacks n = whole_text_lacks 47 n (omega arith) (λ e. omega arith)

fraction_injective : (n d m k : ℤ) → fraction_text n d ≡ fraction_text m k → (n ≡ m) × (d ≡ k)
fraction_injective n d m k e =
    let same = one_front 47 (whole_text n) (whole_text m) (denominator_text d) (denominator_text k) (whole_lacks n) (whole_lacks m)
    (denominator_stops d) (denominator_stops k) e in
    (whole_injective n m same.0, denominator_injective d k same.1)

-- texts behind and before a space
space_apart : (a b c d : List ℕ) → AreHigh a → AreHigh c → a ++ 32 ∷ b ≡ c ++ 32 ∷ d → (a ≡ c) × (b ≡ d)
space_apart a b c d left right e =
    let same = one_front 32 a c (32 ∷ b) (32 ∷ d) (high_lacks 32 a (omega arith) left) (high_lacks 32 c (omega arith) right) refl refl e in
    let tails : 32 ∷ b ≡ 32 ∷ d = same.1 in
    (same.0, cc)

same_point : (x y : Point) → x.xn ≡ y.xn → x.xd ≡ y.xd → x.yn ≡ y.yn → x.yd ≡ y.yd → x ≡ y
same_point x y a b c d =
    ap (λ (n : ℤ). let at : Point = record { xn = n; xd = x.xd; yn = x.yn; yd = x.yd } in at) a
    ∙ ap (λ (n : ℤ). let at : Point = record { xn = y.xn; xd = n; yn = x.yn; yd = x.yd } in at) b
    ∙ ap (λ (n : ℤ). let at : Point = record { xn = y.xn; xd = y.xd; yn = n; yd = x.yd } in at) c
    ∙ ap (λ (n : ℤ). let at : Point = record { xn = y.xn; xd = y.xd; yn = y.yn; yd = n } in at) d

-- one text a point
point_injective : (x y : Point) → point_text x ≡ point_text y → x ≡ y
point_injective x y e =
    let shaped : fraction_text x.xn x.xd ++ 32 ∷ fraction_text x.yn x.yd ≡ fraction_text y.xn y.xd ++ 32 ∷ fraction_text y.yn y.yd =
    sym (append_assoc (fraction_text x.xn x.xd) (32 ∷ []) (fraction_text x.yn x.yd)) ∙ e ∙ append_assoc (fraction_text y.xn y.xd) (32 ∷ []) (fraction_text y.yn y.yd) in
    let same = space_apart (fraction_text x.xn x.xd) (fraction_text x.yn x.yd) (fraction_text y.xn y.xd) (fraction_text y.yn y.yd)
    (high_fraction x.xn x.xd) (high_fraction y.xn y.xd) shaped in
    let first = fraction_injective x.xn x.xd y.xn y.xd same.0 in
    let second = fraction_injective x.yn x.yd y.yn y.yd same.1 in
    same_point x y first.0 first.1 second.0 second.1

name_injective : (p e q f : ℕ) → side_name p e ≡ side_name q f → (p ≡ q) × (e ≡ f)
name_injective p e q f is =
    let same = one_front 46 (natural_text p) (natural_text q) (46 ∷ natural_text e) (46 ∷ natural_text f)
    (natural_text_lacks 46 p (omega arith)) (natural_text_lacks 46 q (omega arith)) refl refl is in
    let tails : 46 ∷ natural_text e ≡ 46 ∷ natural_text f = same.1 in
    let behind : natural_text e ≡ natural_text f = cc in
    (natural_text_injective p q same.0, natural_text_injective e f behind)

same_glue : (x y : Glue) → x.p1 ≡ y.p1 → x.e1 ≡ y.e1 → x.p2 ≡ y.p2 → x.e2 ≡ y.e2 → x ≡ y
same_glue x y a b c d =
    ap (λ (n : ℕ). let g : Glue = record { p1 = n; e1 = x.e1; p2 = x.p2; e2 = x.e2 } in g) a
    ∙ ap (λ (n : ℕ). let g : Glue = record { p1 = y.p1; e1 = n; p2 = x.p2; e2 = x.e2 } in g) b
    ∙ ap (λ (n : ℕ). let g : Glue = record { p1 = y.p1; e1 = y.e1; p2 = n; e2 = x.e2 } in g) c
    ∙ ap (λ (n : ℕ). let g : Glue = record { p1 = y.p1; e1 = y.e1; p2 = y.p2; e2 = n } in g) d

-- one text for sides that are glued
glue_injective : (x y : Glue) → glue_text x ≡ glue_text y → x ≡ y
glue_injective x y e =
    let same = space_apart (side_name x.p1 x.e1) (side_name x.p2 x.e2) (side_name y.p1 y.e1) (side_name y.p2 y.e2)
    (high_name x.p1 x.e1) (high_name y.p1 y.e1) (sym (glue_shape x) ∙ e ∙ glue_shape y) in
    let first = name_injective x.p1 x.e1 y.p1 y.e1 same.0 in
    let second = name_injective x.p2 x.e2 y.p2 y.e2 same.1 in
    same_glue x y first.0 first.1 second.0 second.1

sides_stop : (sides : List Vec2) → StopsAt 32 (sides_text sides)
sides_stop [] = tt
sides_stop (v ∷ sides) = refl

-- one text for the sides of a polygon
sides_injective : (xs ys : List Vec2) → sides_text xs ≡ sides_text ys → xs ≡ ys
sides_injective [] [] e = refl
sides_injective [] (y ∷ ys) e = absurd (cc)
sides_injective (x ∷ xs) [] e = absurd (cc)
sides_injective (x ∷ xs) (y ∷ ys) e =
    let behind : vector_text x ++ sides_text xs ≡ vector_text y ++ sides_text ys = cc in
    let same = one_front 32 (vector_text x) (vector_text y) (sides_text xs) (sides_text ys) (high_lacks 32 (vector_text x) (omega arith) (high_vector x))
    (high_lacks 32 (vector_text y) (omega arith) (high_vector y)) (sides_stop xs) (sides_stop ys) behind in
    let head = vector_injective x y same.0 in
    let tail = sides_injective xs ys same.1 in
    ap (λ (v : Vec2). v ∷ xs) head ∙ ap (λ (vs : List Vec2). y ∷ vs) tail

field_injective : (d k : ℕ) → line_text (field d) ≡ line_text (field k) → d ≡ k
field_injective d k e = let same : natural_text d ≡ natural_text k = cc in natural_text_injective d k same

base_injective : (x y : Point) → line_text (base x) ≡ line_text (base y) → x ≡ y
base_injective x y e = let same : point_text x ≡ point_text y = cc in point_injective x y same

polygon_injective : (xs ys : List Vec2) → line_text (polygon xs) ≡ line_text (polygon ys) → xs ≡ ys
polygon_injective xs ys e = let same : sides_text xs ≡ sides_text ys = cc in sides_injective xs ys same

gluing_injective : (x y : Glue) → line_text (glue x) ≡ line_text (glue y) → x ≡ y
gluing_injective x y e = let same : glue_text x ≡ glue_text y = cc in glue_injective x y same

-- the byte is this one
abbrev IsByte : ℕ → ℕ → Type 0
IsByte a b = a ≡ b

-- one text a line
pub line_injective : (x y : Line) → line_text x ≡ line_text y → x ≡ y
line_injective flat flat e = refl
line_injective (field d) (field k) e = ap field (field_injective d k e)
line_injective (base x) (base y) e = ap base (base_injective x y e)
line_injective (polygon x) (polygon y) e = ap polygon (polygon_injective x y e)
line_injective (glue x) (glue y) e = ap glue (gluing_injective x y e)
line_injective end end e = refl
line_injective flat (field k) e = let h : IsByte 108 105 = ap (λ (bytes : List ℕ). get_or bytes 1 0) e in absurd (omega arith)
line_injective flat (base y) e = let h : IsByte 102 98 = ap (λ (bytes : List ℕ). get_or bytes 0 0) e in absurd (omega arith)
line_injective flat (polygon y) e = let h : IsByte 102 112 = ap (λ (bytes : List ℕ). get_or bytes 0 0) e in absurd (omega arith)
line_injective flat (glue y) e = let h : IsByte 102 103 = ap (λ (bytes : List ℕ). get_or bytes 0 0) e in absurd (omega arith)
line_injective flat end e = let h : IsByte 102 101 = ap (λ (bytes : List ℕ). get_or bytes 0 0) e in absurd (omega arith)
line_injective (field d) flat e = let h : IsByte 105 108 = ap (λ (bytes : List ℕ). get_or bytes 1 0) e in absurd (omega arith)
line_injective (field d) (base y) e = let h : IsByte 102 98 = ap (λ (bytes : List ℕ). get_or bytes 0 0) e in absurd (omega arith)
line_injective (field d) (polygon y) e = let h : IsByte 102 112 = ap (λ (bytes : List ℕ). get_or bytes 0 0) e in absurd (omega arith)
line_injective (field d) (glue y) e = let h : IsByte 102 103 = ap (λ (bytes : List ℕ). get_or bytes 0 0) e in absurd (omega arith)
line_injective (field d) end e = let h : IsByte 102 101 = ap (λ (bytes : List ℕ). get_or bytes 0 0) e in absurd (omega arith)
line_injective (base x) flat e = let h : IsByte 98 102 = ap (λ (bytes : List ℕ). get_or bytes 0 0) e in absurd (omega arith)
line_injective (base x) (field k) e = let h : IsByte 98 102 = ap (λ (bytes : List ℕ). get_or bytes 0 0) e in absurd (omega arith)
line_injective (base x) (polygon y) e = let h : IsByte 98 112 = ap (λ (bytes : List ℕ). get_or bytes 0 0) e in absurd (omega arith)
line_injective (base x) (glue y) e = let h : IsByte 98 103 = ap (λ (bytes : List ℕ). get_or bytes 0 0) e in absurd (omega arith)
line_injective (base x) end e = let h : IsByte 98 101 = ap (λ (bytes : List ℕ). get_or bytes 0 0) e in absurd (omega arith)
line_injective (polygon x) flat e = let h : IsByte 112 102 = ap (λ (bytes : List ℕ). get_or bytes 0 0) e in absurd (omega arith)
line_injective (polygon x) (field k) e = let h : IsByte 112 102 = ap (λ (bytes : List ℕ). get_or bytes 0 0) e in absurd (omega arith)
line_injective (polygon x) (base y) e = let h : IsByte 112 98 = ap (λ (bytes : List ℕ). get_or bytes 0 0) e in absurd (omega arith)
line_injective (polygon x) (glue y) e = let h : IsByte 112 103 = ap (λ (bytes : List ℕ). get_or bytes 0 0) e in absurd (omega arith)
line_injective (polygon x) end e = let h : IsByte 112 101 = ap (λ (bytes : List ℕ). get_or bytes 0 0) e in absurd (omega arith)
line_injective (glue x) flat e = let h : IsByte 103 102 = ap (λ (bytes : List ℕ). get_or bytes 0 0) e in absurd (omega arith)
line_injective (glue x) (field k) e = let h : IsByte 103 102 = ap (λ (bytes : List ℕ). get_or bytes 0 0) e in absurd (omega arith)
line_injective (glue x) (base y) e = let h : IsByte 103 98 = ap (λ (bytes : List ℕ). get_or bytes 0 0) e in absurd (omega arith)
line_injective (glue x) (polygon y) e = let h : IsByte 103 112 = ap (λ (bytes : List ℕ). get_or bytes 0 0) e in absurd (omega arith)
line_injective (glue x) end e = let h : IsByte 103 101 = ap (λ (bytes : List ℕ). get_or bytes 0 0) e in absurd (omega arith)
line_injective end flat e = let h : IsByte 101 102 = ap (λ (bytes : List ℕ). get_or bytes 0 0) e in absurd (omega arith)
line_injective end (field k) e = let h : IsByte 101 102 = ap (λ (bytes : List ℕ). get_or bytes 0 0) e in absurd (omega arith)
line_injective end (base y) e = let h : IsByte 101 98 = ap (λ (bytes : List ℕ). get_or bytes 0 0) e in absurd (omega arith)
line_injective end (polygon y) e = let h : IsByte 101 112 = ap (λ (bytes : List ℕ). get_or bytes 0 0) e in absurd (omega arith)
line_injective end (glue y) e = let h : IsByte 101 103 = ap (λ (bytes : List ℕ). get_or bytes 0 0) e in absurd (omega arith)

-- the line in front, and what follows it, are the same where the bytes are
pub front_line : (x y : Line) (r s : List ℕ) → line_text x ++ 10 ∷ r ≡ line_text y ++ 10 ∷ s → (x ≡ y) × (r ≡ s)
front_line x y r s e =
    let same = one_front 10 (line_text x) (line_text y) (10 ∷ r) (10 ∷ s) (line_lacks x) (line_lacks y) refl refl e in
    let tails : 10 ∷ r ≡ 10 ∷ s = same.1 in
    (line_injective x y same.0, cc)

-- a line is its word and what follows it
pub word_lacks : (line : Line) → Lacks 32 (word_of line)
word_lacks flat = high_lacks 32 (codes "flat") (omega arith) (high_by (codes "flat") refl)
word_lacks (field d) = high_lacks 32 (codes "field") (omega arith) (high_by (codes "field") refl)
word_lacks (base at) = high_lacks 32 (codes "base") (omega arith) (high_by (codes "base") refl)
word_lacks (polygon sides) = high_lacks 32 (codes "polygon") (omega arith) (high_by (codes "polygon") refl)
word_lacks (glue g) = high_lacks 32 (codes "glue") (omega arith) (high_by (codes "glue") refl)
word_lacks end = high_lacks 32 (codes "end") (omega arith) (high_by (codes "end") refl)

pub tail_stops : (line : Line) → StopsAt 32 (tail_of line)
tail_stops flat = refl
tail_stops (field d) = refl
tail_stops (base at) = refl
tail_stops (polygon sides) = sides_stop sides
tail_stops (glue g) = refl
tail_stops end = tt
