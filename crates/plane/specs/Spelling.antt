-- The one spelling of natural numbers, whole numbers, K-integers and vectors, as bytes of ASCII.
use Rattle.std.specs.Prelude.{ℕ, zero, suc, ◌+◌, ℤ, pos, negsuc, List, [], ◌++◌, map, codes}
use Rattle.std.specs.Int.Digits.{digits_of}
use Rattle.quad_field.specs.declared.quad.Quad.{Quad}
use Rattle.plane.specs.declared.vec2.Vec2.{Vec2}

-- a natural number: `0`, or its decimal digits, the first of which isn't 0
unfoldable pub natural_text : ℕ → List ℕ
natural_text zero = codes "0"
natural_text (suc n) = map (λ digit. 48 + digit) (digits_of 10 (suc n))

-- a whole number: a natural number, or `-` and a natural number other than 0
abbrev pub whole_text : ℤ → List ℕ
whole_text (pos n) = natural_text n
whole_text (negsuc n) = codes "-" ++ natural_text (suc n)

-- how many times √D: nothing where it is 0, and else a sign, a natural number and `r`
abbrev pub root_text : ℤ → List ℕ
root_text (pos zero) = []
root_text (pos (suc n)) = codes "+" ++ natural_text (suc n) ++ codes "r"
root_text (negsuc n) = codes "-" ++ natural_text (suc n) ++ codes "r"

-- a K-integer
abbrev pub quad_text : Quad → List ℕ
quad_text x = whole_text x.a ++ root_text x.b

-- a vector: its coordinates, with a comma between
abbrev pub vector_text : Vec2 → List ℕ
vector_text v = quad_text v.s ++ codes "," ++ quad_text v.t
