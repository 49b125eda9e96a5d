-- For private clauses alone, no public contract cites it: whole numbers of bounded size, and vectors and triples of whole numbers.
use Rattle.std.specs.Prelude.{◌≡◌, ℕ, ◌*◌, ◌≤◌, ℤ, pos, unsigned_abs}
use Rattle.quad_field.specs.declared.quad.Quad.{Quad}
use Rattle.quad_field.specs.Quads.{quad}
use Rattle.plane.specs.Vectors.{Vector}
use Rattle.plane.specs.declared.vec2.Vec2.{Vec2}
use Rattle.hinge_form.specs.declared.small.Whole2.{Whole2}
use Rattle.hinge_form.specs.declared.rooted.Quad64.{Quad64}
use Rattle.hinge_form.specs.declared.rooted.Vector64.{Vector64}
use Rattle.hinge_form.specs.Triples.{Triple}

-- |n| ≤ most
abbrev pub IsWithin : ℕ → ℤ → Type 0
IsWithin most n = unsigned_abs n ≤ most

-- a whole number of at most so much in size
abbrev pub IsWhole : ℕ → Quad → Type 0
IsWhole most x = (x.b ≡ pos 0) × IsWithin most x.a

-- a vector of whole numbers of at most so much in size
abbrev pub HasWholes : ℕ → Vec2 → Type 0
HasWholes most v = IsWhole most v.s × IsWhole most v.t

-- and a triple of such numbers
abbrev pub IsWholeTriple : ℕ → Triple → Type 0
IsWholeTriple most l = IsWhole most l.0 × IsWhole most l.1 × IsWhole most l.2

-- the coordinates of a vector of whole numbers
abbrev pub coordinates : Whole2 → Vector ℤ
coordinates u = (u.s, u.t)

-- each is of at most so much in size
abbrev pub AreWithin : ℕ → Whole2 → Type 0
AreWithin most u = IsWithin most u.s × IsWithin most u.t

-- the K-integers of whole numbers
abbrev pub whole_vector : Vector ℤ → Vector Quad
whole_vector u = (quad u.0 (pos 0), quad u.1 (pos 0))

abbrev pub whole_triple : ℤ × ℤ × ℤ → Triple
whole_triple l = (quad l.0 (pos 0), quad l.1 (pos 0), quad l.2 (pos 0))

-- both parts are of at most so much in size
abbrev pub PartsWithin : ℕ → Quad → Type 0
PartsWithin most x = IsWithin most x.a × IsWithin most x.b

-- the parts of both coordinates are
abbrev pub VectorWithin : ℕ → Vector Quad → Type 0
VectorWithin most u = PartsWithin most u.0 × PartsWithin most u.1

abbrev pub HasPartsWithin : ℕ → Vec2 → Type 0
HasPartsWithin most v = VectorWithin most (v.s, v.t)

-- the K-integer of two parts of 64 bits, and the vector of two such
abbrev pub quad_of : Quad64 → Quad
quad_of x = quad x.a x.b

abbrev pub vector_of : Vector64 → Vector Quad
vector_of u = (quad_of u.s, quad_of u.t)

-- with d at most 1000, the parts of x·y are of at most so much in size, by those of x and y
pub record FactorsWithin (most : ℕ) (x y : Quad) : Type 0 where
  pub first : ℕ
  pub second : ℕ
  pub some_first : 1 ≤ first
  pub some_second : 1 ≤ second
  pub of_first : PartsWithin first x
  pub of_second : PartsWithin second y
  pub low : 1001 * (first * second) ≤ most
