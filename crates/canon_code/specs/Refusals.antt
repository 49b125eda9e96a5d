-- Why a text isn't read as a code.
use Rattle.std.specs.Prelude.{◌≡◌, ℕ, ℤ, pos, ◌+◌, ◌*◌, ◌/◌, ◌%◌, ◌<◌, ◌≤◌, List, length, ⊤}
use Rattle.quad_field.specs.declared.formula.Formula.{Formula}
use Rattle.quad_field.specs.declared.formula.Formula.TheVariants.{F1, F13}
use Rattle.quad_field.specs.Width.{Term, number, term_ops, StepsFit}
use Rattle.plane.specs.Vectors.{Vector, det, vector_sum, opposite_vector, VectorFits}
use Rattle.tri_core.specs.declared.half.Half.{Half}
use Rattle.tri_core.specs.HalfEdges.{twin_at}
use Rattle.tri_core.specs.Triangulation.{IsTriangulation}
use Rattle.canon_code.specs.declared.fault.CodeFault.{CodeFault}
use Rattle.canon_code.specs.declared.fault.CodeFault.TheVariants.{Form, NotCode, Wide, Memory}
use Rattle.canon_code.specs.Codes.{IsCode}
use Rattle.canon_code.specs.Canonical.{number_at, vector_from, canonical}
use Rattle.canon_code.specs.FrameWidth.{HasWideFrame}
use Rattle.canon_code.specs.CodeText.{Lists}

-- the numbers are the code of a triangulation
abbrev pub IsCodeOver : ℕ → List ℤ → Type 0
IsCodeOver d numbers = (halves : List Half) × IsTriangulation d halves × IsCode d halves numbers

-- as many numbers as the serial of a triangulation with the first number of triangles has
pub record HasSerialLength (numbers : List ℤ) : Type 0 where
  pub triangles : ℕ
  pub first : number_at numbers 0 ≡ pos triangles
  pub some : 2 ≤ triangles
  pub few : triangles ≤ 256
  pub count : length numbers ≡ 2 + 11 * triangles

-- the vector whose four numbers begin at place i, as trees
abbrev pub term_from : List ℤ → ℕ → Vector Term
term_from numbers i = let v = vector_from numbers i in (number v.0, number v.1)

-- of the first two vectors of the triangle whose numbers begin at place i, no step of their determinant, of their sum or of its opposite lies outside i128
pub record SidesFit (d : ℕ) (numbers : List ℤ) (i : ℕ) : Type 0 where
  pub determinant : StepsFit d (det term_ops (term_from numbers i) (term_from numbers (i + 4)))
  pub sum : VectorFits d (vector_sum term_ops (term_from numbers i) (term_from numbers (i + 4)))
  pub opposite : VectorFits d (opposite_vector term_ops (vector_sum term_ops (term_from numbers i) (term_from numbers (i + 4))))

-- a step at the first two vectors of some triangle lies outside i128
pub record HasWideSides (d : ℕ) (numbers : List ℤ) : Type 0 where
  pub long : HasSerialLength numbers
  pub triangle : ℕ
  pub inside : triangle < long.triangles
  pub wide : ¬ (SidesFit d numbers (2 + 11 * triangle))

-- the numbers list a triangulation: three half-edges a triangle, with the natural numbers of their twins
pub record ListsTriangulation (d : ℕ) (numbers : List ℤ) : Type 0 where
  pub long : HasSerialLength numbers
  pub twins : (k : ℕ) → k < 3 * long.triangles → number_at numbers (2 + 11 * (k / 3) + (8 + k % 3)) ≡ pos (twin_at (canonical d numbers) k)
  pub valid : IsTriangulation d (canonical d numbers)

-- the formula has a step outside i128: F13 at the first two vectors of a triangle, F1 at a half-edge of the triangulation that is listed
abbrev pub IsWideCause : ℕ → List ℤ → Formula → Type 0
IsWideCause d numbers F13 = HasWideSides d numbers
IsWideCause d numbers F1 = ListsTriangulation d numbers × HasWideFrame d (canonical d numbers)
IsWideCause d numbers formula = ⊥

-- the cause of each refusal: no numbers are listed; they are no triangulation's code; a formula is wide; or want of memory
abbrev pub IsCause : ℕ → List ℕ → CodeFault → Type 0
IsCause d bytes Form = (numbers : List ℤ) → ¬ (Lists bytes numbers)
IsCause d bytes NotCode = (numbers : List ℤ) × Lists bytes numbers × ¬ (IsCodeOver d numbers)
IsCause d bytes (Wide formula) = (numbers : List ℤ) × Lists bytes numbers × IsWideCause d numbers formula
IsCause d bytes Memory = ⊤

-- a refusal for width or memory, which may stand in place of any other answer on numbers
abbrev pub IsFree : CodeFault → Type 0
IsFree Form = ⊥
IsFree NotCode = ⊥
IsFree (Wide formula) = ⊤
IsFree Memory = ⊤
