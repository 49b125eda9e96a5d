-- When a list of half-edges is refused, and where.
use Rattle.std.specs.Prelude.{◌≡◌, ◌⊎◌, ℕ, ◌+◌, ◌*◌, ◌<◌, List, [], ◌∷◌, length, Option, Some, None, ⊤}
use Rattle.quad_field.specs.Width.{term_ops, StepsFit}
use Rattle.quad_field.specs.declared.formula.Formula.TheVariants.{F13}
use Rattle.plane.specs.Vectors.{det, vector_sum, vector_term, VectorFits}
use Rattle.tri_core.specs.declared.half.Half.{Half}
use Rattle.tri_core.specs.declared.tri.BadTri.{BadTri}
use Rattle.tri_core.specs.declared.tri.BadTri.TheVariants.{Count, Wide, Sum, Turn, Twin, Apart, Memory}
use Rattle.tri_core.specs.HalfEdges.{half_at}
use Rattle.tri_core.specs.Triangulation.{HasTriangles, IsTriangle, IsClosed, TurnsInto, IsPaired, IsJoined}

-- of the places that count, n is the least where P fails
pub record FailsFirst (Counts P : ℕ → Type 0) (n : ℕ) : Type 0 where
  pub place : Counts n
  pub fails : ¬ (P n)
  pub before : (k : ℕ) → k < n → P k

-- P holds at every place that counts
abbrev pub HoldsAll : (ℕ → Type 0) → (ℕ → Type 0) → Type 0
HoldsAll Counts P = (k : ℕ) → Counts k → P k

-- the least place where P fails, or none where P holds at each
abbrev pub IsFirstFailure : (ℕ → Type 0) → (ℕ → Type 0) → Option ℕ → Type 0
IsFirstFailure Counts P None = HoldsAll Counts P
IsFirstFailure Counts P (Some n) = FailsFirst Counts P n

-- h is the number of a half-edge
abbrev pub IsHalf : List Half → ℕ → Type 0
IsHalf halves h = h < length halves

-- a condition that is tried at places: which places count, what is to hold there, and how a place where it fails is refused
pub record Condition : Type 1 where
  pub Counts : ℕ → Type 0
  pub Holds : ℕ → Type 0
  pub refusal : ℕ → BadTri

-- a condition that is tried once
abbrev pub once : Type 0 → BadTri → Condition
once P bad = record { Counts = λ n. n ≡ 0; Holds = λ n. P; refusal = λ n. bad }

-- the conditions of a triangulation, in the order in which they are tried
abbrev pub conditions : ℕ → List Half → List Condition
conditions d halves =
    once (HasTriangles halves) Count
    ∷ record { Counts = IsTriangle halves; Holds = IsClosed d halves; refusal = Sum }
    ∷ record { Counts = IsTriangle halves; Holds = λ t. TurnsInto d halves (3 * t) (3 * t + 1); refusal = Turn }
    ∷ record { Counts = IsHalf halves; Holds = IsPaired d halves; refusal = Twin }
    ∷ record { Counts = IsTriangle halves; Holds = IsJoined halves; refusal = Apart }
    ∷ []

-- `bad` is the refusal of the first condition of a list that fails, at the least place where it does
abbrev pub IsFirstRefusal : List Condition → BadTri → Type 0
IsFirstRefusal [] bad = ⊥
IsFirstRefusal (c ∷ cs) bad =
    ((n : ℕ) × (bad ≡ c.refusal n) × FailsFirst c.Counts c.Holds n) ⊎ (HoldsAll c.Counts c.Holds × IsFirstRefusal cs bad)

-- the sum of triangle t's vectors, or the determinant of its first two, has a step outside i128
abbrev pub IsWideAt : ℕ → List Half → ℕ → Type 0
IsWideAt d halves t =
    let u = vector_term (half_at halves (3 * t)).vec in
    let v = vector_term (half_at halves (3 * t + 1)).vec in
    let w = vector_term (half_at halves (3 * t + 2)).vec in
    ¬ (VectorFits d (vector_sum term_ops (vector_sum term_ops u v) w) × StepsFit d (det term_ops u v))

-- some triangle's sum or determinant has such a step
abbrev pub HasWide : ℕ → List Half → Type 0
HasWide d halves = (t : ℕ) × IsTriangle halves t × IsWideAt d halves t

-- the cause of each refusal: the first of the conditions that fails, at the least place where it does; or width; or want of memory
abbrev pub IsCause : ℕ → List Half → BadTri → Type 0
IsCause d halves (Wide formula) = HasTriangles halves × (formula ≡ F13) × HasWide d halves
IsCause d halves Memory = ⊤
IsCause d halves bad = IsFirstRefusal (conditions d halves) bad

-- a refusal for width or memory, which may stand in place of any other answer
abbrev pub IsFree : BadTri → Type 0
IsFree (Wide formula) = ⊤
IsFree Memory = ⊤
IsFree bad = ⊥

-- a refusal for a condition that fails
abbrev pub IsForced : BadTri → Type 0
IsForced (Wide formula) = ⊥
IsForced Memory = ⊥
IsForced bad = ⊤
