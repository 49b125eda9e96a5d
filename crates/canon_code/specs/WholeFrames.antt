-- For private contracts alone: a start whose scale is at least a known one, and what is told of it.
use Rattle.std.specs.Prelude.{◌≡◌, ℕ, ℤ, pos, ◌+◌, ◌*◌, ◌*ℤ◌, ◌<◌, ◌≤◌, ◌<ℤ◌, ◌⊎◌, unsigned_abs, List, [], ◌∷◌, ◌++◌, length, ⊤}
use Prim.Native.Nat.{◌∣◌}
use Rattle.quad_field.specs.declared.quad.Quad.{Quad}
use Rattle.quad_field.specs.Quads.{quad, quad_ops, scaled}
use Rattle.plane.specs.Vectors.{Vector, vector, det}
use Rattle.tri_core.specs.declared.half.Half.{Half}
use Rattle.tri_core.specs.HalfEdges.{vector_at, twin_at, next_of}
use Rattle.canon_code.specs.declared.coordinates.Frame.{Frame}
use Rattle.canon_code.specs.declared.whole.Scaled.{Scaled}
use Rattle.canon_code.specs.declared.whole.Told.{Told}
use Rattle.canon_code.specs.declared.whole.Told.TheVariants.{After, Same, Open}
use Rattle.canon_code.specs.Serials.{parts, IsScale, IsSerial}
use Rattle.canon_code.specs.Codes.{IsBefore}

-- the frame of start h, with the norm of its determinant
pub record IsFrameOf (d : ℕ) (halves : List Half) (h : ℕ) (frame : Frame) : Type 0 where
  pub e : vector frame.e ≡ vector_at halves h
  pub g : vector frame.g ≡ vector_at halves (next_of h)
  pub norm : quad frame.norm (pos 0) ≡ (quad_ops d).mul (det (quad_ops d) (vector frame.e) (vector frame.g)) frame.conjugate

-- the two numbers of the formula for the vector v
abbrev pub numbers_at : ℕ → Frame → Vector Quad → Vector Quad
numbers_at d frame v = let O = quad_ops d in (O.mul (det O v (vector frame.g)) frame.conjugate, O.mul (det O (vector frame.e) v) frame.conjugate)

-- they are w times g
abbrev pub IsWhole : ℕ → Frame → ℤ → Vector Quad → Vector Quad → Type 0
IsWhole d frame g v w = ((numbers_at d frame v).0 ≡ scaled g w.0) × ((numbers_at d frame v).1 ≡ scaled g w.1)

-- x isn't a multiple of g
abbrev pub IsNoMultiple : ℤ → Quad → Type 0
IsNoMultiple g x = (y : Quad) → ¬ (x ≡ scaled g y)

-- n isn't a multiple of g
abbrev pub IsNoWholeMultiple : ℤ → ℤ → Type 0
IsNoWholeMultiple g n = (q : ℤ) → ¬ (n ≡ q *ℤ g)

-- one of the two numbers isn't a multiple of g
abbrev pub IsNotWhole : ℕ → Frame → ℤ → Vector Quad → Type 0
IsNotWhole d frame g v = IsNoMultiple g (numbers_at d frame v).0 ⊎ IsNoMultiple g (numbers_at d frame v).1

-- each scale of start h times g is a multiple of the norm
abbrev pub IsScaleBound : ℕ → List Half → ℕ → ℤ → ℤ → Type 0
IsScaleBound d halves h norm g = (n : ℕ) → IsScale d halves h n → unsigned_abs norm ∣ (n * unsigned_abs g)

-- a divisor of the norm with this
pub record IsDivisorOf (d : ℕ) (halves : List Half) (h : ℕ) (norm g : ℤ) : Type 0 where
  pub positive : pos 0 <ℤ g
  pub divides : unsigned_abs g ∣ unsigned_abs norm
  pub bound : IsScaleBound d halves h norm g

-- the frame of a start, of norm m times the divisor, where no scale of the start is below m
pub record IsScaledBy (d : ℕ) (halves : List Half) (m : ℤ) (start : Scaled) : Type 0 where
  pub inside : start.h < length halves
  pub frame : IsFrameOf d halves start.h start.frame
  pub positive : pos 0 <ℤ start.divisor
  pub some : pos 0 <ℤ m
  pub norm : start.frame.norm ≡ m *ℤ start.divisor
  pub least : (n : ℕ) → IsScale d halves start.h n → unsigned_abs m ≤ n

-- the same for the half-edge of new number k
abbrev pub IsWholeAt : ℕ → List Half → Scaled → (ℕ → ℕ) → ℕ → Vector Quad → Type 0
IsWholeAt d halves start place k w = IsWhole d start.frame start.divisor (vector_at halves (place k)) w

-- the numbers of triangle t over the divisor
abbrev pub IsWholeRow : ℕ → List Half → Scaled → (ℕ → ℕ) → (ℕ → ℕ) → ℕ → List ℤ → Type 0
IsWholeRow d halves start place number t numbers_are =
    (u : Vector Quad) × (v : Vector Quad) × IsWholeAt d halves start place (3 * t) u × IsWholeAt d halves start place (3 * t + 1) v
    × (numbers_are ≡ parts u ++ (parts v ++ (pos (number (twin_at halves (place (3 * t)))) ∷ pos (number (twin_at halves (place (3 * t + 1)))) ∷ pos (number (twin_at halves (place (3 * t + 2)))) ∷ [])))

-- some half-edge has no whole numbers over the divisor
abbrev pub HasNoWhole : ℕ → List Half → Scaled → Type 0
HasNoWhole d halves start = (k : ℕ) × (k < length halves) × IsNotWhole d start.frame start.divisor (vector_at halves k)

-- what is told of start h, where the list is the best: each serial is after it, or it is the serial, or nothing
abbrev pub IsTold : ℕ → List Half → ℕ → List ℤ → Told → Type 0
IsTold d halves h best After = (serial : List ℤ) → IsSerial d halves h serial → IsBefore best serial
IsTold d halves h best Same = IsSerial d halves h best
IsTold d halves h best Open = ⊤
