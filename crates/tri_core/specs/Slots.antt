-- For private contracts alone: the slots of a flip, where the six half-edges of its two triangles stand afterwards.
use Rattle.std.specs.Prelude.{◌≡◌, ℕ, ◌<◌, List, length, slice_set}
use Rattle.plane.specs.declared.vec2.Vec2.{Vec2}
use Rattle.tri_core.specs.declared.half.Half.{Half}
use Rattle.tri_core.specs.HalfEdges.{half_at, twin_at}
use Rattle.tri_core.specs.Flips.{number_after, IsOuter}

-- each half-edge has a twin whose twin it is
pub record HasPairs (halves : List Half) : Type 0 where
  pub inside : (k : ℕ) → k < length halves → twin_at halves k < length halves
  pub back : (k : ℕ) → k < length halves → twin_at halves (twin_at halves k) ≡ k

-- `later` are the half-edges with h, g and the outer sides in their slots, and the twins carried along but for those of the outer sides that are left
pub record IsCarried (halves : List Half) (h g : ℕ) (new_diagonal its_opposite : Vec2) (IsLeft : ℕ → Type 0) (later : List Half) : Type 0 where
  pub count : length later ≡ length halves
  pub diagonal : (half_at later h).vec ≡ new_diagonal
  pub opposite : (half_at later g).vec ≡ its_opposite
  pub vectors : (k : ℕ) → k < length halves → ¬ (k ≡ h) → ¬ (k ≡ g) → (half_at later (number_after h g k)).vec ≡ (half_at halves k).vec
  pub outer : (k : ℕ) → k < length halves → IsOuter h g k → twin_at later (number_after h g k) ≡ number_after h g (twin_at halves k)
  pub others : (k : ℕ) → k < length halves → ¬ (IsLeft (twin_at halves k)) → twin_at later (number_after h g k) ≡ number_after h g (twin_at halves k)

-- half-edge k is named by its twin
abbrev pub linked_back : List Half → ℕ → List Half
linked_back halves k = slice_set halves (twin_at halves k) (record { vec = (half_at halves (twin_at halves k)).vec; twin = k })
