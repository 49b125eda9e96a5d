-- The edges of a wall: which triangles they lie in, and which signs they leave at a place.
use Rattle.std.specs.Prelude.{◌≡◌, ◌⊎◌, ℕ, pos, List}
use Rattle.std.specs.List.{Contains}
use Rattle.quad_field.specs.Quads.{quad_ops, IsPositive}
use Rattle.tri_core.specs.declared.half.Half.{Half}
use Rattle.tri_core.specs.HalfEdges.{twin_at, triangle_of}
use Rattle.tri_core.specs.Flips.{IsEdge}
use Rattle.hinge_form.specs.Triples.{Triple}
use Rattle.hinge_form.specs.Hinges.{hinge_value}

-- t is one of the two triangles at edge h
abbrev pub IsBeside : List Half → ℕ → ℕ → Type 0
IsBeside halves h t = (t ≡ triangle_of h) ⊎ (t ≡ triangle_of (twin_at halves h))

-- two edges have no triangle in common
abbrev pub ShareNoTriangle : List Half → ℕ → ℕ → Type 0
ShareNoTriangle halves h k = (t : ℕ) → IsBeside halves h t → ¬ (IsBeside halves k t)

-- at a place exactly the edges of a list have the hinge value zero, and all others a positive one
abbrev pub HasZerosAt : ℕ → List Half → List ℕ → Triple → Type 0
HasZerosAt d halves edges q =
    (h : ℕ) → IsEdge halves h
    → (Contains edges h × (hinge_value d halves h q ≡ (quad_ops d).int (pos 0))) ⊎ (¬ (Contains edges h) × IsPositive d (hinge_value d halves h q))
