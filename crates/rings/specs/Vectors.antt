-- Vectors of the plane, written once over the operations of a ring.
use Rattle.std.specs.Prelude.{◌≡◌, pos, ◌⊎◌}
use Rattle.rings.specs.Ring.{Ops}

-- a vector (s, t) over a ring
abbrev pub Vector : Type 0 → Type 0
Vector R = R × R

-- (0, 0)
abbrev pub zero_vector : {R : Type 0} → Ops R → Vector R
zero_vector O = (O.int (pos 0), O.int (pos 0))

-- u + v
abbrev pub vector_sum : {R : Type 0} → Ops R → Vector R → Vector R → Vector R
vector_sum O u v = (O.add u.0 v.0, O.add u.1 v.1)

-- -u
abbrev pub opposite_vector : {R : Type 0} → Ops R → Vector R → Vector R
opposite_vector O u = (O.neg u.0, O.neg u.1)

-- c·v
abbrev pub multiple_vector : {R : Type 0} → Ops R → R → Vector R → Vector R
multiple_vector O c v = (O.mul c v.0, O.mul c v.1)

-- a vector (s, t) is in the upper half: t > 0, or t = 0 and s > 0
abbrev pub IsUpper : {R : Type 0} → Ops R → (R → Type 0) → Vector R → Type 0
IsUpper O P v = P v.1 ⊎ ((v.1 ≡ O.int (pos 0)) × P v.0)
