-- Vectors, binary quadratic forms and the triple of a hinge, written once over the operations of a ring.
use Rattle.std.specs.Prelude.{pos}
use Rattle.rings.specs.Ring.{Ops}

-- det(u, v) = u.s·v.t - u.t·v.s
abbrev pub det : {R : Type 0} → Ops R → R × R → R × R → R
det O u v = O.sub (O.mul u.0 v.1) (O.mul u.1 v.0)

-- len(v) = w·s² + 2x·s·t + y·t², the form (w, x, y) at the vector v = (s, t)
abbrev pub length_by : {R : Type 0} → Ops R → R × R × R → R × R → R
length_by O q v = O.add (O.add (O.mul q.0 (O.mul v.0 v.0)) (O.mul (O.mul (O.int (pos 2)) q.1) (O.mul v.0 v.1))) (O.mul q.2 (O.mul v.1 v.1))

-- w·y - x²
abbrev pub inner_value : {R : Type 0} → Ops R → R × R × R → R
inner_value O q = O.sub (O.mul q.0 q.2) (O.mul q.1 q.1)

-- α·w + β·x + γ·y, the line (α, β, γ) at the point (w, x, y)
abbrev pub value_at : {R : Type 0} → Ops R → R × R × R → R × R × R → R
value_at O l q = O.add (O.add (O.mul l.0 q.0) (O.mul l.1 q.1)) (O.mul l.2 q.2)

-- A·len(d) - B·len(a) - C·len(c) with A = det(a, c), B = det(d, c), C = det(a, d):
-- the determinant of the three rows (v.s, v.t, len(v)) of a, c and d
abbrev pub three_row_determinant : {R : Type 0} → Ops R → R × R × R → R × R → R × R → R × R → R
three_row_determinant O q a c d =
    O.sub (O.sub (O.mul (det O a c) (length_by O q d)) (O.mul (det O d c) (length_by O q a)))
    (O.mul (det O a d) (length_by O q c))

-- det(u, v)·w
abbrev pub turn_times : {R : Type 0} → Ops R → R × R → R × R → R × R → R × R
turn_times O u v w = (O.mul (det O u v) w.0, O.mul (det O u v) w.1)

-- (p·u - q·v) - r·w
abbrev pub difference_of_products : {R : Type 0} → Ops R → R → R → R → R → R → R → R
difference_of_products O p u q v r w = O.sub (O.sub (O.mul p u) (O.mul q v)) (O.mul r w)

-- (α, β, γ) for vectors p, q, r in the place of A·d, B·a, C·c: α = (p.s·d.s - q.s·a.s) - r.s·c.s, β = 2·((p.s·d.t - q.s·a.t) - r.s·c.t),
-- γ = (p.t·d.t - q.t·a.t) - r.t·c.t
abbrev pub weighted_triple : {R : Type 0} → Ops R → R × R → R × R → R × R → R × R → R × R → R × R → R × R × R
weighted_triple O p q r a c d = (
  difference_of_products O p.0 d.0 q.0 a.0 r.0 c.0,
  O.mul (O.int (pos 2)) (difference_of_products O p.0 d.1 q.0 a.1 r.0 c.1),
  difference_of_products O p.1 d.1 q.1 a.1 r.1 c.1,
)

-- the triple (α, β, γ) of the hinge a, c, d, with A = det(a, c), B = det(d, c), C = det(a, d)
abbrev pub hinge_triple : {R : Type 0} → Ops R → R × R → R × R → R × R → R × R × R
hinge_triple O a c d = weighted_triple O (turn_times O a c d) (turn_times O d c a) (turn_times O a d c) a c d

-- β² - 4αγ
abbrev pub discriminant : {R : Type 0} → Ops R → R × R × R → R
discriminant O l = O.sub (O.mul l.1 l.1) (O.mul (O.int (pos 4)) (O.mul l.0 l.2))

-- the chord point of a line with γ ≠ 0: (2·(γγ), -(βγ), ββ - 2·(αγ))
abbrev pub chord_point : {R : Type 0} → Ops R → R × R × R → R × R × R
chord_point O l = (
  O.mul (O.int (pos 2)) (O.mul l.2 l.2),
  O.neg (O.mul l.1 l.2),
  O.sub (O.mul l.1 l.1) (O.mul (O.int (pos 2)) (O.mul l.0 l.2)),
)

-- the chord point of a line with γ = 0: (ββ, -(αβ), αα + ββ)
abbrev pub upright_chord_point : {R : Type 0} → Ops R → R × R × R → R × R × R
upright_chord_point O l = (O.mul l.1 l.1, O.neg (O.mul l.0 l.1), O.add (O.mul l.0 l.0) (O.mul l.1 l.1))
