-- Matrices of two rows and two columns, written once over the operations of a ring.
use Rattle.rings.specs.Ring.{Ops}
use Rattle.rings.specs.Vectors.{Vector}

-- the matrix (n0, n1; n2, n3), by rows
abbrev pub Matrix : Type 0 → Type 0
Matrix R = R × R × R × R

-- n·v, the image of v by n
abbrev pub mapped : {R : Type 0} → Ops R → Matrix R → Vector R → Vector R
mapped O n v = (O.add (O.mul n.0 v.0) (O.mul n.1 v.1), O.add (O.mul n.2 v.0) (O.mul n.3 v.1))

-- det(n)
abbrev pub matrix_det : {R : Type 0} → Ops R → Matrix R → R
matrix_det O n = O.sub (O.mul n.0 n.3) (O.mul n.1 n.2)

-- n·m, which maps by m first and then by n
abbrev pub matrix_product : {R : Type 0} → Ops R → Matrix R → Matrix R → Matrix R
matrix_product O n m = (
  O.add (O.mul n.0 m.0) (O.mul n.1 m.2),
  O.add (O.mul n.0 m.1) (O.mul n.1 m.3),
  O.add (O.mul n.2 m.0) (O.mul n.3 m.2),
  O.add (O.mul n.2 m.1) (O.mul n.3 m.3),
)

-- the adjugate of n: its product with n is det(n)
abbrev pub adjugate : {R : Type 0} → Ops R → Matrix R → Matrix R
adjugate O n = (n.3, O.neg n.1, O.neg n.2, n.0)

-- c·n
abbrev pub multiple_matrix : {R : Type 0} → Ops R → R → Matrix R → Matrix R
multiple_matrix O c n = (O.mul c n.0, O.mul c n.1, O.mul c n.2, O.mul c n.3)
