-- What a matrix makes of places and of forms, written once over the operations of a ring.
use Rattle.std.specs.Prelude.{pos}
use Rattle.rings.specs.Ring.{Ops}
use Rattle.rings.specs.Forms.{length_by}
use Rattle.rings.specs.Vectors.{Vector}
use Rattle.rings.specs.Matrices.{Matrix}
use Rattle.rings.specs.Lines.{Triple}

-- w·u.s·v.s + x·(u.s·v.t + u.t·v.s) + y·u.t·v.t, the product of two vectors at a place, of which the height is the square
abbrev pub mixed_length : {R : Type 0} → Ops R → Triple R → Vector R → Vector R → R
mixed_length O q u v =
    O.add (O.add (O.mul q.0 (O.mul u.0 v.0)) (O.mul q.1 (O.add (O.mul u.0 v.1) (O.mul u.1 v.0)))) (O.mul q.2 (O.mul u.1 v.1))

-- the pulled place: the place at which every vector v has the height that n·v has at q; its w and y are the heights of the columns of n, its x their product
abbrev pub pulled : {R : Type 0} → Ops R → Matrix R → Triple R → Triple R
pulled O n q = (length_by O q (n.0, n.2), mixed_length O q (n.0, n.2) (n.1, n.3), length_by O q (n.1, n.3))

-- the pushed form: the form whose value at each place is that of l at the pulled place
abbrev pub pushed : {R : Type 0} → Ops R → Matrix R → Triple R → Triple R
pushed O n l = (
  O.add (O.add (O.mul l.0 (O.mul n.0 n.0)) (O.mul l.1 (O.mul n.0 n.1))) (O.mul l.2 (O.mul n.1 n.1)),
  O.add (O.mul (O.int (pos 2)) (O.add (O.mul l.0 (O.mul n.0 n.2)) (O.mul l.2 (O.mul n.1 n.3)))) (O.mul l.1 (O.add (O.mul n.0 n.3) (O.mul n.1 n.2))),
  O.add (O.add (O.mul l.0 (O.mul n.2 n.2)) (O.mul l.1 (O.mul n.2 n.3))) (O.mul l.2 (O.mul n.3 n.3)),
)
