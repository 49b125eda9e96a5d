use Rattle.tri_core.proofs.Neighbours.{first_apart, none_apart}
use Rattle.tri_core.proofs.joined.first_apart.Goals as goal

pub returns-in-Some : goal.returns-in-Some
returns-in-Some c = first_apart c.args.halves.now c.requires.triangles c.in-Some.t (rw c.in-Some.is at c.in_ok-t.ensures)

pub returns-in-None : goal.returns-in-None
returns-in-None c = none_apart c.args.halves.now c.requires.triangles (rw c.in-None.is at c.in_ok-t.ensures)
