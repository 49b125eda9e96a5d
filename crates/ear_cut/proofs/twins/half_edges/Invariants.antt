use Rattle.ear_cut.proofs.Courses.{AreHalvesOf}
use Rattle.ear_cut.proofs.twins.half_edges.Given as goal

abbrev pub invariant-loop-edge : goal.invariant-loop-edge
invariant-loop-edge l = AreHalvesOf l.glued.glues l.edges l.edge-index l.halves.items
