use Rattle.std.proofs.Common.{ap}
use Rattle.tri_core.specs.Triangulation.{Triangulation}
use Rattle.tri_core.proofs.Handed.{apart-named}
use Rattle.tri_core.proofs.tri.Tri.diagonal_fits.Goals as goal

pub new_diagonal-requires-clause-apart : goal.new_diagonal-requires-clause-apart
new_diagonal-requires-clause-apart c =
    apart-named c.self.inside.field c.args.self.now.halves c.self.inside.halves.items c.as_slice.result.now c.args.edge
    (ap (λ (t : Triangulation). t.halves) c.self.view_is) c.as_slice.ensures.value c.self.invariant c.requires.edge
