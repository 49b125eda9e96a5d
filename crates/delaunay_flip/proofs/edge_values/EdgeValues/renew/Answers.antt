use Rattle.std.proofs.Common.{refl}
use Rattle.hinge_form.specs.Hinges.{of_place}
use Rattle.delaunay_flip.proofs.TableLemmas.{renewed}
use Rattle.delaunay_flip.proofs.edge_values.EdgeValues.renew.Goals as goal

pub returns-clause-renewed : goal.returns-clause-renewed
returns-clause-renewed c =
    renewed c.args.tri.now.field (of_place c.args.at.now) c.args.tri.now.halves c.args.f.now c.requires.field c.is_valid.ensures.number c.is_valid.ensures.valid
    c.args.h c.names-edge.result.0 c.names-edge.result.1 c.in_ok-v.v c.args.self.now _ c.enter.new.self c.names-edge.ensures c.in_ok-v.ensures.fits c.in_ok-v.ensures.value
    c.requires.count refl c.remove.ensures.this c.remove.ensures.others c.enter.ensures
