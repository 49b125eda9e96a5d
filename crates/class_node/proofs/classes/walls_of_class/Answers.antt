use Rattle.std.proofs.Common.{subst}
use mathlib.Core.Logic.{∥∥₁_map}
use Rattle.tri_core.specs.Triangulation.{Triangulation}
use Rattle.parabola_region.specs.Instances.{IsRegionFault}
use Rattle.class_node.specs.Classes.{IsClassOver}
use Rattle.class_node.proofs.Faults.{stuck_by_walls}
use Rattle.class_node.proofs.classes.walls_of_class.Goals as goal

pub tri_of-requires : goal.tri_of-requires
tri_of-requires c = ∥∥₁_map c.requires.own (λ (o : IsClassOver c.args.f.now c.args.code.now). o.1)

pub returns-in-Err-clause-fault : goal.returns-in-Err-clause-fault
returns-in-Err-clause-fault c =
    stuck_by_walls c.args.f.now c.args.code.now c.in-Err.fault c.stop_of.result
    (subst (λ (t : Triangulation). IsRegionFault t.field t.halves c.in-Err.fault) c.in_ok-tri.ensures c.in-Err.ensures.fault) c.stop_of.ensures
