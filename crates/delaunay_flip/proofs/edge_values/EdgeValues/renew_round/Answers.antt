use Rattle.std.proofs.Common.{get_or, subst, arith}
use Rattle.std.proofs.lemmas.List.{drop_more}
use Rattle.hinge_form.specs.Hinges.{of_place}
use Rattle.delaunay_flip.specs.Tables.{IsTableBut}
use Rattle.delaunay_flip.proofs.TableLemmas.{renewed_side}
use Rattle.delaunay_flip.proofs.edge_values.EdgeValues.renew_round.Goals as goal

pub loop-side-preserved : goal.loop-side-preserved
loop-side-preserved c =
    let d = c.args.tri.now.field in
    let q = of_place c.args.at.now in
    let halves = c.args.tri.now.halves in
    let sides = c.sides-side-items.result in
    let i = c.loop-side.side-index in
    renewed_side d q halves (get_or sides i 0) _ c.loop-side.self c.renew.new.self c.in_ok-renew.ensures.count c.in_ok-renew.ensures.renewed
    (subst (λ rest. IsTableBut d q halves rest c.loop-side.self) (drop_more sides i 0 (omega arith)) c.loop-side.invariant)
