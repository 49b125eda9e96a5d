use Rattle.std.proofs.Common.{◌+◌, refl, sym, subst, arith}
use Rattle.std.proofs.lemmas.Bool.{false≢true}
use Rattle.hinge_form.specs.Hinges.{of_place}
use Rattle.delaunay_flip.proofs.TableLemmas.{IsFilled, filled_edge, filled_no_edge, filled_all, wide_edge}
use Rattle.delaunay_flip.proofs.edge_values.EdgeValues.fill.Goals as goal
use Rattle.delaunay_flip.proofs.edge_values.EdgeValues.fill.Goals.{then-is_edge+in-Ok, else-is_edge}

pub returns-in-Err-clause-wide : goal.returns-in-Err-clause-wide
returns-in-Err-clause-wide c =
    wide_edge c.args.tri.now.field (of_place c.args.at.now) c.args.tri.now.halves c.loop-h.h _ c.loop-h.self c.loop-h.invariant (c.if-is_edge.ensures.0 refl) c.in-Err.ensures.wide

pub loop-h-preserved : goal.loop-h-preserved
loop-h-preserved c =
    let d = c.args.tri.now.field in
    let q = of_place c.args.at.now in
    let halves = c.args.tri.now.halves in
    elim c.if-is_edge.branch [
      | then-is_edge+in-Ok w ↦
          subst (IsFilled d q halves (c.loop-h.h + 1)) (sym w.self-is)
          (filled_edge d q halves c.args.f.now c.requires.field c.is_valid.ensures.number c.is_valid.ensures.valid c.loop-h.h w.in-Ok.v c.loop-h.self w.enter.new.self
          (w.if-is_edge.ensures.0 refl) w.in-Ok.ensures.fits w.in-Ok.ensures.value w.enter.ensures c.loop-h.invariant)
      | else-is_edge w ↦
          subst (IsFilled d q halves (c.loop-h.h + 1)) (sym w.self-is) (filled_no_edge d q halves c.loop-h.h c.loop-h.self (λ edge. false≢true (w.if-is_edge.ensures.1 edge)) c.loop-h.invariant)
    ]

pub returns-clause-table : goal.returns-clause-table
returns-clause-table c =
    filled_all c.args.tri.now.field (of_place c.args.at.now) c.args.tri.now.halves c.loop-h.h c.loop-h.self (omega (arith, c.triangles-h-end.ensures.count, c.loop-h-test.false)) c.loop-h.invariant
