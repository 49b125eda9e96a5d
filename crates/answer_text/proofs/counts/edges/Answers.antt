use Rattle.std.proofs.Common.{ℕ, ◌<◌, length, nat_lt, arith}
use Rattle.tri_core.specs.HalfEdges.{twin_at}
use Rattle.answer_text.proofs.Edges.{one_more, no_more, all_counted, is_less, is_not_less}
use Rattle.answer_text.proofs.counts.edges.Goals as goal
use Rattle.answer_text.proofs.counts.edges.Goals.{then-is_edge, else-is_edge}

pub loop-h-preserved : goal.loop-h-preserved
loop-h-preserved c =
    let halves = c.args.tri.now.halves in
    let p = λ (h : ℕ). nat_lt h (twin_at halves h) in
    let less : c.loop-h.h < length halves = omega arith in
    elim c.if-is_edge.branch [
      | then-is_edge w ↦ (one_more p (length halves) c.loop-h.h less c.loop-h.edges _ c.loop-h.invariant.0 (is_less c.is_edge.result c.loop-h.h (length halves) _ w.if-is_edge.true c.is_edge.ensures) w.edges-is, omega arith)
      | else-is_edge w ↦ (no_more p (length halves) c.loop-h.h less c.loop-h.edges _ c.loop-h.invariant.0 (is_not_less c.is_edge.result c.loop-h.h (length halves) _ w.if-is_edge.false c.is_edge.ensures less) w.edges-is, omega arith)
    ]

pub returns : goal.returns
returns c =
    all_counted (λ (h : ℕ). nat_lt h (twin_at c.args.tri.now.halves h)) (length c.args.tri.now.halves) c.loop-h.h c.loop-h.edges (omega arith) c.loop-h.invariant.0
