use Rattle.std.proofs.Common.{arith}
use Rattle.answer_text.proofs.Halves.{one_line, all_lines}
use Rattle.answer_text.proofs.half_edges.put_halves.Goals as goal

pub loop-h-preserved : goal.loop-h-preserved
loop-h-preserved c =
    one_line c.args.tri.now.halves c.loop-h.h c.half.result.now c.args.out.now.items c.loop-h.out.items c.put_half.new.out.items
    (omega arith) c.half.ensures c.loop-h.invariant c.in_ok-put_half.ensures

pub returns : goal.returns
returns c = all_lines c.args.tri.now.halves c.loop-h.h c.args.out.now.items c.loop-h.out.items (omega arith) c.loop-h.invariant
