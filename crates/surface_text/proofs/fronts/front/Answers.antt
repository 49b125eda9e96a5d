use Rattle.std.proofs.Common.{sym, arith}
use Rattle.surface_text.proofs.Stops.{front_here, front_all}
use Rattle.surface_text.proofs.fronts.front.Goals as goal

pub returns-then-byte-stop : goal.returns-then-byte-stop
returns-then-byte-stop c =
    front_here c.args.stop c.loop-i.i c.args.bytes.now _ _ c.loop-i-test.true c.loop-i.invariant c.if-byte-stop.true
    (sym c.split_at.ensures.front) (sym c.split_at.ensures.back)

pub returns : goal.returns
returns c =
    front_all c.args.stop c.loop-i.i _ c.args.bytes.now _ _ c.loop-i-test.false c.loop-i.invariant (omega arith)
    (sym c.split_at-2.ensures.front) (sym c.split_at-2.ensures.back)
