use Rattle.std.proofs.Common.{arith}
use Rattle.std.proofs.lemmas.Result.{err_from_is_err_and}
use Rattle.veech_cli.proofs.Grouped.{turns_pushed, turn_refuses, read_at}
use Rattle.veech_cli.proofs.turns.turns_of.Goals as goal

pub returns-in_err-turns_of_code : goal.returns-in_err-turns_of_code
returns-in_err-turns_of_code c =
    let p = err_from_is_err_and c.from_residual-in_err-turns_of_code.result c.from_residual-in_err-turns_of_code.ensures.1 in
    rw (p.1, p.2) (tt, turn_refuses c.args.terrain.now c.args.codes.now c.loop-i.i c.index-codes-i.result (read_at c.args.codes.now c.loop-i.i c.index-codes-i.result (omega arith) c.index-codes-i.is) c.in_err-turns_of_code.field-0.0.status c.in_err-turns_of_code.ensures.refused)

pub loop-i-preserved : goal.loop-i-preserved
loop-i-preserved c =
    rw c.in_ok-push.ensures.items (turns_pushed (λ v. v.items) c.args.terrain.now c.args.codes.now c.loop-i.turns.items c.in_ok-turns_of_code.turns_of_code c.loop-i.i c.index-codes-i.result c.loop-i.invariant
    (read_at c.args.codes.now c.loop-i.i c.index-codes-i.result (omega arith) c.index-codes-i.is) c.in_ok-turns_of_code.ensures.turns)
