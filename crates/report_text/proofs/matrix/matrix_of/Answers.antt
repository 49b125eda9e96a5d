use Rattle.std.proofs.Common.{◌≡◌, refl, arith}
use Rattle.report_text.specs.Limits.{IsMatrixLine}
use Rattle.report_text.proofs.MatrixLines.{no_iff, no_denominator, no_zero, over, under}
use Rattle.report_text.proofs.matrix.matrix_of.Goals as goal

pub returns-in_err-den : goal.returns-in_err-den
returns-in_err-den c m =
    rw c.from_residual-in_err-den.ensures
    (no_iff (IsMatrixLine c.args.line.now)
    (no_denominator c.args.line.now c.in_ok-n.n c.in_ok-n.word.now c.in_ok-n.ensures (λ k is. let some = (c.in_err-den.ensures k).1 is in absurd (cc))) m)

pub lowest-requires-clause-within : goal.lowest-requires-clause-within
lowest-requires-clause-within c = let is = (c.in_ok-den.ensures c.in_ok-den.den).0 refl in is.1

pub returns-then-den-eq0 : goal.returns-then-den-eq0
returns-then-den-eq0 c m =
    let is = (c.in_ok-den.ensures c.in_ok-den.den).0 refl in
    let zero : c.in_ok-den.den ≡ 0 = omega arith in
    no_iff (IsMatrixLine c.args.line.now) (no_zero c.args.line.now c.in_ok-n.n c.in_ok-n.word.now c.in_ok-n.ensures c.in_ok-den.den is.0 is.1 zero) m

pub returns-else-den-eq0 : goal.returns-else-den-eq0
returns-else-den-eq0 c m =
    let is = (c.in_ok-den.ensures c.in_ok-den.den).0 refl in
    let iff = c.lowest.ensures m in (
      λ e. over c.args.line.now c.in_ok-n.n c.in_ok-n.word.now c.in_ok-n.ensures c.in_ok-den.den is.0 is.1 m (iff.0 e),
      λ line. iff.1 (under c.args.line.now c.in_ok-n.n c.in_ok-n.word.now c.in_ok-n.ensures c.in_ok-den.den is.0 is.1 m line),
    )
