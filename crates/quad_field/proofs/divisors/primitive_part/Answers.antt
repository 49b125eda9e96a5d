use Rattle.std.proofs.Common.{arith, ◌≡◌, subst}
use Rattle.quad_field.specs.Content.{DividesAll}
use Rattle.quad_field.proofs.Contents.{all_once, all_zero, primitive_left}
use Rattle.quad_field.proofs.divisors.primitive_part.Goals as goal

pub returns-then-g-gt0-clause-primitive : goal.returns-then-g-gt0-clause-primitive
returns-then-g-gt0-clause-primitive c some =
    primitive_left c.content-g.result c.args.numbers.now c.divide_all.new.nums (omega (arith, c.if-g-gt0.true)) c.content-g.ensures.greatest c.divide_all.ensures

pub returns-else-g-gt0-clause-taken_out : goal.returns-else-g-gt0-clause-taken_out
returns-else-g-gt0-clause-taken_out c = (1, omega arith, all_once c.args.numbers.now)

pub returns-else-g-gt0-clause-primitive : goal.returns-else-g-gt0-clause-primitive
returns-else-g-gt0-clause-primitive c some =
    let none : c.content-g.result ≡ 0 = omega (arith, c.if-g-gt0.false) in
    absurd (some (all_zero c.args.numbers.now (subst (λ g. DividesAll g c.args.numbers.now) none c.content-g.ensures.divides)))
