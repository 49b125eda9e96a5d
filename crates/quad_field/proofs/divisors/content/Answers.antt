use Rattle.std.proofs.Common.{rules, get_or, ap, subst, ◌∙◌}
use Rattle.std.specs.Prelude.{pos, unsigned_abs, FitsSigned}
use Rattle.std.specs.Int.{w128}
use Rattle.std.proofs.lemmas.Int.{to_z-of_z}
use Rattle.quad_field.specs.Quads.{quad}
use Rattle.quad_field.proofs.Contents.{IsContentTo, content_more, one_divides, one_is_content}
use Rattle.quad_field.proofs.divisors.content.Goals as goal

pub loop-x-preserved : goal.loop-x-preserved
loop-x-preserved c =
    let x = get_or c.args.list.now c.loop-x.x-index (quad (pos 0) (pos 0)) in
    let f : FitsSigned w128 x.a = search rules in
    let g : FitsSigned w128 x.b = search rules in
    content_more c.args.list.now c.loop-x.x-index c.loop-x.g c.gcd-parts.result c.gcd-g.result c.unsigned_abs.result c.unsigned_abs-in-loop-x.result
    (quad (pos 0) (pos 0)) c.loop-x-test.true (c.unsigned_abs.ensures.value ∙ ap unsigned_abs (to_z-of_z w128 x.a f))
    (c.unsigned_abs-in-loop-x.ensures.value ∙ ap unsigned_abs (to_z-of_z w128 x.b g)) c.loop-x.invariant c.gcd-parts.ensures c.gcd-g.ensures

pub returns-then-g-eq1-clause-divides : goal.returns-then-g-eq1-clause-divides
returns-then-g-eq1-clause-divides c = one_divides c.args.list.now

pub returns-then-g-eq1-clause-greatest : goal.returns-then-g-eq1-clause-greatest
returns-then-g-eq1-clause-greatest c =
    one_is_content c.args.list.now c.loop-x.x-index c.loop-x-test.true (subst (IsContentTo c.args.list.now c.loop-x.x-index) c.if-g-eq1.true c.loop-x.invariant)
