use Rattle.std.proofs.Common.{rules, ◌≡◌}
use Rattle.plane.proofs.LowestTerms.{fields_decide}
use Rattle.plane.proofs.mat2.mat_equal.Goals as goal

pub returns-then-a-b : goal.returns-then-a-b
returns-then-a-b c =
    let same : c.a.inside.den ≡ c.b.inside.den = search rules in
    fields_decide c.a.inside.n c.b.inside.n c.a.inside.den c.b.inside.den c.args.a.now c.args.b.now c.eq.result
    c.a.invariant.0 c.b.invariant.0 c.a.view_is c.b.view_is same c.eq.ensures
