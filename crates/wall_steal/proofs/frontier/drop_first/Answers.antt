use Rattle.std.proofs.Common.{◌≡◌, ◌+◌, ◌∙◌, suc, ap, drop, arith}
use Rattle.wall_steal.proofs.Each.{drop_one}
use Rattle.wall_steal.proofs.frontier.drop_first.Goals as goal

pub loop-i-preserved : goal.loop-i-preserved
loop-i-preserved g c =
    let next : suc c.loop-i._i ≡ c.loop-i._i + 1 = omega arith in
    c.pop_front.ensures.rest ∙ ap (λ l. drop 1 l) c.loop-i.invariant ∙ drop_one c.loop-i._i c.args.frontier.now.items ∙ ap (λ n. drop n c.args.frontier.now.items) next
