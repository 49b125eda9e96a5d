use Rattle.std.proofs.Common.{◌<◌, ◌∙◌, length, sym, ap, arith}
use Rattle.wall_steal.proofs.Each.{at_read, is_equal}
use Rattle.wall_steal.proofs.frontier.place_of_walls.Goals as goal

pub returns-then-eq : goal.returns-then-eq
returns-then-eq g c =
    let laws = g.met.T.Terrain g.world.𝓛 g.world.𝓜 g.world.𝓡 ((λ s x. x), (λ x. x), (λ x. x), λ x. x) in
    let numbers = g.T.Key.Numbers.numbers in
    let items = c.args.frontier.now.items in
    let within : c.loop-i.i < length items = (let t = c.loop-i-test.true in let v = c.args.frontier.now.ok in let e = c.len-i-end.ensures in omega arith) in
    let tied = sym c.compare.ensures ∙ is_equal c.compare.result (sym c.if-eq.true ∙ c.eq.ensures) in
    (c.index.result.now, at_read items c.loop-i.i c.index.result.now within c.index.ensures, ap numbers (sym c.deref.ensures) ∙ laws.order_exact (numbers c.deref.result.now) (numbers c.args.key.now) tied)
