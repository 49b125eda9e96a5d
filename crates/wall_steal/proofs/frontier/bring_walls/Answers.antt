use Rattle.std.proofs.Common.{◌∙◌, sym, ap, subst}
use Rattle.terrain.specs.Places.{IsAt}
use Rattle.wall_steal.proofs.Each.{at_drop}
use Rattle.wall_steal.proofs.frontier.bring_walls.Goals as goal

pub returns-in-Some-clause-first : goal.returns-in-Some-clause-first
returns-in-Some-clause-first g c =
    let there = c.in-Some.ensures in
    (there.0, subst (λ l. IsAt l 0 there.0) (sym c.drop_first.ensures) (at_drop c.in-Some.place c.args.frontier.now.items there.0 there.1), there.2 ∙ ap g.T.Key.Numbers.numbers c.deref.ensures)
