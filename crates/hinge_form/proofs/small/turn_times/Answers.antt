use Rattle.std.proofs.Common.{◌∙◌, ap}
use Rattle.std.specs.Prelude.{◌*ℤ◌}
use Rattle.hinge_form.proofs.SmallHinges.{weight_stands}
use Rattle.hinge_form.proofs.small.turn_times.Goals as goal

pub returns-clause-exact : goal.returns-clause-exact
returns-clause-exact c =
    let w = c.args.w in
    let turn = c.turn-turn in
    let s = (weight_stands turn.result w.s turn.ensures.within c.requires.third.0).exact ∙ ap (λ n. n *ℤ w.s) turn.ensures.exact in
    let t = (weight_stands turn.result w.t turn.ensures.within c.requires.third.1).exact ∙ ap (λ n. n *ℤ w.t) turn.ensures.exact in
    λ i. (s i, t i)

pub returns-clause-within : goal.returns-clause-within
returns-clause-within c =
    let w = c.args.w in
    let turn = c.turn-turn in
    ((weight_stands turn.result w.s turn.ensures.within c.requires.third.0).within, (weight_stands turn.result w.t turn.ensures.within c.requires.third.1).within)
