use Rattle.std.proofs.Common.{◌≡◌, ◌+◌, ℕ, length, sym, subst, arith}
use Rattle.hinge_form.specs.Triples.{of_form}
use Rattle.parabola_region.specs.Different.{AreOwns}
use Rattle.parabola_region.proofs.DifferentForms.{owns_none, owns_more}
use Rattle.parabola_region.proofs.wall_list.owns_of.Goals as goal

pub loop-i-init : goal.loop-i-init
loop-i-init c =
    subst (AreOwns c.args.f.now (of_form c.args.line.now) c.args.forms.now 0) (sym c.new-owns.ensures.items) (owns_none c.args.f.now (of_form c.args.line.now) c.args.forms.now)

pub loop-i-preserved : goal.loop-i-preserved
loop-i-preserved c =
    subst (AreOwns c.args.f.now (of_form c.args.line.now) c.args.forms.now (c.loop-i.i + 1)) (sym c.in_ok-push.ensures.items)
    (owns_more c.args.f.now (of_form c.args.line.now) c.args.forms.now c.loop-i.i c.loop-i.owns.items c.in_ok-own.own c.loop-i.invariant c.in_ok-own.ensures.own)

pub returns-clause-owns : goal.returns-clause-owns
returns-clause-owns c =
    let e : c.loop-i.i ≡ length c.args.forms.now = omega (arith, c.loop-i.auto.i-end, c.loop-i-test.false) in
    subst (λ (n : ℕ). AreOwns c.args.f.now (of_form c.args.line.now) c.args.forms.now n c.loop-i.owns.items) e c.loop-i.invariant
