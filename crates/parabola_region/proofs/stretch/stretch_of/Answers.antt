use Rattle.std.proofs.Common.{◌≡◌, ℕ, length, subst, arith}
use Rattle.hinge_form.specs.Triples.{of_form, of_place}
use Rattle.parabola_region.specs.Stretches.{IsStretch}
use Rattle.parabola_region.proofs.stretch.stretch_of.Goals as goal

pub returns-clause-stretch : goal.returns-clause-stretch
returns-clause-stretch c =
    let e : c.loop-i.i ≡ length c.args.forms.now = omega (arith, c.loop-i.auto.i-end, c.loop-i-test.false) in
    subst (λ (n : ℕ). IsStretch c.args.f.now (of_form c.args.line.now) (of_place c.args.start.now) c.args.forms.now n c.loop-i.stretch) e c.loop-i.invariant
