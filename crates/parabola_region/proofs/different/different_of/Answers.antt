use Rattle.std.proofs.Common.{rules, ◌≡◌, ℕ, List, [], length, sym, subst, arith}
use mathlib.Core.Path.{subst₂}
use Rattle.parabola_region.specs.declared.hinge_list.Hinge.{Hinge}
use Rattle.parabola_region.specs.Different.{AreDifferent}
use Rattle.parabola_region.proofs.DifferentForms.{different_none}
use Rattle.parabola_region.proofs.different.different_of.Goals as goal

pub loop-k-init : goal.loop-k-init
loop-k-init c =
    let second : c.in_ok-places.places.items ≡ [] = search rules in
    subst₂ (λ (x : List Hinge) (y : List ℕ). AreDifferent c.args.forms.now x y 0) (sym c.new-firsts.ensures.items) (sym second) (different_none c.args.forms.now)

pub returns : goal.returns
returns c =
    let e : c.loop-k.k ≡ length c.args.forms.now = omega (arith, c.loop-k.auto.k-end, c.loop-k-test.false) in
    subst (AreDifferent c.args.forms.now c.loop-k.firsts.items c.loop-k.places.items) e c.loop-k.invariant
