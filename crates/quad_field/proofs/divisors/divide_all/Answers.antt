use Rattle.std.proofs.Common.{rules, to_z, of_z, get_or, length, ◌<◌, arith, ap, sym, subst, ◌∙◌}
use Rattle.std.specs.Prelude.{pos, ◌*ℤ◌, map, unsigned_abs, FitsSigned}
use Rattle.std.specs.Int.{w128}
use Rattle.std.proofs.lemmas.Int.{to_z-of_z}
use Prim.Native.Nat.{◌∣◌}
use native.Mathlib.Nat.{le_refl}
use Rattle.quad_field.specs.Quads.{quad, scaled}
use Rattle.quad_field.proofs.Contents.{all_once, divided_more, divided_none}
use Rattle.quad_field.proofs.divisors.divide_all.Goals as goal

pub returns-then-g-eq1 : goal.returns-then-g-eq1
returns-then-g-eq1 c = all_once c.args.nums.now ∙ ap (λ g. map (scaled (pos g)) c.args.nums.now) (sym c.if-g-eq1.true)

pub loop-x-init : goal.loop-x-init
loop-x-init c = divided_none c.args.g c.args.nums.now c.requires.divides

pub quotient-requires-clause-divides : goal.quotient-requires-clause-divides
quotient-requires-clause-divides c =
    let x = get_or c.loop-x.nums c.loop-x.x-index (quad (pos 0) (pos 0)) in
    let f : FitsSigned w128 x.a = search rules in
    let inside : c.loop-x.x-index < length c.loop-x.nums = omega (arith, c.loop-x.auto.nums, c.loop-x-test.true) in
    subst (λ z. c.args.g ∣ unsigned_abs z) (sym (to_z-of_z w128 x.a f))
    (c.loop-x.invariant.rest c.loop-x.x-index (quad (pos 0) (pos 0)) (le_refl c.loop-x.x-index) inside).0

pub quotient-requires-in-loop-x-clause-divides : goal.quotient-requires-in-loop-x-clause-divides
quotient-requires-in-loop-x-clause-divides c =
    let x = get_or c.loop-x.nums c.loop-x.x-index (quad (pos 0) (pos 0)) in
    let f : FitsSigned w128 x.b = search rules in
    let inside : c.loop-x.x-index < length c.loop-x.nums = omega (arith, c.loop-x.auto.nums, c.loop-x-test.true) in
    subst (λ z. c.args.g ∣ unsigned_abs z) (sym (to_z-of_z w128 x.b f))
    (c.loop-x.invariant.rest c.loop-x.x-index (quad (pos 0) (pos 0)) (le_refl c.loop-x.x-index) inside).1

pub loop-x-preserved : goal.loop-x-preserved
loop-x-preserved c =
    let x = get_or c.loop-x.nums c.loop-x.x-index (quad (pos 0) (pos 0)) in
    let g = c.args.g in
    let f : FitsSigned w128 x.a = search rules in
    let h : FitsSigned w128 x.b = search rules in
    let p : FitsSigned w128 c.quotient.result = search rules in
    let q : FitsSigned w128 c.quotient-in-loop-x.result = search rules in
    let inside : c.loop-x.x-index < length c.loop-x.nums = omega (arith, c.loop-x.auto.nums, c.loop-x-test.true) in
    divided_more g c.args.nums.now c.loop-x.nums c.loop-x.x-index
    (quad (to_z w128 (of_z w128 c.quotient.result)) (to_z w128 (of_z w128 c.quotient-in-loop-x.result))) (quad (pos 0) (pos 0)) inside
    (sym (to_z-of_z w128 x.a f) ∙ c.quotient.ensures ∙ ap (λ n. n *ℤ pos g) (sym (to_z-of_z w128 c.quotient.result p)))
    (sym (to_z-of_z w128 x.b h) ∙ c.quotient-in-loop-x.ensures ∙ ap (λ n. n *ℤ pos g) (sym (to_z-of_z w128 c.quotient-in-loop-x.result q)))
    c.loop-x.invariant
