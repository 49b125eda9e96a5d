use Rattle.std.proofs.Common.{◌≡◌, ℕ, ◌+◌, ◌<◌, List, length, vec_len, sym, ap, subst, ◌∙◌}
use mathlib.Core.Path.{subst₂}
use Rattle.parabola_region.specs.declared.hinge_list.Hinge.{Hinge}
use Rattle.parabola_region.specs.HingeLists.{form_at}
use Rattle.parabola_region.specs.Different.{AreDifferent}
use Rattle.parabola_region.proofs.DifferentForms.{different_more, different_new}
use Rattle.parabola_region.proofs.different.look.Goals as goal

pub returns-in-Some : goal.returns-in-Some
returns-in-Some c =
    subst (λ (xs : List ℕ). AreDifferent c.args.forms.now c.args.firsts.now.items xs (c.args.k + 1)) (sym c.in_ok-push.ensures.items)
    (different_more c.args.forms.now c.args.firsts.now.items c.args.places.now.items c.args.k c.requires.before c.in-Some.place
    (subst (λ (xs : List Hinge). c.in-Some.place < length xs) c.as_slice.ensures.value c.in-Some.ensures.within)
    (subst (λ (xs : List Hinge). form_at xs c.in-Some.place ≡ form_at c.args.forms.now c.args.k) c.as_slice.ensures.value c.in-Some.ensures.same))

pub returns : goal.returns
returns c =
    let size : vec_len c.args.firsts.now ≡ length c.args.firsts.now.items = sym c.as_slice.ensures.len ∙ ap length c.as_slice.ensures.value in
    subst₂ (λ (xs : List Hinge) (ys : List ℕ). AreDifferent c.args.forms.now xs ys (c.args.k + 1)) (sym c.in_ok-push-3.ensures.items) (sym c.in_ok-push-2.ensures.items)
    (different_new c.args.forms.now c.args.firsts.now.items c.args.places.now.items c.args.k c.requires.before c.len.result (c.len.ensures ∙ size))
