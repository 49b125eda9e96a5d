use Rattle.std.proofs.Common.{sym, ◌∙◌, ◌+◌, arith}
use Rattle.std.proofs.lemmas.List.{take_rest}
use Rattle.plane.proofs.Quads.{quad_spelled}
use Rattle.plane.proofs.Vectors.{vector_wide, no_first, no_second}
use Rattle.plane.proofs.words.vector_of.Goals as goal

pub returns-in_default : goal.returns-in_default
returns-in_default c =
    let within = c.comma_place-end.ensures.within in
    let back = sym (take_rest c.args.word.now (c.comma_place-end.result + 1)) in
    let s = rw c.in_default.is-0 at c.quad_of-s.ensures in
    let t = rw c.in_default.is-1 at c.quad_of-t.ensures in
    vector_wide _ _ c.in_default.field-0-0 t.0 c.comma_place-end.ensures (omega arith) s.0 (back ∙ t.1) (λ fits. t.2 fits.1)

pub returns-in_default-2 : goal.returns-in_default-2
returns-in_default-2 c =
    let within = c.comma_place-end.ensures.within in
    let back = sym (take_rest c.args.word.now (c.comma_place-end.result + 1)) in
    let s = rw c.in_default.is-0 at c.quad_of-s.ensures in
    let t = quad_spelled _ _ c.quad_of-t.ensures c.in_default.not-Not-1 in
    vector_wide _ _ s.0 t.0 c.comma_place-end.ensures (omega arith) s.1 (back ∙ t.1) (λ fits. s.2 fits.0)

pub returns-in-Not-default : goal.returns-in-Not-default
returns-in-Not-default c =
    let none = rw c.in-Not-default.is-1 at c.quad_of-t.ensures in
    no_second _ _ c.comma_place-end.ensures (λ x e. none x (take_rest c.args.word.now (c.comma_place-end.result + 1) ∙ e))

pub returns-in-Not-default-2 : goal.returns-in-Not-default-2
returns-in-Not-default-2 c =
    let none = rw c.in-Not-default.is-0 at c.quad_of-s.ensures in
    no_first _ _ c.comma_place-end.ensures none

pub returns-in-Not-default-3 : goal.returns-in-Not-default-3
returns-in-Not-default-3 c =
    let none = rw c.in-Not-default.is-1 at c.quad_of-t.ensures in
    no_second _ _ c.comma_place-end.ensures (λ x e. none x (take_rest c.args.word.now (c.comma_place-end.result + 1) ∙ e))
