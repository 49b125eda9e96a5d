use Rattle.std.proofs.Common.{sym, ◌∙◌}
use Rattle.plane.proofs.Wholes.{spelled}
use Rattle.plane.proofs.Quads.{quad_large, no_whole, no_root}
use Rattle.plane.proofs.words.quad_of.Goals as goal

pub returns-in_default : goal.returns-in_default
returns-in_default c =
    let front = sym c.split_at.ensures.front in
    let back = sym c.split_at.ensures.back in
    let whole = rw c.in_default.is-0 at c.whole_of.ensures in
    let root = rw c.in_default.is-1 at c.read_root.ensures in
    quad_large _ _ c.in_default.field-0-0 root.0 (front ∙ whole.0) (back ∙ root.1) (λ fits. root.2 fits.1)

pub returns-in_default-2 : goal.returns-in_default-2
returns-in_default-2 c =
    let front = sym c.split_at.ensures.front in
    let back = sym c.split_at.ensures.back in
    let whole = rw c.in_default.is-0 at c.whole_of.ensures in
    let root = spelled _ _ c.read_root.ensures c.in_default.not-Not-1 in
    quad_large _ _ whole.0 root.0 (front ∙ whole.1) (back ∙ root.1) (λ fits. whole.2 fits.0)

pub returns-in-Not-default : goal.returns-in-Not-default
returns-in-Not-default c =
    let none = rw c.in-Not-default.is-1 at c.read_root.ensures in
    no_root _ _ c.sign_place-end.ensures (λ n e. none n (c.split_at.ensures.back ∙ e))

pub returns-in-Not-default-2 : goal.returns-in-Not-default-2
returns-in-Not-default-2 c =
    let none = rw c.in-Not-default.is-0 at c.whole_of.ensures in
    no_whole _ _ c.sign_place-end.ensures (λ n e. none n (c.split_at.ensures.front ∙ e))

pub returns-in-Not-default-3 : goal.returns-in-Not-default-3
returns-in-Not-default-3 c =
    let none = rw c.in-Not-default.is-1 at c.read_root.ensures in
    no_root _ _ c.sign_place-end.ensures (λ n e. none n (c.split_at.ensures.back ∙ e))
