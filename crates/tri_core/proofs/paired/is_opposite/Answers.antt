use Rattle.std.proofs.Common.{sym, ◌∙◌}
use Rattle.tri_core.proofs.Vectors.{vectors_decide}
use Rattle.tri_core.proofs.paired.is_opposite.Goals as goal

pub returns-in-Ok : goal.returns-in-Ok
returns-in-Ok c =
    let same = vectors_decide c.args.v c.in-Ok.back in
    let exact = c.in-Ok.ensures.exact in
    (λ yes. same.0 (sym c.eq.ensures ∙ yes) ∙ exact, λ e. c.eq.ensures ∙ same.1 (e ∙ sym exact))
