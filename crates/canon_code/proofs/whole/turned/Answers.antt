use Rattle.std.proofs.Common.{rules, refl, ap, ◌∙◌}
use Rattle.std.specs.Prelude.{neg_ℤ, FitsSigned}
use Rattle.std.specs.Int.{w128}
use Rattle.std.proofs.lemmas.Int.{to_z-of_z}
use Rattle.canon_code.proofs.WholeFrames.{turned_frame}
use Rattle.canon_code.proofs.whole.turned.Goals as goal

pub returns-clause-frame : goal.returns-clause-frame
returns-clause-frame c = λ halves h is.
    let fits : FitsSigned w128 c.args.frame.norm = search rules in
    turned_frame c.args.f.now halves h c.args.frame _ refl refl (to_z-of_z w128 c.in_ok-norm.norm (let k : FitsSigned w128 c.in_ok-norm.norm = search rules in k) ∙ c.in_ok-norm.ensures.1 ∙ ap neg_ℤ (to_z-of_z w128 c.args.frame.norm fits)) c.in-Ok.ensures.exact is
