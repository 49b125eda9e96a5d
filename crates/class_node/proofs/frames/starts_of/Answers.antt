use Rattle.std.proofs.Common.{◌≡◌, List, subst}
use Rattle.std.specs.Prelude.{ℤ}
use Rattle.std.specs.Coded.{Coded-set, coded_list, coded_ℤ}
use mathlib.Core.Logic.{∥∥₁_elim}
use Rattle.canon_code.specs.Codes.{IsCode, AreStarts}
use Rattle.canon_code.proofs.CallerLemmas.{code_once}
use Rattle.class_node.proofs.frames.starts_of.Goals as goal

pub returns-in-Ok-clause-starts : goal.returns-in-Ok-clause-starts
returns-in-Ok-clause-starts c =
    let code : List ℤ = c.in-Ok.canon.code in
    let same : code ≡ c.args.code.now =
    ∥∥₁_elim c.requires.code (Coded-set (coded_list coded_ℤ) code c.args.code.now) (λ (own : IsCode c.args.f.now c.args.tri.now.halves c.args.code.now).
    code_once c.args.f.now c.args.tri.now.halves code c.args.code.now c.in-Ok.ensures.code own) in
    subst (λ (l : List ℤ). AreStarts c.args.f.now c.args.tri.now.halves l c.in-Ok.canon.starts.items) same c.in-Ok.ensures.starts
