use Rattle.std.proofs.Common.{subst}
use Rattle.std.proofs.lemmas.Result.{err_from_is_err_and}
use Rattle.tri_core.specs.Triangulation.{IsTriangulation}
use Rattle.tri_core.specs.Refusals.{IsCause}
use Rattle.tri_core.proofs.Causes.{no_cause, one_cause, not_forced}
use Rattle.tri_core.proofs.tri.Tri.make.Goals as goal

pub returns-in_err-check-clause-accepted : goal.returns-in_err-check-clause-accepted
returns-in_err-check-clause-accepted c = λ valid.
    let p = err_from_is_err_and c.from_residual.result c.from_residual.ensures.1 in
    let cause : IsCause c.args.f.now c.as_slice.result.now c.in_err-check.field-0.0 = c.in_err-check.ensures.cause in
    rw (p.1, p.2) (no_cause c.args.f.now c.args.halves.items c.in_err-check.field-0.0 valid (subst (λ halves. IsCause c.args.f.now halves c.in_err-check.field-0.0) c.as_slice.ensures.value cause))

pub returns-in_err-check-clause-refused : goal.returns-in_err-check-clause-refused
returns-in_err-check-clause-refused c = λ bad forced given.
    let p = err_from_is_err_and c.from_residual.result c.from_residual.ensures.1 in
    let cause : IsCause c.args.f.now c.as_slice.result.now c.in_err-check.field-0.0 = c.in_err-check.ensures.cause in
    rw (p.1, p.2) (one_cause c.args.f.now c.args.halves.items bad c.in_err-check.field-0.0 forced given (subst (λ halves. IsCause c.args.f.now halves c.in_err-check.field-0.0) c.as_slice.ensures.value cause))

pub returns-clause-refused : goal.returns-clause-refused
returns-clause-refused c = λ bad forced given.
    let valid : IsTriangulation c.args.f.now c.as_slice.result.now = c.in_ok-check.ensures.valid in
    not_forced c.args.f.now c.args.halves.items bad (subst (IsTriangulation c.args.f.now) c.as_slice.ensures.value valid) forced given
