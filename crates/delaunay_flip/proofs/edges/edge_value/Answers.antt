use Rattle.std.proofs.Common.{refl, inl}
use Rattle.std.proofs.lemmas.Bool.{false≢true}
use Rattle.std.proofs.lemmas.Result.{err_from_is_err_and}
use Rattle.delaunay_flip.proofs.Signs.{answer_fits, answer_wide}
use Rattle.delaunay_flip.proofs.edges.edge_value.Goals as goal

pub returns-clause-fits : goal.returns-clause-fits
returns-clause-fits c =
    answer_fits c.args.f.now c.args.tri.now.field c.requires.field c.is_valid.ensures.number c.args.tri.now.halves c.is_valid.ensures.valid c.args.edge c.requires.edge
    c.in_ok-form.form c.in_ok-form.ensures.triple c.args.at.now c.value.result (c.in_ok-form.ensures.fits.0 refl) c.value.ensures.fits

pub returns-clause-wide : goal.returns-clause-wide
returns-clause-wide c =
    answer_wide c.args.f.now c.args.tri.now.field c.requires.field c.is_valid.ensures.number c.args.tri.now.halves c.is_valid.ensures.valid c.args.edge c.requires.edge
    c.in_ok-form.form c.in_ok-form.ensures.triple c.args.at.now c.value.result (c.in_ok-form.ensures.fits.0 refl) c.value.ensures.fits c.value.ensures.wide

pub returns-in_err-form-clause-wide : goal.returns-in_err-form-clause-wide
returns-in_err-form-clause-wide c =
    let p = err_from_is_err_and c.from_residual.result c.from_residual.ensures.1 in
    rw (p.1, p.2, c.in_err-form.ensures.wide) (inl (refl, λ fits. absurd (false≢true (c.in_err-form.ensures.fits.1 fits))))
