use Rattle.std.proofs.Common.{◌≡◌, ◌∙◌, sym, ap, inl}
use Rattle.std.proofs.lemmas.Bool.{false≢true}
use Rattle.std.proofs.lemmas.Result.{err_from_is_err_and}
use Rattle.quotient.proofs.Rows.{formula_is}
use Rattle.quotient.proofs.Values.{value_of_quotient, one_more}
use Rattle.quotient.proofs.quotients.take_quotient.Goals as goal

pub returns-in_err-product-clause-wide : goal.returns-in_err-product-clause-wide
returns-in_err-product-clause-wide c = λ formula e.
    let p = err_from_is_err_and c.from_residual.result c.from_residual.ensures.1 in (
      formula_is c.from_residual.result p.0 c.in_err-product.field-0.0.formula formula p.1 p.2 e ∙ c.in_err-product.ensures.wide,
      inl (λ fits. absurd (false≢true (c.in_err-product.ensures.fits.1 fits))),
    )

pub returns-clause-taken : goal.returns-clause-taken
returns-clause-taken c = λ k qs low inverse values.
    let d = c.args.f.now in
    let x = c.in_ok-quotient.quotient in
    one_more d (record { left = c.args.h.now; middle = c.args.g.now; right = k }) x c.args.list.now.list.items c.take.new.self.list.items c.in_ok-take.ensures.taken
    (value_of_quotient d c.args.h.now c.args.g.now k c.args.i.now c.in_ok-product.product x low inverse
    (c.in_ok-product.ensures.lowest, c.in_ok-product.ensures.product) (c.in_ok-quotient.ensures.lowest, c.in_ok-quotient.ensures.product)) qs values
