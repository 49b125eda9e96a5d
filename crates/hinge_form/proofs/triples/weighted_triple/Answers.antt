use Rattle.std.proofs.Common.{refl}
use Rattle.quad_field.specs.Width.{term_ops, number}
use Rattle.rings.specs.Forms.{difference_of_products}
use Rattle.hinge_form.proofs.Widths.{doubled_fits}
use Rattle.hinge_form.proofs.triples.weighted_triple.Goals as goal

pub returns-clause-fits : goal.returns-clause-fits
returns-clause-fits c =
    let x = c.args.x.now in
    let half = difference_of_products term_ops (number x.d.s) (number c.args.d.now.t) (number x.a.s) (number c.args.a.now.t) (number x.c.s) (number c.args.c.now.t) in (
      (λ _. (c.in_ok-alpha.ensures.fits.0 refl, doubled_fits c.args.f.now half c.in_ok-half.half c.in_ok-half.ensures.exact (c.in_ok-half.ensures.fits.0 refl) (c.in_ok-beta.ensures.fits.0 refl), c.in_ok-gamma.ensures.fits.0 refl)),
      (λ _. refl),
    )
