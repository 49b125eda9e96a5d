use Rattle.std.proofs.Common.{refl}
use Rattle.quad_field.specs.Width.{term_ops}
use Rattle.plane.specs.Vectors.{vector_term}
use Rattle.rings.specs.Forms.{turn_times}
use Rattle.hinge_form.proofs.Widths.{weighted_fits}
use Rattle.hinge_form.proofs.triples.long_way.Goals as goal

pub returns-clause-fits : goal.returns-clause-fits
returns-clause-fits c =
    let a = vector_term c.args.a.now in
    let b = vector_term c.args.c.now in
    let d = vector_term c.args.d.now in
    let w = c.in_ok-weights.weights in
    let fits = c.in_ok-weights.ensures.fits.0 refl in
    let same = weighted_fits c.args.f.now (turn_times term_ops a b d) (turn_times term_ops d b a) (turn_times term_ops a d b) w.d w.a w.c
    c.args.a.now c.args.c.now c.args.d.now fits.0 fits.1 fits.2 c.in_ok-weights.ensures.d c.in_ok-weights.ensures.a c.in_ok-weights.ensures.c in
    ((λ h. same.0 (c.weighted_triple.ensures.fits.0 h)), (λ h. c.weighted_triple.ensures.fits.1 (same.1 h)))
