use Rattle.std.proofs.Common.{refl}
use Rattle.hinge_form.proofs.triples.weigh.Goals as goal

pub returns-clause-fits : goal.returns-clause-fits
returns-clause-fits c =
    (λ _. (c.in_ok-turn_times.ensures.fits.0 refl, c.in_ok-turn_times-2.ensures.fits.0 refl, c.in_ok-turn_times-3.ensures.fits.0 refl), λ _. refl)
