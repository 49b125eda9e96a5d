use Rattle.std.proofs.Common.{false, refl}
use Rattle.std.proofs.lemmas.Bool.{both_ways}
use Rattle.gluing.proofs.Widths.{inner_fits}
use Rattle.gluing.proofs.vectors.point_alike.Goals as goal

-- An inner product of bounded vectors isn't wide.
pub unreachable-requires : goal.unreachable-requires
unreachable-requires c =
    both_ways false refl (c.in-Err.ensures.fits.1 (inner_fits c.args.f.now c.args.u.now c.args.v.now c.number-number.ensures.valid.1 c.requires.first c.requires.second))
