use Rattle.std.proofs.Common.{refl, false}
use Rattle.std.proofs.lemmas.Bool.{both_ways}
use Rattle.ear_cut.proofs.Widths.{det_fits}
use Rattle.ear_cut.proofs.ear_search.is_left.Goals as goal

pub unreachable-requires : goal.unreachable-requires
unreachable-requires c = absurd (both_ways false refl (c.in-Err.ensures.fits.1 (det_fits c.args.f.now c.requires.field c.args.u.now c.args.v.now c.requires.first c.requires.second)))
