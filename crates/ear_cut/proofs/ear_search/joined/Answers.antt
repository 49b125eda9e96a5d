use Rattle.std.proofs.Common.{refl, false}
use Rattle.std.proofs.lemmas.Bool.{both_ways}
use Rattle.ear_cut.proofs.Widths.{sum_fits}
use Rattle.ear_cut.proofs.ear_search.joined.Goals as goal

pub unreachable-requires : goal.unreachable-requires
unreachable-requires c = absurd (both_ways false refl (c.in-Err.ensures.fits.1 (sum_fits c.args.f.now c.args.u.now c.args.v.now c.requires.first c.requires.second)))
