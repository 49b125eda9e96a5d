use Rattle.std.proofs.Common.{◌∙◌, ap, unsigned_abs, w64}
use Rattle.std.proofs.lemmas.Int.{to_z-of_z}
use Rattle.surface_text.proofs.Parts.{lowest_test}
use Rattle.surface_text.proofs.fractions.is_lowest.Goals as goal

pub returns : goal.returns
returns c =
    lowest_test c.args.n c.args.d c.unsigned_abs.result c.unsigned_abs-2.result c.divisor.result
    (c.unsigned_abs.ensures.value ∙ ap unsigned_abs (to_z-of_z w64 c.args.n c.ranges.n))
    (c.unsigned_abs-2.ensures.value ∙ ap unsigned_abs (to_z-of_z w64 c.args.d c.ranges.d)) c.divisor.ensures
