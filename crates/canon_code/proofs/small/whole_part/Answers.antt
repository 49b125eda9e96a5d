use Rattle.std.proofs.Common.{of_z, ap, ◌∙◌}
use mathlib.Core.Path.{ap₂}
use Rattle.std.specs.Int.{w64}
use Rattle.std.specs.Int.RustNames.{int_rem}
use Rattle.std.proofs.lemmas.Int.{to_z-of_z}
use Rattle.canon_code.proofs.Divisors.{no_multiple}
use Rattle.canon_code.proofs.small.whole_part.Goals as goal

pub returns-else-n-g-eq0-clause-none : goal.returns-else-n-g-eq0-clause-none
returns-else-n-g-eq0-clause-none c =
    no_multiple c.args.n c.args.g (λ e. c.if-n-g-eq0.false (ap (of_z w64) (ap₂ int_rem (to_z-of_z w64 c.args.n c.ranges.n) (to_z-of_z w64 c.args.g c.ranges.g) ∙ e)))
