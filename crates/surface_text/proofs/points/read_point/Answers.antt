use Rattle.std.proofs.Common.{◌≡◌, Some, ap}
use Rattle.surface_text.proofs.Parts.{base_point}
use Rattle.surface_text.proofs.points.read_point.Goals as goal

pub returns-in-Value : goal.returns-in-Value
returns-in-Value c =
    λ at.
    let is = base_point c.args.text.now c.in-Value.at c.in-Value.ensures (c.is_above.ensures.0 c.if-is_above.true) at in
    (λ some. let same : c.in-Value.at ≡ at = cc in is.0 same, λ base. ap Some (is.1 base))
