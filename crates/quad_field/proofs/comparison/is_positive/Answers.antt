use Rattle.std.proofs.Common.{arith, ◌↔◌, IsTrue, pos, ◌<ℤ◌, ap, ◌∙◌}
use mathlib.Core.Path.{subst₂}
use Rattle.std.proofs.lemmas.Int.{ints, to_z-of_z}
use mir.Syntax.{w128}
use Rattle.std.specs.Prelude.{unsigned_abs}
use Rattle.quad_field.specs.Fraction.{IsBelowRoot}
use Rattle.quad_field.proofs.Signs.{first_case}
use Rattle.quad_field.proofs.comparison.is_positive.Goals as goal
use Rattle.quad_field.proofs.comparison.is_positive.Goals.{else-a-ge0-via-then-a-ge0+else-b-ge0, else-a-ge0-via-else-a-ge0}

pub returns-then-a-gt0-2 : goal.returns-then-a-gt0-2
returns-then-a-gt0-2 c =
    let plus : pos 0 <ℤ c.args.a = omega (arith, ints, c.if-a-gt0-2.true) in
    let negative : c.args.b <ℤ pos 0 =
    elim c.else-a-ge0.branch [ else-a-ge0-via-then-a-ge0+else-b-ge0 w ↦ omega (arith, ints) | else-a-ge0-via-else-a-ge0 w ↦ omega (arith, ints) ] in
    first_case c.args.d c.requires c.args.a c.args.b plus negative c.is_below_root-below.result
    (subst₂ (λ m n. IsTrue c.is_below_root-below.result ↔ IsBelowRoot c.args.d m n)
    (c.unsigned_abs.ensures.value ∙ ap unsigned_abs (to_z-of_z w128 c.args.a c.ranges.a))
    (c.unsigned_abs-2.ensures.value ∙ ap unsigned_abs (to_z-of_z w128 c.args.b c.ranges.b)) c.is_below_root-below.ensures)
