use Rattle.std.proofs.Common.{ap, ◌∙◌}
use Rattle.std.specs.Prelude.{◌*ℤ◌}
use Rattle.std.specs.Int.{w128}
use Rattle.std.proofs.lemmas.Int.{to_z-of_z}
use Rattle.quad_field.specs.declared.quad.Quad.{Quad}
use Rattle.canon_code.proofs.Divisors.{quotient_divides}
use Rattle.canon_code.proofs.whole.divides.Goals as goal

pub returns-in-Some : goal.returns-in-Some
returns-in-Some c = λ _.
    let y = c.in-Some._multiple in (
      quotient_divides c.args.x.a y.a c.args.g (ap (λ (z : Quad). z.a) c.in-Some.ensures.some ∙ ap (λ z. y.a *ℤ z) (to_z-of_z w128 c.args.g c.ranges.g)),
      quotient_divides c.args.x.b y.b c.args.g (ap (λ (z : Quad). z.b) c.in-Some.ensures.some ∙ ap (λ z. y.b *ℤ z) (to_z-of_z w128 c.args.g c.ranges.g)),
    )
