use Rattle.std.proofs.Common.{rules, ℕ, subst, ◌∙◌, to_z, of_z}
use Rattle.std.specs.Prelude.{FitsSigned}
use Rattle.std.specs.Int.{w64, w128}
use Rattle.std.proofs.lemmas.Int.{to_z-of_z}
use Rattle.canon_code.specs.declared.small.SmallFrame.{SmallFrame}
use Rattle.canon_code.specs.Small.{quad_of, vector_of, IsSmallFrame}
use Rattle.canon_code.proofs.SmallFrames.{small_is}
use Rattle.canon_code.proofs.small.small_of.Goals as goal

pub returns : goal.returns
returns c =
    let fits : FitsSigned w64 c.in_ok-narrowed.narrowed = search rules in
    let small : SmallFrame = record { e = c.in_ok-first.first; g = c.in_ok-second.second; divisor = to_z w64 (of_z w64 c.in_ok-narrowed.narrowed) } in
    subst (λ (n : ℕ). IsSmallFrame n c.args.frame.now c.args.divisor small) c.number-d.ensures.number
    (small_is c.number-d.result c.args.frame.now c.args.divisor small (quad_of c.in_ok-conjugate.conjugate) (vector_of c.in_ok-e.e) (vector_of c.in_ok-g.g)
    c.in_ok-conjugate.ensures c.in_ok-e.ensures c.in_ok-g.ensures
    c.in_ok-first.ensures.first c.in_ok-first.ensures.second c.in_ok-second.ensures.first c.in_ok-second.ensures.second
    (to_z-of_z w64 c.in_ok-narrowed.narrowed fits ∙ c.in_ok-narrowed.ensures ∙ to_z-of_z w128 c.args.divisor c.ranges.divisor))
