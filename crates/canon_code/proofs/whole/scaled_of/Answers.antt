use Rattle.std.proofs.Common.{rules, ◌≡◌, sym, ap, ◌∙◌, subst, arith}
use mathlib.Core.Path.{subst₂}
use Prim.Native.Nat.{◌∣◌}
use Rattle.std.specs.Prelude.{ℤ, pos, ◌<ℤ◌, ◌*ℤ◌, unsigned_abs, FitsSigned}
use Rattle.std.specs.Int.{w128}
use Rattle.std.specs.declared.cmp.Ordering.TheVariants.{Equal, Greater}
use Rattle.std.proofs.lemmas.Cmp.{int_ranked}
use Rattle.std.proofs.lemmas.Int.{ints, to_z-of_z}
use Rattle.canon_code.specs.Canonical.{number_at}
use Rattle.canon_code.proofs.WholeFrames.{scale_least, after_scale}
use Rattle.canon_code.proofs.whole.scaled_of.Goals as goal

pub scale_number-scale-requires : goal.scale_number-scale-requires
scale_number-scale-requires c = omega (arith, c.requires.long)

pub returns-in-Greater-clause-told : goal.returns-in-Greater-clause-told
returns-in-Greater-clause-told c = λ serial s.
    let norm : ℤ = c.in-Some.frame.norm in
    let g : ℤ = c.divisor_of-divisor.result in
    let q : ℤ = c.quotient.result in
    let norm_fits : FitsSigned w128 norm = search rules in
    let g_fits : FitsSigned w128 g = search rules in
    let q_fits : FitsSigned w128 q = search rules in
    let read_fits : FitsSigned w128 c.scale_number-scale.result = search rules in
    let less : number_at c.args.best.now 1 <ℤ q =
    subst₂ (λ (a b : ℤ). a <ℤ b) (to_z-of_z w128 c.scale_number-scale.result read_fits ∙ c.scale_number-scale.ensures) (to_z-of_z w128 q q_fits)
    (int_ranked _ _ Greater (sym c.in-Greater.is ∙ c.cmp.ensures)) in
    let some : pos 0 <ℤ q = let k = c.requires.scale in omega (arith, ints, k, less) in
    let exact : norm ≡ q *ℤ g = sym (to_z-of_z w128 norm norm_fits) ∙ c.quotient.ensures ∙ ap (λ z. q *ℤ z) (to_z-of_z w128 g g_fits) in
    after_scale c.args.f.now c.args.tri.now.halves c.args.h norm q g c.divisor_of-divisor.ensures.positive exact c.divisor_of-divisor.ensures.bound
    c.args.best.now serial (omega (arith, c.requires.long)) c.requires.first some less s

pub quotient-requires-clause-divides : goal.quotient-requires-clause-divides
quotient-requires-clause-divides c =
    let norm : ℤ = c.in-Some.frame.norm in
    let g : ℤ = c.divisor_of-divisor.result in
    let norm_fits : FitsSigned w128 norm = search rules in
    let g_fits : FitsSigned w128 g = search rules in
    subst₂ (λ (a b : ℤ). unsigned_abs a ∣ unsigned_abs b) (sym (to_z-of_z w128 g g_fits)) (sym (to_z-of_z w128 norm norm_fits)) c.divisor_of-divisor.ensures.divides

pub returns-in-Equal-clause-scaled : goal.returns-in-Equal-clause-scaled
returns-in-Equal-clause-scaled c =
    let norm : ℤ = c.in-Some.frame.norm in
    let g : ℤ = c.divisor_of-divisor.result in
    let q : ℤ = c.quotient.result in
    let scale : ℤ = number_at c.args.best.now 1 in
    let norm_fits : FitsSigned w128 norm = search rules in
    let g_fits : FitsSigned w128 g = search rules in
    let q_fits : FitsSigned w128 q = search rules in
    let read_fits : FitsSigned w128 c.scale_number-scale.result = search rules in
    let same : q ≡ scale =
    subst₂ (λ (a b : ℤ). a ≡ b) (to_z-of_z w128 q q_fits) (to_z-of_z w128 c.scale_number-scale.result read_fits ∙ c.scale_number-scale.ensures)
    (int_ranked _ _ Equal (sym c.in-Equal.is ∙ c.cmp.ensures)) in
    let exact : norm ≡ scale *ℤ g = sym (to_z-of_z w128 norm norm_fits) ∙ c.quotient.ensures ∙ ap (λ z. q *ℤ z) (to_z-of_z w128 g g_fits) ∙ ap (λ (n : ℤ). n *ℤ g) same in
    let read : g ≡ _ = sym (to_z-of_z w128 g g_fits) in
    record {
      inside = c.requires.half;
      frame = c.in-Some.ensures.frame;
      positive = subst (λ z. pos 0 <ℤ z) read c.divisor_of-divisor.ensures.positive;
      some = c.requires.scale;
      norm = exact ∙ ap (λ (n : ℤ). scale *ℤ n) read;
      least = scale_least c.args.f.now c.args.tri.now.halves c.args.h norm scale g c.divisor_of-divisor.ensures.positive exact c.divisor_of-divisor.ensures.bound;
    }
