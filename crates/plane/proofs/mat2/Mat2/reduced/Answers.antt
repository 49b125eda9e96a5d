use Rattle.std.proofs.Common.{rules, ◌≡◌, length, of_z, to_z, subst, sym}
use Rattle.std.specs.Prelude.{ℕ, ℤ, pos, ◌<ℤ◌, unsigned_abs, FitsSigned}
use Rattle.std.specs.Int.{w128}
use Rattle.std.proofs.lemmas.Int.{to_z-of_z}
use Prim.Native.Nat.{◌∣◌}
use Rattle.quad_field.specs.Content.{DividesAll, IsCancelled}
use Rattle.plane.proofs.LowestTerms.{four_entries, absolute, lowest_terms, reduced_rows}
use Rattle.plane.proofs.mat2.Mat2.reduced.Goals as goal

pub invariant_of-result : goal.invariant_of-result
invariant_of-result c =
    let n = c.reduce.new.nums in
    let den : ℤ = to_z w128 (of_z w128 c.reduce.new.den) in
    let four : length n ≡ 4 = search rules in
    let fits : FitsSigned w128 c.reduce.new.den = search rules in
    let is : c.reduce.new.den ≡ den = sym (to_z-of_z w128 c.reduce.new.den fits) in
    let some : pos 0 <ℤ den = subst (λ (d : ℤ). pos 0 <ℤ d) is c.reduce.ensures.positive in (
      four_entries n four,
      absolute den some,
      lowest_terms n den four some (subst (λ (d : ℤ). (k : ℕ) → DividesAll k n → k ∣ unsigned_abs d → k ≡ 1) is c.reduce.ensures.reduced),
    )

pub returns-clause-value : goal.returns-clause-value
returns-clause-value c =
    let n = c.reduce.new.nums in
    let den : ℤ = to_z w128 (of_z w128 c.reduce.new.den) in
    let four : length n ≡ 4 = search rules in
    let fits : FitsSigned w128 c.reduce.new.den = search rules in
    let is : c.reduce.new.den ≡ den = sym (to_z-of_z w128 c.reduce.new.den fits) in
    let some : pos 0 <ℤ den = subst (λ (d : ℤ). pos 0 <ℤ d) is c.reduce.ensures.positive in
    let given : to_z w128 (of_z w128 c.args.den) ≡ c.args.den = to_z-of_z w128 c.args.den c.ranges.den in
    reduced_rows c.args.n n c.args.den den four some
    (subst (λ (d : ℤ). IsCancelled c.args.n c.args.den n d) is (subst (λ (d : ℤ). IsCancelled c.args.n d n c.reduce.new.den) given c.reduce.ensures.same))

pub returns-clause-lowest : goal.returns-clause-lowest
returns-clause-lowest c =
    let n = c.reduce.new.nums in
    let den : ℤ = to_z w128 (of_z w128 c.reduce.new.den) in
    let four : length n ≡ 4 = search rules in
    let fits : FitsSigned w128 c.reduce.new.den = search rules in
    let is : c.reduce.new.den ≡ den = sym (to_z-of_z w128 c.reduce.new.den fits) in
    let some : pos 0 <ℤ den = subst (λ (d : ℤ). pos 0 <ℤ d) is c.reduce.ensures.positive in
    lowest_terms n den four some (subst (λ (d : ℤ). (k : ℕ) → DividesAll k n → k ∣ unsigned_abs d → k ≡ 1) is c.reduce.ensures.reduced)
