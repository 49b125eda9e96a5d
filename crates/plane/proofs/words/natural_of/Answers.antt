use Rattle.std.proofs.Common.{refl, arith}
use Rattle.plane.proofs.Naturals.{not_natural, not_natural_at, so_far_more, so_far_all}
use Rattle.plane.proofs.words.natural_of.Goals as goal

pub returns-then-is_empty : goal.returns-then-is_empty
returns-then-is_empty c = not_natural _ (λ is. absurd (grind (arith, is.some)))

pub returns-then-has_leading_zero : goal.returns-then-has_leading_zero
returns-then-has_leading_zero c = not_natural _ (λ is.
    let zero = c.if-has_leading_zero.ensures.0 refl in
    let one = is.first zero.0 in
    absurd (omega (arith, one, zero.1)))

pub returns-then-not-is_ascii_digit : goal.returns-then-not-is_ascii_digit
returns-then-not-is_ascii_digit c =
    not_natural_at _ c.loop-byte.byte-index c.loop-byte-test.true (λ digit. let refused = c.if-not-is_ascii_digit.ensures.cases in grind (arith, refused, digit))

pub loop-byte-preserved : goal.loop-byte-preserved
loop-byte-preserved c =
    so_far_more _ _ _ _ c.loop-byte-test.true c.if-not-is_ascii_digit.ensures.bound c.with_digit-value.ensures c.loop-byte.invariant

pub returns-in-Some : goal.returns-in-Some
returns-in-Some c =
    let so_far = rw c.in-Some.is at c.loop-byte.invariant in
    so_far_all _ _ _ c.loop-byte-test.false (grind arith) (λ zero. grind (arith, zero)) so_far

pub returns-in-None : goal.returns-in-None
returns-in-None c =
    let so_far = rw c.in-None.is at c.loop-byte.invariant in
    so_far_all _ _ _ c.loop-byte-test.false (grind arith) (λ zero. grind (arith, zero)) so_far
