use Rattle.std.proofs.Common.{arith, ap, refl, ◌*◌}
use Rattle.quad_field.proofs.Turns.{below_case, above_case, turn_case, next_quotient, sizes, t_fits, never_true}
use Rattle.quad_field.proofs.comparison.+is_below_quotient.Goals as goal

pub returns-in_default : goal.returns-in_default
returns-in_default t c = (λ _. below_case _ _ _ _ _ c.requires.quotient _ _ c.requires.some (omega (arith, c.in_default.ensures, ap (λ x. c.args.q * x) c.from.ensures, c.ranges.p)), λ _. refl)

pub returns-then-p-whole : goal.returns-then-p-whole
returns-then-p-whole t c =
    (λ _. below_case _ _ _ _ _ c.requires.quotient _ _ c.requires.some (omega (arith, c.if-p-whole.true, c.in-Some.ensures, ap (λ x. c.args.q * x) c.from.ensures)), λ _. refl)

pub returns-then-q-rest : goal.returns-then-q-rest
returns-then-q-rest t c =
    (λ y. absurd (never_true y), λ l. absurd (above_case _ _ _ _ _ c.requires.quotient _ _ c.requires.some (omega (arith, c.if-q-rest.true, c.if-p-whole.false, c.in-Some.ensures, ap (λ x. c.args.q * x) c.from.ensures)) l))

pub overflow_mul-next_t : goal.overflow_mul-next_t
overflow_mul-next_t t c = omega (arith, sizes _ _ _ _ _ c.requires.quotient c.requires.field.1, c.requires.field.1)

pub overflow_add-next_t : goal.overflow_add-next_t
overflow_add-next_t t c = omega (arith, sizes _ _ _ _ _ c.requires.quotient c.requires.field.1, c.requires.field.1)

pub overflow_mul-next_t-2 : goal.overflow_mul-next_t-2
overflow_mul-next_t-2 t c = omega (arith, sizes _ _ _ _ _ c.requires.quotient c.requires.field.1, c.requires.field.1)

pub overflow_sub-next_t : goal.overflow_sub-next_t
overflow_sub-next_t t c = t_fits _ _ _ _ _ c.requires.quotient

pub is_below_quotient-requires : goal.is_below_quotient-requires
is_below_quotient-requires t c =
    (omega (arith, c.if-q-rest.false, c.decreases), (c.requires.field, (omega (arith, c.if-p-whole.false), next_quotient _ _ _ _ _ c.requires.quotient)))

pub returns : goal.returns
returns t c =
    turn_case _ _ _ _ _ c.requires.quotient c.requires.field.2 c.requires.field.0 _ _ c.requires.some _ (omega (arith, c.if-p-whole.false))
    (omega (arith, c.if-p-whole.false, c.in-Some.ensures, ap (λ x. c.args.q * x) c.from.ensures)) c.is_below_quotient.result c.is_below_quotient.ensures
