use Rattle.std.proofs.Common.{arith, rules, refl, subst}
use Rattle.std.proofs.lemmas.Int.{ints, to_z-of_z}
use Rattle.quad_field.specs.FieldNumber.{IsFieldNumber}
use Rattle.quad_field.specs.Quads.{IsPositive, IsZero}
use Rattle.quad_field.proofs.Signs.{else_negative}
use Rattle.quad_field.proofs.field.Field.sign.Goals as goal
use Rattle.quad_field.proofs.field.Field.sign.Goals.{else-x-eq0-via-then-x-eq0+else-x-eq0-2, else-x-eq0-via-else-x-eq0}

pub returns-else-is_positive-clause-minus : goal.returns-else-is_positive-clause-minus
returns-else-is_positive-clause-minus c =
    let field : IsFieldNumber c.args.self.now = subst IsFieldNumber c.self.view_is c.self.invariant in
    let some : ¬ (IsZero c.args.x) =
    λ z. elim c.else-x-eq0.branch [ else-x-eq0-via-then-x-eq0+else-x-eq0-2 w ↦ omega (arith, ints, z.1) | else-x-eq0-via-else-x-eq0 w ↦ omega (arith, ints, z.0) ] in
    let other : ¬ (IsPositive c.args.self.now c.args.x) = search (rules, to_z-of_z) in
    (λ _. else_negative c.args.self.now c.args.x field some other, λ _. refl)

pub returns-else-is_positive-clause-sign : goal.returns-else-is_positive-clause-sign
returns-else-is_positive-clause-sign c = (returns-else-is_positive-clause-minus c).0 refl
