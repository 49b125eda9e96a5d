use Rattle.std.proofs.Common.{subst}
use Rattle.quad_field.specs.FieldNumber.{IsFieldNumber}
use Rattle.quad_field.proofs.field.Field.number.Goals as goal

pub returns-clause-valid : goal.returns-clause-valid
returns-clause-valid c = subst IsFieldNumber c.self.view_is c.self.invariant
