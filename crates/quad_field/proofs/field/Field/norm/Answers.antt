use Rattle.std.proofs.Common.{rules}
use Rattle.std.proofs.lemmas.Int.{to_z-of_z}
use Rattle.quad_field.proofs.Norms.{norm_is}
use Rattle.quad_field.proofs.field.Field.norm.Goals as goal

pub returns-clause-exact : goal.returns-clause-exact
returns-clause-exact c = search (rules, to_z-of_z, norm_is)
