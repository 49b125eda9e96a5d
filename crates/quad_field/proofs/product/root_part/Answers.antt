use Rattle.std.proofs.lemmas.Int.{to_z-of_z}
use Rattle.std.proofs.Common.{rules}
use Rattle.quad_field.proofs.Checked.{sum_of_two}
use Rattle.quad_field.proofs.product.root_part.Goals as goal

pub returns : goal.returns
returns c = search (rules, to_z-of_z, sum_of_two)
