use Rattle.quad_field.proofs.KIntegers.{product_positive}
use Rattle.quad_field.proofs.laws.positive_product.Goals as goal

pub returns : goal.returns
returns c = product_positive
