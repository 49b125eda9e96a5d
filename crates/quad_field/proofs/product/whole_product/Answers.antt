use Rattle.quad_field.proofs.SmallProducts.{whole_read}
use Rattle.quad_field.proofs.product.whole_product.Goals as goal

pub returns : goal.returns
returns c = whole_read c.args.d c.args.x c.args.y c.requires c.narrow.result c.narrow-2.result c.times_64.result c.narrow.ensures c.narrow-2.ensures c.times_64.ensures
