use Rattle.std.proofs.Common.{refl}
use Rattle.quad_field.proofs.SmallProducts.{small_steps, small_from_whole}
use Rattle.quad_field.proofs.product.product_of.Goals as goal

pub returns-then-are_small_and_whole : goal.returns-then-are_small_and_whole
returns-then-are_small_and_whole c =
    let whole = c.if-are_small_and_whole.ensures.0 refl in
    (small_steps c.args.d c.args.x c.args.y c.requires (small_from_whole c.args.d c.args.x c.args.y whole), c.whole_product.ensures)

pub returns-then-are_small : goal.returns-then-are_small
returns-then-are_small c = (small_steps c.args.d c.args.x c.args.y c.requires (c.if-are_small.ensures.0 refl), c.small_product.ensures)
