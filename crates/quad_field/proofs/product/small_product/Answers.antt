use Rattle.quad_field.proofs.SmallProducts.{scaled_fits, whole_fits, root_fits, product_read}
use Rattle.quad_field.proofs.product.small_product.Goals as goal

pub overflow_mul-result : goal.overflow_mul-result
overflow_mul-result c =
    scaled_fits c.args.d c.args.x c.args.y c.requires.field c.requires.small c.narrow-a.result c.narrow-b.result c.narrow-c.result c.narrow-e.result
    c.narrow-a.ensures c.narrow-b.ensures c.narrow-c.ensures c.narrow-e.ensures
    c.times_64-ac.result c.times_64-be.result c.times_64-ae.result c.times_64-bc.result c.from.result
    c.times_64-ac.ensures c.times_64-be.ensures c.times_64-ae.ensures c.times_64-bc.ensures c.from.ensures

pub overflow_add-result : goal.overflow_add-result
overflow_add-result c =
    whole_fits c.args.d c.args.x c.args.y c.requires.field c.requires.small c.narrow-a.result c.narrow-b.result c.narrow-c.result c.narrow-e.result
    c.narrow-a.ensures c.narrow-b.ensures c.narrow-c.ensures c.narrow-e.ensures
    c.times_64-ac.result c.times_64-be.result c.times_64-ae.result c.times_64-bc.result c.from.result
    c.times_64-ac.ensures c.times_64-be.ensures c.times_64-ae.ensures c.times_64-bc.ensures c.from.ensures

pub overflow_add-result-2 : goal.overflow_add-result-2
overflow_add-result-2 c =
    root_fits c.args.d c.args.x c.args.y c.requires.field c.requires.small c.narrow-a.result c.narrow-b.result c.narrow-c.result c.narrow-e.result
    c.narrow-a.ensures c.narrow-b.ensures c.narrow-c.ensures c.narrow-e.ensures
    c.times_64-ac.result c.times_64-be.result c.times_64-ae.result c.times_64-bc.result c.from.result
    c.times_64-ac.ensures c.times_64-be.ensures c.times_64-ae.ensures c.times_64-bc.ensures c.from.ensures

pub returns : goal.returns
returns c =
    product_read c.args.d c.args.x c.args.y c.requires.field c.requires.small c.narrow-a.result c.narrow-b.result c.narrow-c.result c.narrow-e.result
    c.narrow-a.ensures c.narrow-b.ensures c.narrow-c.ensures c.narrow-e.ensures
    c.times_64-ac.result c.times_64-be.result c.times_64-ae.result c.times_64-bc.result c.from.result
    c.times_64-ac.ensures c.times_64-be.ensures c.times_64-ae.ensures c.times_64-bc.ensures c.from.ensures
