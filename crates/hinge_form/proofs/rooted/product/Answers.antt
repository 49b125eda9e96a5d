use Rattle.std.proofs.Common.{refl}
use Rattle.std.specs.Prelude.{pos}
use Rattle.hinge_form.specs.Small.{quad_of}
use Rattle.hinge_form.proofs.RootHinges.{first_stands, scaled_stands, roots_stand, whole_stands, cross_stands, other_stands, root_stands, product_read}
use Rattle.hinge_form.proofs.rooted.product.Goals as goal

pub overflow_mul-result : goal.overflow_mul-result
overflow_mul-result c = (first_stands c.args.d (quad_of c.args.x) (quad_of c.args.y) (pos c.args.d) c.requires.field c.requires.factors refl).fits

pub overflow_mul-result-2 : goal.overflow_mul-result-2
overflow_mul-result-2 c = (scaled_stands c.args.d (quad_of c.args.x) (quad_of c.args.y) c.from.result c.requires.field c.requires.factors c.from.ensures).fits

pub overflow_mul-result-3 : goal.overflow_mul-result-3
overflow_mul-result-3 c = (roots_stand c.args.d (quad_of c.args.x) (quad_of c.args.y) c.from.result c.requires.field c.requires.factors c.from.ensures).fits

pub overflow_add-result : goal.overflow_add-result
overflow_add-result c = (whole_stands c.args.d (quad_of c.args.x) (quad_of c.args.y) c.from.result c.requires.field c.requires.factors c.from.ensures).fits

pub overflow_mul-result-4 : goal.overflow_mul-result-4
overflow_mul-result-4 c = (cross_stands c.args.d (quad_of c.args.x) (quad_of c.args.y) c.from.result c.requires.field c.requires.factors c.from.ensures).fits

pub overflow_mul-result-5 : goal.overflow_mul-result-5
overflow_mul-result-5 c = (other_stands c.args.d (quad_of c.args.x) (quad_of c.args.y) c.from.result c.requires.field c.requires.factors c.from.ensures).fits

pub overflow_add-result-2 : goal.overflow_add-result-2
overflow_add-result-2 c = (root_stands c.args.d (quad_of c.args.x) (quad_of c.args.y) c.from.result c.requires.field c.requires.factors c.from.ensures).fits

pub returns : goal.returns
returns c = product_read c.args.d (quad_of c.args.x) (quad_of c.args.y) c.from.result c.requires.field c.requires.factors c.from.ensures
