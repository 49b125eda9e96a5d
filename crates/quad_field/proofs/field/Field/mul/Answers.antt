use Rattle.std.proofs.Common.{subst}
use Rattle.quad_field.specs.Checked.{IsExactProduct}
use Rattle.quad_field.proofs.Checked.{product_exact, product_fits}
use Rattle.quad_field.proofs.field.Field.mul.Goals as goal

pub returns-clause-exact : goal.returns-clause-exact
returns-clause-exact c =
    product_exact c.args.self.now c.args.x c.args.y c.product_of.result
    (subst (λ d. IsExactProduct d c.args.x c.args.y c.product_of.result) c.self.view_is c.product_of.ensures)

pub returns-clause-fits : goal.returns-clause-fits
returns-clause-fits c =
    product_fits c.args.self.now c.args.x c.args.y c.product_of.result
    (subst (λ d. IsExactProduct d c.args.x c.args.y c.product_of.result) c.self.view_is c.product_of.ensures)
