use Rattle.std.proofs.Common.{◌≡◌, ◌<◌, ◌+◌, ◌∙◌, ◌++◌, ◌∷◌, [], length, sym, ap, subst, arith}
use Rattle.std.proofs.lemmas.Bool.{false≢true}
use Rattle.std.proofs.lemmas.List.{get_or_read}
use Rattle.std.proofs.lemmas.Result.{err_from_is_err_and}
use Rattle.rings.specs.Matrices.{matrix_det}
use Rattle.quad_field.specs.Quads.{quad_ops, IsZero}
use Rattle.plane.specs.Matrices.{FieldMatrix, identity}
use Rattle.plane.specs.MatrixWidth.{InverseFits}
use Rattle.quotient.specs.Inverses.{AreInversesBelow}
use Rattle.quotient.proofs.Rows.{formula_is}
use Rattle.quotient.proofs.InverseLists.{one_longer, one_inverse_more}
use Rattle.quotient.proofs.inverses.inverses_of.Goals as goal

pub mat_inverse-requires : goal.mat_inverse-requires
mat_inverse-requires c =
    let within : c.loop-m.m-index < length c.args.tree.now = omega arith in
    let is = get_or_read c.args.tree.now c.loop-m.m-index c.m-item.result within c.m-item.is identity in
    record { invertible = subst (λ (m : FieldMatrix). ¬ (IsZero (matrix_det (quad_ops c.args.f.now) m.rows))) (sym is) (c.requires.invertible c.loop-m.m-index within) }

pub returns-in_err-mat_inverse-clause-wide : goal.returns-in_err-mat_inverse-clause-wide
returns-in_err-mat_inverse-clause-wide c = λ formula e.
    let within : c.loop-m.m-index < length c.args.tree.now = omega arith in
    let is = get_or_read c.args.tree.now c.loop-m.m-index c.m-item.result within c.m-item.is identity in
    let p = err_from_is_err_and c.from_residual-in_err-mat_inverse.result c.from_residual-in_err-mat_inverse.ensures.1 in
    let named = formula_is c.from_residual-in_err-mat_inverse.result p.0 c.in_err-mat_inverse.field-0.0.formula formula p.1 p.2 e in (
      named ∙ c.in_err-mat_inverse.ensures.wide,
      (
        c.loop-m.m-index,
        within,
        subst (λ (m : FieldMatrix). ¬ (InverseFits c.args.f.now m)) is (λ fits. absurd (false≢true (c.in_err-mat_inverse.ensures.fits.1 fits))),
      ),
    )

pub loop-m-preserved : goal.loop-m-preserved
loop-m-preserved c =
    let n = c.loop-m.m-index in
    let tree = c.args.tree.now in
    let inverses = c.loop-m.inverses.items in
    let x = c.in_ok-mat_inverse.field-0 in
    let within : n < length tree = omega arith in
    let is = get_or_read tree n c.m-item.result within c.m-item.is identity in
    let items = c.in_ok-push.ensures.items in
    record {
      many = ap length items ∙ one_longer inverses x n c.loop-m.invariant.many;
      below = subst (AreInversesBelow c.args.f.now (n + 1) tree) (sym items)
          (one_inverse_more c.args.f.now n tree inverses c.m-item.result x c.loop-m.invariant.many c.loop-m.invariant.below is c.denominator-in_lowest_terms.ensures.lowest
          (c.in_ok-mat_inverse.ensures.lowest, c.in_ok-mat_inverse.ensures.inverse));
    }
