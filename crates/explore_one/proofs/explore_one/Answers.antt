use Rattle.std.proofs.Common.{ap, Err}
use Rattle.std.proofs.lemmas.Result.{err_from_is_err_and}
use Rattle.terrain.specs.declared.graph.ExploreFault.TheVariants.{Fault}
use Rattle.explore_one.proofs.Rows.{err_is}
use Rattle.explore_one.proofs.explore_one.Goals as goal

pub returns-in_err-book-clause-fault : goal.returns-in_err-book-clause-fault
returns-in_err-book-clause-fault g c key fault e =
    let p = err_from_is_err_and c.from_residual.result c.from_residual.ensures.1 in
    let f = err_is c.from_residual.result p.0 c.in_err-book.field-0.0 (Fault key fault) p.1 p.2 e in
    c.in_err-book.ensures.fault key fault (ap (λ x. Err x) f)
