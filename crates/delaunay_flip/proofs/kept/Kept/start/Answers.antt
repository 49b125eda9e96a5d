use Rattle.std.proofs.Common.{subst}
use Rattle.std.proofs.lemmas.Result.{err_from_is_err_and}
use Rattle.tri_core.specs.Triangulation.{Triangulation}
use Rattle.hinge_form.specs.Hinges.{of_place, place_at}
use Rattle.delaunay_flip.specs.Widths.{EdgesFit, IsWideEdge}
use Rattle.delaunay_flip.proofs.Keepings.{table_fits}
use Rattle.delaunay_flip.proofs.kept.Kept.start.Goals as goal

pub returns-in_err-fill-clause-wide : goal.returns-in_err-fill-clause-wide
returns-in_err-fill-clause-wide c =
    let wide = c.in_err-fill.field-0.0 in
    let p = err_from_is_err_and c.from_residual-in_err-fill.result c.from_residual-in_err-fill.ensures.1 in
    rw (p.1, p.2)
    (subst (λ (t : Triangulation). IsWideEdge t.field (place_at c.args.at.now) t.halves wide.formula wide.edge) c.in_ok-tri.ensures
    (subst (λ q. IsWideEdge c.in_ok-tri.tri.field q c.in_ok-tri.tri.halves wide.formula wide.edge) c.place_of.ensures.place c.in_err-fill.ensures.wide))

pub returns-clause-fits : goal.returns-clause-fits
returns-clause-fits c =
    subst (λ (t : Triangulation). EdgesFit t.field (place_at c.args.at.now) t.halves) c.in_ok-tri.ensures
    (subst (λ q. EdgesFit c.in_ok-tri.tri.field q c.in_ok-tri.tri.halves) c.place_of.ensures.place
    (table_fits c.in_ok-tri.tri.field (of_place c.place_of.result) c.in_ok-tri.tri.halves c.fill.new.self c.in_ok-fill.ensures.table))
