use Rattle.std.proofs.Common.{subst}
use Rattle.hinge_form.specs.Hinges.{place_at}
use Rattle.delaunay_flip.specs.Keeping.{IsKept}
use Rattle.delaunay_flip.proofs.Keepings.{table_fits}
use Rattle.delaunay_flip.proofs.kept.Kept.tri.Goals as goal

pub returns-clause-kept : goal.returns-clause-kept
returns-clause-kept c =
    let inside = c.self.inside in
    subst IsKept c.self.view_is
    (record { base = c.self.invariant.0; fits = table_fits inside.tri.field (place_at inside.point) inside.tri.halves inside.values c.self.invariant.1 })
