use Rattle.std.proofs.Common.{subst}
use Rattle.hinge_form.specs.Hinges.{place_at}
use Rattle.delaunay_flip.specs.Flipping.{IsNegative, IsLeastOrNone}
use Rattle.delaunay_flip.specs.Keeping.{KeptAt}
use Rattle.delaunay_flip.proofs.Keepings.{table_least}
use Rattle.delaunay_flip.proofs.kept.Kept.least.Goals as goal

pub returns : goal.returns
returns c =
    let inside = c.self.inside in
    subst (λ (k : KeptAt). IsLeastOrNone (IsNegative k.tri.field (place_at k.point) k.tri.halves) c.least.result) c.self.view_is
    (table_least inside.tri.field (place_at inside.point) inside.tri.halves inside.values c.self.invariant.1 c.least.result c.least.ensures)
