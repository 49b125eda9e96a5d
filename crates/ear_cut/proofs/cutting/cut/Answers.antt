use Rattle.std.proofs.Common.{sym, subst}
use Rattle.tri_core.specs.Triangulation.{IsTriangulation}
use Rattle.ear_cut.proofs.CallerLemmas.{some_cutting, triangulation}
use Rattle.ear_cut.proofs.cutting.cut.Goals as goal

pub known-requires : goal.known-requires
known-requires c =
    subst (λ d. IsTriangulation d c.in_ok-halves.halves.items) (sym c.requires)
    (triangulation c.args.glued.now c.cut_halves.ensures.valid c.in_ok-halves.halves.items c.in_ok-halves.ensures.cut)

pub returns-in_err-halves-clause-some : goal.returns-in_err-halves-clause-some
returns-in_err-halves-clause-some c = some_cutting c.args.glued.now c.cut_halves.ensures.valid
