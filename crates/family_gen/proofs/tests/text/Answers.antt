use Rattle.std.proofs.Common.{sym, ap, subst, arith}
use Rattle.std.specs.List.{AllByRecursion}
use Rattle.surface_text.specs.Limits.{IsBasePoint}
use Rattle.surface_text.specs.Spelling.{Content}
use Rattle.family_gen.proofs.Surfaces.{of_number}
use Rattle.family_gen.proofs.tests.text.Goals as goal

pub write-requires : goal.write-requires
write-requires c =
    let surface = of_number c.args.n (omega arith) in
    subst (AllByRecursion IsBasePoint) (sym (ap (λ (file : Content). file.bases) c.in_ok-file.ensures)) surface.limits.bases
