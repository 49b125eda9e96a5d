use Rattle.std.proofs.Common.{sym, subst}
use Rattle.tri_core.specs.Images.{IsImage}
use Rattle.canon_code.specs.Canonical.{canonical, frame}
use Rattle.canon_code.proofs.Canonical.{canonical_valid, canonical_serial, framed, scale_is}
use Rattle.canon_code.proofs.laws.canonical_triangulation.Goals as goal

pub returns-clause-valid : goal.returns-clause-valid
returns-clause-valid c = λ d halves h serial field valid below own. canonical_valid d field halves h serial valid below own

pub returns-clause-serial : goal.returns-clause-serial
returns-clause-serial c = λ d halves h serial field valid below own. canonical_serial d field halves h serial valid below own

pub returns-clause-framed : goal.returns-clause-framed
returns-clause-framed c = λ d halves h serial field valid below own. (
  own.place,
  own.number,
  subst (λ m. IsImage d (frame halves h) m (canonical d serial) halves own.place own.number) (sym (scale_is d field halves h serial valid below own))
      (framed d field halves h serial valid below own),
)
