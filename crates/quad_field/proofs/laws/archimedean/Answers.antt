use Rattle.quad_field.proofs.Archimedes.{archimedes}
use Rattle.quad_field.proofs.laws.archimedean.Goals as goal

pub returns : goal.returns
returns c = archimedes
