use Rattle.std.proofs.Common.{refl}
use Rattle.report_text.proofs.tests.prints_the_report_of_the_square_torus.Goals as goal

pub print-requires : goal.print-requires
print-requires g c = ((c.in-Some.ensures c.in-Some.point).0 refl).1
