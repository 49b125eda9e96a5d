use Rattle.std.proofs.Common.{◌-◌, length}
use Rattle.report_text.proofs.Wholes.{ClassesSoFar}
use Rattle.report_text.proofs.reader.read_classes.Given as goal

-- the classes so far
abbrev pub invariant-classes : goal.invariant-classes
invariant-classes l = ClassesSoFar l.f l.wanted l.bytes l.codes.items l.rest

abbrev pub decreases-classes : goal.decreases-classes
decreases-classes l = l.wanted - length l.codes.items
