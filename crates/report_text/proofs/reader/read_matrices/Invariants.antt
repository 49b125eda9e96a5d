use Rattle.std.proofs.Common.{◌-◌, length}
use Rattle.report_text.proofs.Wholes.{MatricesSoFar}
use Rattle.report_text.proofs.reader.read_matrices.Given as goal

-- the matrices so far
abbrev pub invariant-matrices : goal.invariant-matrices
invariant-matrices l = MatricesSoFar l.wanted l.bytes l.mats.items l.rest

abbrev pub decreases-matrices : goal.decreases-matrices
decreases-matrices l = l.wanted - length l.mats.items
