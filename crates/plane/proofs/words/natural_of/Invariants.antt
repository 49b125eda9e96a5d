use Rattle.std.proofs.Common.{take}
use Rattle.plane.proofs.Naturals.{IsSoFar}
use Rattle.plane.proofs.words.natural_of.Given as goal

abbrev pub invariant-loop-byte : goal.invariant-loop-byte
invariant-loop-byte l = IsSoFar (take l.byte-index l.word) l.value
