use Rattle.std.proofs.Common.{take}
use Rattle.std.specs.List.{AllByRecursion}
use Rattle.surface_text.specs.Causes.{IsPrinted}
use Rattle.surface_text.proofs.lines.is_printed.Given as goal

abbrev pub invariant-loop-byte : goal.invariant-loop-byte
invariant-loop-byte l = AllByRecursion IsPrinted (take l.byte-index l.line)
