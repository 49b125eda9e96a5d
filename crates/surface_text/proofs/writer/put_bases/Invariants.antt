use Rattle.std.proofs.Common.{◌≡◌, ◌++◌, [], map, drop}
use Rattle.surface_text.specs.Spelling.{Line, lines_then}
use Rattle.surface_text.proofs.writer.put_bases.Given as goal

abbrev pub invariant-loop-at : goal.invariant-loop-at
invariant-loop-at l = l.initial.out.items ++ lines_then (map Line.base l.bases) [] ≡ l.out.items ++ lines_then (map Line.base (drop l.at-index l.bases)) []
