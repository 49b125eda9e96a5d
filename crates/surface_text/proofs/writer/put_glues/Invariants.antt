use Rattle.std.proofs.Common.{◌≡◌, ◌++◌, [], map, drop}
use Rattle.surface_text.specs.Spelling.{Line, lines_then}
use Rattle.surface_text.proofs.writer.put_glues.Given as goal

abbrev pub invariant-loop-glue : goal.invariant-loop-glue
invariant-loop-glue l = l.initial.out.items ++ lines_then (map Line.glue l.glues) [] ≡ l.out.items ++ lines_then (map Line.glue (drop l.glue-index l.glues)) []
