use Rattle.std.proofs.Common.{◌≡◌, ◌++◌, take}
use Rattle.surface_text.specs.Spelling.{sides_text}
use Rattle.surface_text.proofs.writer.put_sides.Given as goal

abbrev pub invariant-loop-side : goal.invariant-loop-side
invariant-loop-side l = l.out.items ≡ l.initial.out.items ++ sides_text (take l.side-index l.sides)
