use Rattle.std.proofs.Common.{◌≡◌, ◌++◌, take}
use Rattle.canon_code.specs.CodeText.{spaced_text}
use Rattle.canon_code.proofs.text.put_spaced.Given as goal

abbrev pub invariant-loop-n : goal.invariant-loop-n
invariant-loop-n l = l.out.items ≡ l.initial.out.items ++ spaced_text (take l.n-index l.numbers)
