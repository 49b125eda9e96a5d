use Rattle.std.proofs.Common.{map}
use Rattle.veech_cli.proofs.Grouped.{AreTurnsTo}
use Rattle.veech_cli.proofs.turns.turns_of.Given as goal

abbrev pub invariant-loop-i : goal.invariant-loop-i
invariant-loop-i l = AreTurnsTo l.terrain l.codes (map (λ v. v.items) l.turns.items) l.i
