use Rattle.std.proofs.Common.{ℕ, List, length, map}
use Rattle.std.specs.Prelude.{ℤ}
use Rattle.veech_cli.specs.Turns.{AreParts}
use Rattle.veech_cli.proofs.Grouped.{AreTurnsTo}
use Rattle.veech_cli.proofs.JoinedTurns.{places_to}
use Rattle.veech_cli.proofs.turns.joined.Given as goal

-- the turns of the parts so far
abbrev pub invariant-loop-part : goal.invariant-loop-part
invariant-loop-part l = (d : ℕ) (codes : List (List ℤ)) (size : ℕ) → AreParts d codes size l.fn.parts.items
    → AreTurnsTo d codes (map (λ v. v.items) l.turns.items) (places_to size (length l.yielded) (length codes))
