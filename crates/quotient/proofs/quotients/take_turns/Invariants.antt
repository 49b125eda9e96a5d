use Rattle.std.proofs.Common.{◌≡◌, List, ◌++◌, map, take}
use Rattle.quotient.specs.Trees.{matrix_at}
use Rattle.quotient.specs.Quotients.{Quotient, turn_quotient, AreValues}
use Rattle.quotient.specs.Distinct.{IsKept}
use Rattle.quotient.proofs.quotients.take_turns.Given as goal

abbrev pub invariant-loop-turn : goal.invariant-loop-turn
invariant-loop-turn l = record {
  kept : IsKept l.list.list.items l.list.parts;
  taken : (qs : List Quotient) → AreValues l.f qs l.fn.list.list.items
      → AreValues l.f (qs ++ map (turn_quotient (matrix_at l.tree l.c)) (take l.turn-index l.turns)) l.list.list.items;
}
