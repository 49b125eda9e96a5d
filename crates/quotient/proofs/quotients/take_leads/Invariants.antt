use Rattle.std.proofs.Common.{◌≡◌, List, ◌++◌, map, take}
use Rattle.quotient.specs.Trees.{matrix_at}
use Rattle.quotient.specs.Quotients.{Quotient, lead_quotient, AreValues}
use Rattle.quotient.specs.Distinct.{IsKept}
use Rattle.quotient.proofs.quotients.take_leads.Given as goal

abbrev pub invariant-loop-lead : goal.invariant-loop-lead
invariant-loop-lead l = record {
  kept : IsKept l.list.list.items l.list.parts;
  taken : (qs : List Quotient) → AreValues l.f qs l.fn.list.list.items
      → AreValues l.f (qs ++ map (lead_quotient l.tree (matrix_at l.tree l.c)) (take l.lead-index l.row)) l.list.list.items;
}
