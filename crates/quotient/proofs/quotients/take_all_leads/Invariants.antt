use Rattle.std.proofs.Common.{◌≡◌, List, ◌++◌, map}
use Rattle.quotient.specs.Quotients.{Quotient, lead_quotients, AreValues}
use Rattle.quotient.specs.Distinct.{IsKept}
use Rattle.quotient.proofs.quotients.take_all_leads.Given as goal

abbrev pub invariant-loop-c : goal.invariant-loop-c
invariant-loop-c l = record {
  kept : IsKept l.list.list.items l.list.parts;
  taken : (qs : List Quotient) → AreValues l.f qs l.fn.list.list.items
      → AreValues l.f (qs ++ lead_quotients l.tree (map (λ v. v.items) l.leads) l.c) l.list.list.items;
}
