use Rattle.std.proofs.Common.{◌≡◌, ◌++◌, [], List, length, map, sym, subst}
use Rattle.std.specs.Prelude.{ℕ}
use mathlib.Core.Path.{subst₂}
use Rattle.std.proofs.lemmas.List.{length-map}
use Rattle.plane.specs.Matrices.{FieldMatrix}
use Rattle.quotient.specs.Quotients.{lead_quotients, turn_quotients, AreValues}
use Rattle.quotient.specs.Quotients.AreValues.{none}
use Rattle.quotient.proofs.quotients.quotients_of.Goals as goal

pub returns-clause-quotients : goal.returns-clause-quotients
returns-clause-quotients c =
    let d = c.args.f.now in
    let tree = c.args.tree.now in
    let leads = c.args.leads.now in
    let turns = c.args.turns.now in
    let rows = map (λ v. v.items) leads in
    let turn_rows = map (λ v. v.items) turns in
    let begun = subst (AreValues d []) (sym c.in_ok-list.ensures.empty) none in
    let first = c.in_ok-take_all_leads.ensures.taken [] begun in
    let both = c.in_ok-take_all_turns.ensures.taken (lead_quotients tree rows (length leads)) first in
    subst₂ (λ (n m : ℕ). AreValues d (lead_quotients tree rows n ++ turn_quotients tree turn_rows m) c.take_all_turns.new.list.list.items)
    (sym (length-map leads (λ v. v.items))) (sym (length-map turns (λ v. v.items))) both
