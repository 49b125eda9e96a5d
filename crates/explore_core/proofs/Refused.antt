-- What one event did, or why it was refused.
use Rattle.std.proofs.Common.{◌≡◌, ℕ, List, None, ap, ◌∙◌, subst, inl, inr}
use Rattle.std.specs.Prelude.{ℤ, Result, Ok, Err, MatchResult, OnOk, IfErr}
use Rattle.terrain.specs.declared.stop.Stop.{Stop}
use Rattle.terrain.specs.declared.stop.Stop.TheVariants as stops
use Rattle.terrain.specs.Stops.{IfFault}
use Rattle.terrain.specs.Places.{IsAt}
use Rattle.terrain.proofs.CallerLemmas.{at_one}
use Rattle.explore_core.specs.declared.event.Event.{Event}
use Rattle.explore_core.specs.declared.event.Event.TheVariants.{Meet, Fill}
use Rattle.explore_core.specs.declared.event.StepFault.{StepFault}
use Rattle.explore_core.specs.declared.event.StepFault.TheVariants.{NoTicket, NotMet, Fault, Memory}
use Rattle.explore_core.specs.Books.{Row, HasKey, IsOpen}
use Rattle.explore_core.specs.Events.{Ticket, Does}
use Rattle.explore_core.specs.Refusals.{step_fault, RefusesMeet, RefusesFill, Refuses, IsUnmet, IsNotMet}

module _ {L F : Type 0} (Leads : List ℤ → ℕ → List ℤ → L → Type 0) (StuckAt : List ℤ → ℕ → F → Type 0) (Stuck : List ℤ → F → Type 0) (rows : List (Row L)) (place : ℕ) (k : List ℤ) (w : ℕ) (open_ : (r : Row L) × IsAt rows place r × (r.key ≡ k) × IsAt r.slots w None) where
  abbrev pub is_open : IsOpen rows k w
  is_open = (record { place = place; row = open_.0; at = open_.1; is = open_.2 }, open_.3)

  abbrev pub ticket : (d : List ℤ) (g : L) → ((q : Row L) × IsAt rows place q × Leads q.key w d g) → Ticket Leads rows k w
  ticket d g h = record {
    from = record { place = place; row = open_.0; at = open_.1; is = open_.2 };
    empty = open_.3;
    target = d;
    link = g;
    leads = subst (λ (x : List ℤ). Leads x w d g) (ap (λ (r : Row L). r.key) (at_one rows place h.0 open_.0 h.1 open_.1) ∙ open_.2) h.2;
  }

  stuck_here : (f : F) → (q : Row L) → IsAt rows place q → StuckAt q.key w f → StuckAt k w f
  stuck_here f q at h = subst (λ (x : List ℤ). StuckAt x w f) (ap (λ (r : Row L). r.key) (at_one rows place q open_.0 at open_.1) ∙ open_.2) h

  pub refused_wall : (stop : Stop F) → ((q : Row L) × IsAt rows place q × IfFault stop (StuckAt q.key w)) → RefusesMeet Leads StuckAt Stuck rows k w (step_fault stop)
  refused_wall (stops.Fault f) h = (is_open, inl (stuck_here f h.0 h.1 h.2))
  refused_wall stops.Memory h = tt

  pub refused_target : (stop : Stop F) (d : List ℤ) (g : L) → ((q : Row L) × IsAt rows place q × Leads q.key w d g) → IfFault stop (Stuck d) → RefusesMeet Leads StuckAt Stuck rows k w (step_fault stop)
  refused_target (stops.Fault f) d g l h = (is_open, inr (ticket d g l, h))
  refused_target stops.Memory d g l h = tt

  pub refused_fill : (stop : Stop F) → ((q : Row L) × IsAt rows place q × IfFault stop (StuckAt q.key w)) → RefusesFill Leads StuckAt rows k w (step_fault stop)
  refused_fill (stops.Fault f) h = (is_open, stuck_here f h.0 h.1 h.2)
  refused_fill stops.Memory h = tt

-- a Fill before its target was met is answered so
pub not_met : {K L F : Type 0} (numbers : K → List ℤ) (Walls : List ℤ → ℕ → Type 0) (Leads : List ℤ → ℕ → List ℤ → L → Type 0) (StuckAt : List ℤ → ℕ → F → Type 0) (Stuck : List ℤ → F → Type 0) (one_lead : (k : List ℤ) (w : ℕ) (d e : List ℤ) (g h : L) → Leads k w d g → Leads k w e h → (d ≡ e) × (g ≡ h)) (before after : List (Row L)) (event : Event K) (result : Result (Unit {0}) (StepFault F)) → OnOk result (Does numbers Walls Leads event before after) → IfErr result (Refuses numbers Leads StuckAt Stuck before event) → IsUnmet numbers Leads before event → MatchResult result (λ _. ⊥) IsNotMet
not_met numbers Walls Leads StuckAt Stuck one_lead before after (Meet k w) result did why unmet = absurd unmet
not_met numbers Walls Leads StuckAt Stuck one_lead before after (Fill k w) (Ok u) did why unmet = unmet.1 (subst (HasKey before) (one_lead (numbers k) w did.0.target unmet.0.target did.0.link unmet.0.link did.0.leads unmet.0.leads).0 did.1)
not_met numbers Walls Leads StuckAt Stuck one_lead before after (Fill k w) (Err NoTicket) did why unmet = why (unmet.0.from, unmet.0.empty)
not_met numbers Walls Leads StuckAt Stuck one_lead before after (Fill k w) (Err NotMet) did why unmet = tt
not_met numbers Walls Leads StuckAt Stuck one_lead before after (Fill k w) (Err (Fault f)) did why unmet = tt
not_met numbers Walls Leads StuckAt Stuck one_lead before after (Fill k w) (Err Memory) did why unmet = tt
