use Rattle.explore_core.specs.Views.{rows_of}
use Rattle.explore_core.proofs.Refused.{not_met}
use Rattle.explore_core.proofs.book.Book.step.Goals as goal

pub returns-in-Meet-clause-done : goal.returns-in-Meet-clause-done
returns-in-Meet-clause-done g c = rw c.in-Meet.is c.meet.ensures.done

pub returns-in-Meet-clause-refused : goal.returns-in-Meet-clause-refused
returns-in-Meet-clause-refused g c = rw c.in-Meet.is c.meet.ensures.refused

pub returns-in-Meet-clause-no_ticket : goal.returns-in-Meet-clause-no_ticket
returns-in-Meet-clause-no_ticket g c = rw c.in-Meet.is c.meet.ensures.no_ticket

pub returns-in-Meet-clause-not_met : goal.returns-in-Meet-clause-not_met
returns-in-Meet-clause-not_met g c =
    let laws = g.met.T.Terrain g.world.𝓛 g.world.𝓜 g.world.𝓡 ((λ s x. x), (λ x. x), (λ x. x), λ x. x) in
    let t = g.T.Numbers.numbers c.args.self.now.terrain.value in
    not_met g.T.Key.Numbers.numbers (g.T.Terrain.has_walls t) (g.T.Terrain.leads t) (g.T.Terrain.is_stuck_at t) (g.T.Terrain.is_stuck t) (laws.leads_agree t) (rows_of c.args.self.now) (rows_of c.meet.new.self) c.args.event.now c.meet.result (rw c.in-Meet.is c.meet.ensures.done) (rw c.in-Meet.is c.meet.ensures.refused)

pub returns-in-Fill-clause-done : goal.returns-in-Fill-clause-done
returns-in-Fill-clause-done g c = rw c.in-Fill.is c.fill.ensures.done

pub returns-in-Fill-clause-refused : goal.returns-in-Fill-clause-refused
returns-in-Fill-clause-refused g c = rw c.in-Fill.is c.fill.ensures.refused

pub returns-in-Fill-clause-no_ticket : goal.returns-in-Fill-clause-no_ticket
returns-in-Fill-clause-no_ticket g c = rw c.in-Fill.is c.fill.ensures.no_ticket

pub returns-in-Fill-clause-not_met : goal.returns-in-Fill-clause-not_met
returns-in-Fill-clause-not_met g c =
    let laws = g.met.T.Terrain g.world.𝓛 g.world.𝓜 g.world.𝓡 ((λ s x. x), (λ x. x), (λ x. x), λ x. x) in
    let t = g.T.Numbers.numbers c.args.self.now.terrain.value in
    not_met g.T.Key.Numbers.numbers (g.T.Terrain.has_walls t) (g.T.Terrain.leads t) (g.T.Terrain.is_stuck_at t) (g.T.Terrain.is_stuck t) (laws.leads_agree t) (rows_of c.args.self.now) (rows_of c.fill.new.self) c.args.event.now c.fill.result (rw c.in-Fill.is c.fill.ensures.done) (rw c.in-Fill.is c.fill.ensures.refused)
