use Rattle.std.proofs.Common.{◌≡◌, ◌++◌, ◌∷◌, [], List, take, Some, arith, sym, ◌∙◌, subst, ap}
use Rattle.std.specs.Prelude.{ℤ}
use Rattle.std.proofs.lemmas.List.{take_more}
use Rattle.std.proofs.lemmas.Option.{slice_get-get_or}
use Rattle.std.proofs.lemmas.Result.{err_from_is_err_and}
use Rattle.explore_core.specs.declared.event.Event.{Event}
use Rattle.explore_core.specs.Books.{Row}
use Rattle.explore_core.specs.Events.{Does, Runs}
use Rattle.explore_core.specs.Refusals.{Refuses}
use Rattle.explore_core.specs.Views.{rows_of, terrain_of, root_of}
use Rattle.explore_core.proofs.Closed.{runs_more, does_few, sound_of}
use Rattle.explore_core.proofs.book.Book.run_events.Goals as goal

pub loop-event-preserved : goal.loop-event-preserved
loop-event-preserved g c =
    let numbers = g.T.Key.Numbers.numbers in
    let inv = c.loop-event.invariant in
    let t = terrain_of c.args.self.now in
    let events = c.args.events.now in
    let i = c.loop-event.event-index in
    let event = c.event-item.result in
    let before = rows_of c.args.self.now in
    let mid = rows_of c.loop-event.self in
    let after = rows_of c.step.new.self in
    let did : Does numbers (g.T.Terrain.has_walls t) (g.T.Terrain.leads t) event mid after = subst (λ (x : List ℤ). Does numbers (g.T.Terrain.has_walls x) (g.T.Terrain.leads x) event mid after) inv.terrain c.in_ok-step.ensures.done in
    record {
      terrain = c.in_ok-step.ensures.names.0 ∙ inv.terrain;
      root = c.in_ok-step.ensures.names.1 ∙ inv.root;
      ran = subst (λ (es : List (Event _)). Runs numbers (g.T.Terrain.has_walls t) (g.T.Terrain.leads t) es before after) (sym (take_more events i c.event-item.result c.loop-event-test.true ∙ ap (λ (e : Event _). take i events ++ e ∷ []) (sym c.event-item.is))) (runs_more numbers (g.T.Terrain.has_walls t) (g.T.Terrain.leads t) (take i events) event before mid after inv.ran did);
      few = let h = does_few numbers (g.T.Terrain.has_walls t) (g.T.Terrain.leads t) event mid after did in let k = inv.few in omega arith;
    }

pub returns-in_err-step-clause-refused : goal.returns-in_err-step-clause-refused
returns-in_err-step-clause-refused g c =
    let numbers = g.T.Key.Numbers.numbers in
    let inv = c.loop-event.invariant in
    let t = terrain_of c.args.self.now in
    let events = c.args.events.now in
    let i = c.loop-event.event-index in
    let event = c.event-item.result in
    let mid = rows_of c.loop-event.self in
    let same : mid ≡ rows_of c.step.new.self = sym c.in_err-step.ensures.same in
    let why : Refuses numbers (g.T.Terrain.leads t) (g.T.Terrain.is_stuck_at t) (g.T.Terrain.is_stuck t) mid event c.in_err-step.field-0.0 = subst (λ (x : List ℤ). Refuses numbers (g.T.Terrain.leads x) (g.T.Terrain.is_stuck_at x) (g.T.Terrain.is_stuck x) mid event c.in_err-step.field-0.0) inv.terrain c.in_err-step.ensures.refused in
    let p = err_from_is_err_and c.from_residual.result c.from_residual.ensures.1 in
    rw (p.1, p.2) (
      i,
      event,
      slice_get-get_or events i c.event-item.result c.loop-event-test.true ∙ ap Some (sym c.event-item.is),
      subst (λ (x : List (Row _)). Runs numbers (g.T.Terrain.has_walls t) (g.T.Terrain.leads t) (take i events) (rows_of c.args.self.now) x) same inv.ran,
      subst (λ (x : List (Row _)). Refuses numbers (g.T.Terrain.leads t) (g.T.Terrain.is_stuck_at t) (g.T.Terrain.is_stuck t) x event c.in_err-step.field-0.0) same why,
    )

pub returns-in_err-step-clause-sound : goal.returns-in_err-step-clause-sound
returns-in_err-step-clause-sound g c =
    let laws = g.met.T.Terrain g.world.𝓛 g.world.𝓜 g.world.𝓡 ((λ s x. x), (λ x. x), (λ x. x), λ x. x) in
    let book = c.step.new.self in
    let t = terrain_of book in
    sound_of g.T.Terrain.order laws.order_total laws.order_exact (g.T.Terrain.has_walls t) (g.T.Terrain.leads t) (root_of book) (rows_of book) (laws.walls_proofs_agree t) (laws.leads_proofs_agree t) book.sound

pub returns-clause-sound : goal.returns-clause-sound
returns-clause-sound g c =
    let laws = g.met.T.Terrain g.world.𝓛 g.world.𝓜 g.world.𝓡 ((λ s x. x), (λ x. x), (λ x. x), λ x. x) in
    let book = c.loop-event.self in
    let t = terrain_of book in
    sound_of g.T.Terrain.order laws.order_total laws.order_exact (g.T.Terrain.has_walls t) (g.T.Terrain.leads t) (root_of book) (rows_of book) (laws.walls_proofs_agree t) (laws.leads_proofs_agree t) book.sound
