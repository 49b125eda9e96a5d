use Rattle.std.proofs.Common.{◌≡◌, ◌≤◌, ◌+◌, length, take}
use Rattle.explore_core.specs.Events.{Runs}
use Rattle.explore_core.specs.Views.{rows_of, terrain_of, root_of}
use Rattle.explore_core.proofs.book.Book.run_events.Given as goal

abbrev pub invariant-loop-event : goal.invariant-loop-event
invariant-loop-event g l =
    let t = terrain_of l.fn.self in
    record {
      terrain : terrain_of l.self ≡ t;
      root : root_of l.self ≡ root_of l.fn.self;
      ran : Runs g.T.Key.Numbers.numbers (g.T.Terrain.has_walls t) (g.T.Terrain.leads t) (take l.event-index l.events) (rows_of l.fn.self) (rows_of l.self);
      few : length (rows_of l.self) ≤ length (rows_of l.fn.self) + l.event-index;
    }
