use Rattle.std.proofs.Common.{◌≡◌, ◌≤◌, ◌+◌, List, length}
use Rattle.std.specs.Prelude.{ℤ}
use Rattle.terrain.specs.Places.{IsAt}
use Rattle.explore_core.specs.Books.{keys_of}
use Rattle.explore_core.specs.Views.{rows_of, terrain_of, root_of, found_in}
use Rattle.explore_one.specs.Filled.{Keeps}
use Rattle.explore_one.specs.Frontiers.{AreWallsFrom}
use Rattle.explore_one.proofs.Rows.{IsFilledBelow}
use Rattle.explore_one.proofs.fill.fill_slots.Given as goal

abbrev pub invariant-loop-wall : goal.invariant-loop-wall
invariant-loop-wall g l = record {
  terrain : terrain_of l.book ≡ terrain_of l.fn.book;
  root : root_of l.book ≡ root_of l.fn.book;
  few : length (rows_of l.book) ≤ l.limit;
  keeps : Keeps (rows_of l.fn.book) (rows_of l.book);
  row : IsFilledBelow (rows_of l.book) l.place l.wall-end l.wall;
  walls : (k : List ℤ) × IsAt (keys_of (rows_of l.book)) l.place k × found_in l.fn.book k l.walls;
  frontier : AreWallsFrom (found_in l.fn.book) (keys_of (rows_of l.book)) (l.place + 1) l.frontier.items;
}
