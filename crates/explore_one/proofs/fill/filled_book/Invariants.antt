use Rattle.std.proofs.Common.{◌≡◌, ◌<◌, ◌≤◌, ◌+◌, ◌-◌, ℕ, length}
use Rattle.explore_core.specs.Books.{keys_of}
use Rattle.explore_core.specs.Views.{rows_of, terrain_of, root_of}
use Rattle.explore_one.specs.Filled.{IsFullAt}
use Rattle.explore_one.specs.Frontiers.{AreWallsFrom}
use Rattle.explore_one.proofs.fill.filled_book.Given as goal

abbrev pub invariant-loop-walls : goal.invariant-loop-walls
invariant-loop-walls g l =
    let t = g.T.Numbers.numbers l.terrain in
    record {
      terrain : terrain_of l.book ≡ t;
      root : root_of l.book ≡ g.T.Key.Numbers.numbers l.root;
      few : length (rows_of l.book) ≤ l.limit;
      frontier : AreWallsFrom (g.T.Terrain.are_walls t) (keys_of (rows_of l.book)) l.place l.frontier.items;
      full : (i : ℕ) → i < l.place → IsFullAt (rows_of l.book) i;
    }

abbrev pub decreases-loop-walls : goal.decreases-loop-walls
decreases-loop-walls g l = l.limit + 1 - l.place
