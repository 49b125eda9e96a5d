use Rattle.explore_core.specs.Views.{rows_of}
use Rattle.explore_core.proofs.Closed.{reached_once}
use Rattle.explore_core.proofs.book.Book.size.Goals as goal

pub returns-clause-keys : goal.returns-clause-keys
returns-clause-keys g c =
    let book = c.args.self.now in
    let t = g.T.Numbers.numbers book.terrain.value in
    reached_once (g.T.Terrain.has_walls t) (g.T.Terrain.leads t) (g.T.Key.Numbers.numbers book.root.value) (rows_of book) book.sound
