use Rattle.std.proofs.Common.{◌∙◌, sym}
use Rattle.explore_core.specs.Views.{rows_of}
use Rattle.explore_core.proofs.Closed.{closed}
use Rattle.explore_core.proofs.book.Book.left.Goals as goal

pub returns-clause-closed : goal.returns-clause-closed
returns-clause-closed g c none =
    let laws = g.met.T.Terrain g.world.𝓛 g.world.𝓜 g.world.𝓡 ((λ s x. x), (λ x. x), (λ x. x), λ x. x) in
    let book = c.args.self.now in
    let t = g.T.Numbers.numbers book.terrain.value in
    closed g.T.Terrain.order laws.order_total laws.order_exact (g.T.Terrain.has_walls t) (g.T.Terrain.leads t) (g.T.Key.Numbers.numbers book.root.value) (rows_of book) (laws.walls_agree t) (laws.leads_agree t) (sym book.counted ∙ none) book.sound
