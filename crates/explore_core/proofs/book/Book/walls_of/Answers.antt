use Rattle.std.proofs.Common.{refl}
use Rattle.explore_core.proofs.Known.{own_as, own_of}
use Rattle.explore_core.proofs.book.Book.walls_of.Goals as goal

pub find_walls-requires : goal.find_walls-requires
find_walls-requires g c =
    let laws = g.met.T.Terrain g.world.𝓛 g.world.𝓜 g.world.𝓡 ((λ s x. x), (λ x. x), (λ x. x), λ x. x) in
    let book = c.args.self.now in
    let t = g.T.Numbers.numbers book.terrain.value in
    own_as g.T.Terrain.is_own _ _ _ _ c.requires.terrain refl (own_of (g.T.Terrain.has_walls t) (g.T.Terrain.leads t) (g.T.Key.Numbers.numbers book.root.value) (g.T.Terrain.is_own t) (laws.own_proofs_agree t) (laws.leads_own t) (g.T.Key.Numbers.numbers c.args.key.now) book.own c.requires.reached)
