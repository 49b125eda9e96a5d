use Rattle.std.proofs.Common.{List, ◌∙◌, sym, subst}
use Rattle.std.specs.Prelude.{ℤ}
use mathlib.Core.Logic.{∥∥₁_elim}
use Rattle.wall_steal.proofs.walls.find_walls.Goals as goal

pub find_walls-requires : goal.find_walls-requires
find_walls-requires g c =
    let laws = g.met.T.Terrain g.world.𝓛 g.world.𝓜 g.world.𝓡 ((λ s x. x), (λ x. x), (λ x. x), λ x. x) in
    let numbers = g.T.Key.Numbers.numbers in
    let t = g.N.Naming.terrain in
    let k = numbers c.args.target in
    let own = ∥∥₁_elim c.requires.own (laws.own_proofs_agree t k) (λ (o : g.T.Terrain.is_own t k). o) in
    let same = c.deref.ensures ∙ c.in-Ok.ensures.ok in
    subst (λ (x : List ℤ × List ℤ). g.T.Terrain.is_own x.0 x.1) (λ i. (sym c.requires.terrain i, numbers (sym same i))) own
