use Rattle.explore_core.proofs.Sound.{kept_all, sound_root}
use Rattle.explore_core.proofs.Closed.{closed, rows_agree}
use Rattle.explore_core.proofs.laws.complete_schedules_agree.Goals as goal

pub returns-clause-sound : goal.returns-clause-sound
returns-clause-sound g c t root events rows schedule =
    let walls = g.T.Terrain.has_walls t in
    let leads = g.T.Terrain.leads t in
    kept_all walls leads root g.T.Key.Numbers.numbers events _ rows (sound_root walls leads root schedule.0 schedule.1) schedule.2

pub returns-clause-closed : goal.returns-clause-closed
returns-clause-closed g c t root events rows schedule none =
    let laws = g.met.T.Terrain g.world.𝓛 g.world.𝓜 g.world.𝓡 ((λ s x. x), (λ x. x), (λ x. x), λ x. x) in
    let walls = g.T.Terrain.has_walls t in
    let leads = g.T.Terrain.leads t in
    closed g.T.Terrain.order laws.order_total laws.order_exact walls leads root rows (laws.walls_agree t) (laws.leads_agree t) none ∣ kept_all walls leads root g.T.Key.Numbers.numbers events _ rows (sound_root walls leads root schedule.0 schedule.1) schedule.2 ∣₁

pub returns-clause-agree : goal.returns-clause-agree
returns-clause-agree g c t root events others rows ends schedule other none none' row =
    let laws = g.met.T.Terrain g.world.𝓛 g.world.𝓜 g.world.𝓡 ((λ s x. x), (λ x. x), (λ x. x), λ x. x) in
    let walls = g.T.Terrain.has_walls t in
    let leads = g.T.Terrain.leads t in
    let numbers = g.T.Key.Numbers.numbers in
    let one = kept_all walls leads root numbers events _ rows (sound_root walls leads root schedule.0 schedule.1) schedule.2 in
    let two = kept_all walls leads root numbers others _ ends (sound_root walls leads root other.0 other.1) other.2 in (
      rows_agree walls leads (laws.walls_agree t) (laws.leads_agree t) root g.T.Terrain.order laws.order_total laws.order_exact rows ends one two none none' row,
      rows_agree walls leads (laws.walls_agree t) (laws.leads_agree t) root g.T.Terrain.order laws.order_total laws.order_exact ends rows two one none' none row,
    )
