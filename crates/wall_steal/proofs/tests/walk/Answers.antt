use Rattle.std.proofs.Common.{length, sym, subst}
use Rattle.terrain.specs.Places.{IsAt}
use Rattle.terrain.proofs.CallerLemmas.{snoc_end}
use Rattle.wall_steal.proofs.tests.walk.Goals as goal

pub start-requires-clause-own : goal.start-requires-clause-own
start-requires-clause-own g c κs within = ∣ c.requires.own ∣₁

pub work-ended-requires-clause-room : goal.work-ended-requires-clause-room
work-ended-requires-clause-room g c κs within =
    let rest = c.pop.new.self.items in
    let thief = c.in-Some.thief in
    c.in_ok-all.ensures.room (length rest) thief (subst (λ l. IsAt l (length rest) thief) (sym c.in-Some.ensures.items) (snoc_end rest thief))
