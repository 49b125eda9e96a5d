use Rattle.std.proofs.Common.{◌∙◌, ◌+◌, ◌≤◌, ℕ, List, length, sym, ap, subst, arith}
use Rattle.std.specs.Prelude.{ℤ}
use Rattle.std.specs.Arc.{arc_value}
use Rattle.std.proofs.lemmas.List.{length-map}
use Rattle.explore_core.specs.Books.{Row}
use Rattle.class_shards.specs.Keepers.{keeper_number}
use Rattle.class_shards.specs.Stored.{slots_of}
use Rattle.class_shards.specs.Views.{rows_of}
use Rattle.terrain.specs.Places.{IsAt}
use Rattle.terrain.specs.Reach.{AreReachedOnce}
use Rattle.class_shards.proofs.Meetings.{reached_once, both_ok, either_ok, there_or_not, not_there_new}
use Rattle.class_shards.proofs.Stored.{rows_length}
use Rattle.class_shards.proofs.lock.meet_in.Goals as goal

pub returns-clause-keys : goal.returns-clause-keys
returns-clause-keys g c =
    let t = g.N.Naming.terrain in
    let s = c.meet.new.self in
    let rows = rows_of s in
    let once = reached_once (g.T.Terrain.has_walls t) (g.T.Terrain.leads t) g.T.Terrain.shard g.N.Naming.root (keeper_number s.keeper) rows s.sound in
    let l = rows_length (λ a. g.T.Key.Numbers.numbers (arc_value a)) slots_of s.keys.items s.rows.items s.long in
    let below = s.few in
    let limit = s.limited.0 in
    let ok = s.rows.ok.0 in
    let few : length rows ≤ g.N.Naming.limit + 1 = omega arith in
    both_ok c.meet.result c.meet.ensures.count c.meet.ensures.receipt (λ x p q. (
      p ∙ sym (length-map rows (λ (y : Row _). y.key)) ∙ sym (ap length q.1),
      subst (λ (l : List (List ℤ)). AreReachedOnce (g.T.Terrain.has_walls t) (g.T.Terrain.leads t) g.N.Naming.root l) (sym q.1) once,
      subst (λ (n : ℕ). n ≤ g.N.Naming.limit + 1) (sym p) few,
    ))

pub returns-clause-tickets : goal.returns-clause-tickets
returns-clause-tickets g c =
    let k = g.T.Key.Numbers.numbers (arc_value c.args.key) in
    let before = rows_of c.deref_mut.result.now.shard in
    either_ok c.meet.result (there_or_not (g.T.Terrain.has_walls g.N.Naming.terrain) k before (rows_of c.meet.new.self)) c.meet.ensures.met c.meet.ensures.none c.meet.ensures.tickets c.meet.ensures.each (λ x count each. record { count = count; each = each })

pub returns-clause-full : goal.returns-clause-full
returns-clause-full g c = λ r k z e.
    let t = g.N.Naming.terrain in
    let s = c.deref_mut.result.now.shard in
    let rows = rows_of s in
    let key = g.T.Key.Numbers.numbers (arc_value c.args.key) in
    let once = reached_once (g.T.Terrain.has_walls t) (g.T.Terrain.leads t) g.T.Terrain.shard g.N.Naming.root (keeper_number s.keeper) rows s.sound in
    let f = c.meet.ensures.full r k z e in (
      f.3 ∙ ap g.N.Naming.logs (c.deref_mut.result.now.is ∙ sym c.requires.belongs),
      ap length f.4 ∙ length-map rows (λ (y : Row _). y.key) ∙ f.1,
      subst (λ (l : List (List ℤ)). AreReachedOnce (g.T.Terrain.has_walls t) (g.T.Terrain.leads t) g.N.Naming.root l) (sym f.4) once,
      f.2,
      λ i at. not_there_new rows key f.0 i (subst (λ (l : List (List ℤ)). IsAt l i key) f.4 at),
    )
