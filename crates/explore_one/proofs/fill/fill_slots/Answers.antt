use Rattle.std.proofs.Common.{◌≡◌, ◌+◌, ◌∙◌, List, sym, ap, subst, arith, Err}
use Rattle.std.specs.Prelude.{ℤ}
use Rattle.std.proofs.lemmas.List.{length-map}
use Rattle.std.proofs.lemmas.Result.{err_from_is_err_and}
use Rattle.terrain.specs.declared.graph.ExploreFault.TheVariants.{Fault}
use Rattle.terrain.specs.Causes.{IsStuckWithin}
use Rattle.terrain.proofs.CallerLemmas.{at_map, at_one, at_within}
use Rattle.explore_core.specs.Books.{Row, keys_of}
use Rattle.explore_core.specs.Places.{AreWallsOfAdded}
use Rattle.explore_core.specs.Views.{rows_of, terrain_of}
use Rattle.explore_core.proofs.CallerLemmas.{fills_keeps}
use Rattle.explore_one.proofs.Frontier.{walls_more, key_stays}
use Rattle.explore_one.proofs.Rows.{err_is, keeps_more, filled_more, full_at}
use Rattle.explore_one.proofs.fill.fill_slots.Goals as goal

pub slots-wall-end-requires-after_bounds : goal.slots-wall-end-requires-after_bounds
slots-wall-end-requires-after_bounds g c κs within =
    let rows = rows_of c.args.book.now in
    let w = at_within (keys_of rows) c.args.place c.requires.walls.0 c.requires.walls.1 in
    let l = length-map rows (λ (r : Row _). r.key) in
    omega arith

pub fill_slot-requires-clause-slot : goal.fill_slot-requires-clause-slot
fill_slot-requires-clause-slot g c κs within =
    let inv = c.loop-wall.invariant in
    let rows = rows_of c.loop-wall.book in
    let r = inv.row.0 in
    let k = inv.walls in
    let same : k.0 ≡ r.key = at_one (keys_of rows) c.args.place k.0 r.key k.1 (at_map (λ (q : Row _). q.key) rows c.args.place r inv.row.1) in (
      r,
      inv.row.1,
      (let e = inv.row.2 in let h = c.loop-wall-test.true in omega arith),
      subst (λ (x : List ℤ × List ℤ). g.T.Terrain.are_walls x.0 x.1 c.args.walls.now) (λ i. (sym inv.terrain i, same i)) k.2,
    )

pub loop-wall-preserved : goal.loop-wall-preserved
loop-wall-preserved g c =
    let inv = c.loop-wall.invariant in
    let t = terrain_of c.loop-wall.book in
    let b = rows_of c.loop-wall.book in
    let d = rows_of c.fill_slot.new.self in
    let done = c.in_ok-added.ensures.done in
    let keeps = fills_keeps (g.T.Terrain.has_walls t) (g.T.Terrain.leads t) done.0 c.loop-wall.wall b d done.2 in
    let found = g.T.Terrain.are_walls (terrain_of c.args.book.now) in
    let added = subst (λ (x : List ℤ). AreWallsOfAdded (g.T.Terrain.are_walls x) (keys_of b) (keys_of d) c.in_ok-added.added) inv.terrain c.in_ok-added.ensures.walls in
    record {
      terrain = c.in_ok-added.ensures.names.0 ∙ inv.terrain;
      root = c.in_ok-added.ensures.names.1 ∙ inv.root;
      few = omega (arith, c.if-size-limit.false, c.size.ensures.size);
      keeps = keeps_more (rows_of c.args.book.now) b d inv.keeps keeps;
      row = filled_more b d c.args.place _ c.loop-wall.wall inv.row keeps c.in_ok-added.ensures.filled;
      walls = (inv.walls.0, key_stays found (keys_of b) (keys_of d) c.in_ok-added.added c.args.place inv.walls.0 added inv.walls.1, inv.walls.2);
      frontier = walls_more found (keys_of b) (c.args.place + 1) (keys_of d) c.loop-wall.frontier.items c.keep_walls.new.frontier.items c.in_ok-added.added c.in_ok-keep_walls.ensures added inv.frontier;
    }

pub returns-in_err-added-clause-fault : goal.returns-in_err-added-clause-fault
returns-in_err-added-clause-fault g c key fault e =
    let numbers = g.T.Key.Numbers.numbers in
    let inv = c.loop-wall.invariant in
    let p = err_from_is_err_and c.from_residual.result c.from_residual.ensures.1 in
    let f = err_is c.from_residual.result p.0 c.in_err-added.field-0.0 (Fault key fault) p.1 p.2 e in
    let t = inv.terrain in
    let r = inv.root in
    subst (λ (x : List ℤ × List ℤ). IsStuckWithin (g.T.Terrain.has_walls x.0) (g.T.Terrain.leads x.0) (g.T.Terrain.is_stuck x.0) (g.T.Terrain.is_stuck_at x.0) x.1 (numbers key) fault) (λ i. (t i, r i)) (c.in_err-added.ensures.fault key fault (ap (λ x. Err x) f))

pub returns-clause-full : goal.returns-clause-full
returns-clause-full g c = full_at (rows_of c.loop-wall.book) c.args.place _ c.loop-wall.wall c.loop-wall.invariant.row (omega arith)
