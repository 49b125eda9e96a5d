use Rattle.std.proofs.Common.{◌≡◌, ◌≢◌, ◌≤◌, ◌+◌, ◌∙◌, ◌∷◌, ◌++◌, [], List, length, sym, ap, subst, arith, Err, inl}
use Rattle.std.proofs.lemmas.List.{length-map}
use Rattle.std.specs.Prelude.{ℤ}
use Rattle.std.proofs.lemmas.Result.{err_from_is_err_and}
use mathlib.Core.Logic.{dite}
use native.Mathlib.Decide.{ℕ_discrete}
use Rattle.terrain.specs.declared.graph.ExploreFault.TheVariants.{Fault, Limit}
use Rattle.terrain.specs.Causes.{MoreAreReached, IsStuckWithin}
use Rattle.terrain.specs.Reach.{IsReached}
use Rattle.terrain.proofs.CallerLemmas.{root_reached}
use Rattle.explore_core.specs.Books.{Row, keys_of}
use Rattle.explore_core.specs.Views.{rows_of}
use Rattle.explore_one.specs.Filled.{IsFullAt}
use Rattle.explore_one.specs.Frontiers.{AreWallsFrom}
use Rattle.explore_one.proofs.Frontier.{from_root, first_walls, later_walls, none_later}
use Rattle.explore_one.proofs.Rows.{err_is, full_stays, none_out}
use Rattle.explore_one.proofs.fill.filled_book.Goals as goal

pub returns-in_err-book-clause-fault : goal.returns-in_err-book-clause-fault
returns-in_err-book-clause-fault g c key fault e =
    let numbers = g.T.Key.Numbers.numbers in
    let t = g.T.Numbers.numbers c.args.terrain.now in
    let p = err_from_is_err_and c.from_residual.result c.from_residual.ensures.1 in
    let f = err_is c.from_residual.result p.0 c.in_err-book.field-0.0 (Fault key fault) p.1 p.2 e in
    let r = c.in_err-book.ensures.fault key fault (ap (λ x. Err x) f) in
    let n = ap numbers (sym r.0) in
    (subst (IsReached (g.T.Terrain.has_walls t) (g.T.Terrain.leads t) (numbers c.args.root.now)) n (root_reached (g.T.Terrain.has_walls t) (g.T.Terrain.leads t) (numbers c.args.root.now)), ∣ inl (subst (λ x. g.T.Terrain.is_stuck t x fault) n r.1) ∣₁)

pub returns-in_err-fill_slots-clause-limit : goal.returns-in_err-fill_slots-clause-limit
returns-in_err-fill_slots-clause-limit g c e =
    let inv = c.loop-walls.invariant in
    let p = err_from_is_err_and c.from_residual-in_err-fill_slots.result c.from_residual-in_err-fill_slots.ensures.1 in
    let f = err_is c.from_residual-in_err-fill_slots.result p.0 c.in_err-fill_slots.field-0.0 Limit p.1 p.2 e in
    let t = inv.terrain in
    let r = inv.root in
    subst (λ (x : List ℤ × List ℤ). MoreAreReached (g.T.Terrain.has_walls x.0) (g.T.Terrain.leads x.0) x.1 c.args.limit) (λ i. (t i, r i)) (c.in_err-fill_slots.ensures.limit (ap (λ x. Err x) f))

pub returns-in_err-fill_slots-clause-fault : goal.returns-in_err-fill_slots-clause-fault
returns-in_err-fill_slots-clause-fault g c key fault e =
    let numbers = g.T.Key.Numbers.numbers in
    let inv = c.loop-walls.invariant in
    let p = err_from_is_err_and c.from_residual-in_err-fill_slots.result c.from_residual-in_err-fill_slots.ensures.1 in
    let f = err_is c.from_residual-in_err-fill_slots.result p.0 c.in_err-fill_slots.field-0.0 (Fault key fault) p.1 p.2 e in
    let t = inv.terrain in
    let r = inv.root in
    subst (λ (x : List ℤ × List ℤ). IsStuckWithin (g.T.Terrain.has_walls x.0) (g.T.Terrain.leads x.0) (g.T.Terrain.is_stuck x.0) (g.T.Terrain.is_stuck_at x.0) x.1 (numbers key) fault) (λ i. (t i, r i)) (c.in_err-fill_slots.ensures.fault key fault (ap (λ x. Err x) f))

pub loop-walls-init : goal.loop-walls-init
loop-walls-init g c =
    let book = c.in_ok-book.book in
    record {
      terrain = c.in_ok-book.ensures.names.0;
      root = c.in_ok-book.ensures.names.1;
      few = omega (arith, c.if-limit-size.false, c.size.ensures.size);
      frontier = from_root (g.T.Terrain.are_walls (g.T.Numbers.numbers c.args.terrain.now)) (g.T.Key.Numbers.numbers c.args.root.now) (keys_of (rows_of book)) c.keep_walls.new.frontier.items c.in_ok-book.walls c.in_ok-book.ensures.keys (c.in_ok-keep_walls.ensures ∙ ap (λ l. l ++ c.in_ok-book.walls ∷ []) c.new-frontier.ensures.items) c.in_ok-book.ensures.walls;
      full = λ i h. absurd (omega arith);
    }

pub fill_slots-requires-clause-walls : goal.fill_slots-requires-clause-walls
fill_slots-requires-clause-walls g c κs within =
    let inv = c.loop-walls.invariant in
    let keys = keys_of (rows_of c.loop-walls.book) in
    let f = first_walls (g.T.Terrain.are_walls (g.T.Numbers.numbers c.args.terrain.now)) keys c.loop-walls.place c.loop-walls.frontier.items c.pop_front.new.self.items c.in-Some.walls c.in-Some.ensures.items inv.frontier in
    (f.0, f.1, subst (λ (x : List ℤ). g.T.Terrain.are_walls x f.0 c.in-Some.walls) (sym inv.terrain) f.2)

pub fill_slots-requires-clause-frontier : goal.fill_slots-requires-clause-frontier
fill_slots-requires-clause-frontier g c κs within =
    let inv = c.loop-walls.invariant in
    let keys = keys_of (rows_of c.loop-walls.book) in
    subst (λ (x : List ℤ). AreWallsFrom (g.T.Terrain.are_walls x) keys (c.loop-walls.place + 1) c.pop_front.new.self.items) (sym inv.terrain) (later_walls (g.T.Terrain.are_walls (g.T.Numbers.numbers c.args.terrain.now)) keys c.loop-walls.place c.loop-walls.frontier.items c.pop_front.new.self.items c.in-Some.walls c.in-Some.ensures.items inv.frontier)

pub loop-walls-preserved : goal.loop-walls-preserved
loop-walls-preserved g c =
    let inv = c.loop-walls.invariant in
    let b = rows_of c.loop-walls.book in
    let d = rows_of c.fill_slots.new.book in
    let e = c.in_ok-fill_slots.ensures in
    let low : c.loop-walls.place ≤ length b = (let n = inv.frontier.count in let l = length-map b (λ (r : Row _). r.key) in omega arith) in
    record {
      terrain = e.names.0 ∙ inv.terrain;
      root = e.names.1 ∙ inv.root;
      few = e.few;
      frontier = subst (λ (x : List ℤ). AreWallsFrom (g.T.Terrain.are_walls x) (keys_of d) (c.loop-walls.place + 1) c.fill_slots.new.frontier.items) inv.terrain e.frontier;
      full = λ i h. dite (ℕ_discrete i c.loop-walls.place)
          (λ (s : i ≡ c.loop-walls.place). subst (IsFullAt d) (sym s) e.full)
          (λ (n : i ≢ c.loop-walls.place). full_stays b d i (omega arith) e.keeps (inv.full i (omega arith)));
    }

pub returns-clause-full : goal.returns-clause-full
returns-clause-full g c =
    let inv = c.loop-walls.invariant in
    let b = rows_of c.loop-walls.book in
    let end = none_later (g.T.Terrain.are_walls (g.T.Numbers.numbers c.args.terrain.now)) (keys_of b) c.loop-walls.place c.loop-walls.frontier.items (c.in_default.ensures.items ∙ c.in_default.ensures.rest) inv.frontier in
    none_out b (λ i h. inv.full i (let l = length-map b (λ (r : Row _). r.key) in omega arith))
