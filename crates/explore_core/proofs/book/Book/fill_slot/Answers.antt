use Rattle.std.proofs.Common.{◌∙◌, refl, sym, ap, subst, inl, Err, None, Some}
use Rattle.std.proofs.lemmas.Result.{err_from_is_err_and}
use Rattle.terrain.specs.declared.graph.ExploreFault.TheVariants.{Fault}
use Rattle.terrain.specs.Places.{IsAt}
use Rattle.terrain.specs.Reach.{IsReached}
use Rattle.terrain.proofs.CallerLemmas.{at_one, at_map, set_here}
use Rattle.std.specs.Prelude.{List, ℤ}
use Rattle.explore_core.specs.Books.{Row, IsFilled, keys_of}
use Rattle.explore_core.specs.Events.{with_slot}
use Rattle.explore_core.specs.Places.{AreWallsOfAdded}
use Rattle.explore_core.specs.Views.{rows_of}
use Rattle.explore_core.proofs.Sound.{keys_of-set}
use Rattle.explore_core.proofs.CallerLemmas.{added_at}
use Rattle.explore_core.proofs.MetAndFilled.{met_and_filled, err_is}
use Rattle.explore_core.proofs.book.Book.fill_slot.Goals as goal

pub returns-in_err-key-clause-fault : goal.returns-in_err-key-clause-fault
returns-in_err-key-clause-fault g c key fault e =
    let p = err_from_is_err_and c.from_residual.result c.from_residual.ensures.1 in
    let f = err_is c.from_residual.result p.0 c.in_err-key.field-0.0 (Fault key fault) p.1 p.2 e in
    c.in_err-key.ensures.fault key fault (ap (λ x. Err x) f)

pub returns-in_err-to-clause-fault : goal.returns-in_err-to-clause-fault
returns-in_err-to-clause-fault g c key fault e =
    let numbers = g.T.Key.Numbers.numbers in
    let t = g.T.Numbers.numbers c.args.self.now.terrain.value in
    let p = err_from_is_err_and c.from_residual-in_err-to.result c.from_residual-in_err-to.ensures.1 in
    let f = err_is c.from_residual-in_err-to.result p.0 c.in_err-to.field-0.0 (Fault key fault) p.1 p.2 e in
    let r = c.in_err-to.ensures.fault key fault (ap (λ x. Err x) f) in
    let n = ap numbers (sym r.0) in
    (subst (IsReached (g.T.Terrain.has_walls t) (g.T.Terrain.leads t) (numbers c.args.self.now.root.value)) n c.in_ok-key.ensures.reached, ∣ inl (subst (λ x. g.T.Terrain.is_stuck t x fault) n r.1) ∣₁)

pub returns-then-is_filled-clause-done : goal.returns-then-is_filled-clause-done
returns-then-is_filled-clause-done g c =
    let rows = rows_of c.args.self.now in
    let f = c.is_filled.ensures.filled c.if-is_filled.true in
    (f.0.key, at_map (λ (r : Row _). r.key) rows c.args.place f.0 f.2, inl (record { place = c.args.place; row = f.0; at = f.2; is = refl }, f.1, f.3, refl))

pub write-requires-after_bounds : goal.write-requires-after_bounds
write-requires-after_bounds g c κs within =
    let numbers = g.T.Key.Numbers.numbers in
    let rows = rows_of c.args.self.now in
    let t = g.T.Numbers.numbers c.args.self.now.terrain.value in
    let s = c.is_filled.ensures.empty c.if-is_filled.false in
    let lead = c.in_ok-key.ensures.lead in (
      lead.0,
      numbers c.in_ok-key.key,
      added_at (g.T.Terrain.has_walls t) rows (rows_of c.put_or_fault.new.self) (numbers c.in_ok-key.key) c.in_ok-to.ensures.added c.args.place lead.0 lead.1,
      subst (λ (r : Row _). IsAt r.slots c.args.wall None) (at_one rows c.args.place s.0 lead.0 s.1 lead.1) s.2,
      c.in_ok-to.ensures.place,
      subst (λ x. g.T.Terrain.leads x lead.0.key c.args.wall (numbers c.in_ok-key.key) c.in_ok-key.link) (sym c.in_ok-to.ensures.names.0) lead.2,
    )

pub returns-clause-done : goal.returns-clause-done
returns-clause-done g c =
    let numbers = g.T.Key.Numbers.numbers in
    let rows = rows_of c.args.self.now in
    let t = g.T.Numbers.numbers c.args.self.now.terrain.value in
    let s = c.is_filled.ensures.empty c.if-is_filled.false in
    let lead = c.in_ok-key.ensures.lead in
    let w = c.write.ensures.filled in (
      lead.0.key,
      at_map (λ (r : Row _). r.key) rows c.args.place lead.0 lead.1,
      met_and_filled (g.T.Terrain.has_walls t) (g.T.Terrain.leads t) rows (rows_of c.put_or_fault.new.self) (rows_of c.write.new.self) c.args.place c.args.wall c.in_ok-to.to lead.0 w.0 (numbers c.in_ok-key.key) w.1 c.in_ok-key.link lead.1 (subst (λ (r : Row _). IsAt r.slots c.args.wall None) (at_one rows c.args.place s.0 lead.0 s.1 lead.1) s.2) lead.2 c.in_ok-to.ensures.added c.in_ok-to.ensures.place w.2 w.3 w.4,
    )

pub returns-clause-filled : goal.returns-clause-filled
returns-clause-filled g c =
    let numbers = g.T.Key.Numbers.numbers in
    let rows = rows_of c.args.self.now in
    let met = rows_of c.put_or_fault.new.self in
    let t = g.T.Numbers.numbers c.args.self.now.terrain.value in
    let s = c.is_filled.ensures.empty c.if-is_filled.false in
    let w = c.write.ensures.filled in
    let stays = added_at (g.T.Terrain.has_walls t) rows met (numbers c.in_ok-key.key) c.in_ok-to.ensures.added c.args.place s.0 s.1 in
    let empty = subst (λ (r : Row _). IsAt r.slots c.args.wall None) (at_one met c.args.place s.0 w.0 stays w.2) s.2 in
    subst (λ (l : List (Row _)). IsFilled l c.args.place c.args.wall) (sym w.4) (with_slot w.0 c.args.wall (record { target = w.1; link = c.in_ok-key.link }), record { target = w.1; link = c.in_ok-key.link }, set_here met c.args.place w.0 (with_slot w.0 c.args.wall (record { target = w.1; link = c.in_ok-key.link })) w.2, set_here w.0.slots c.args.wall None (Some (record { target = w.1; link = c.in_ok-key.link })) empty)

pub returns-clause-walls : goal.returns-clause-walls
returns-clause-walls g c =
    let t = g.T.Numbers.numbers c.args.self.now.terrain.value in
    let met = rows_of c.put_or_fault.new.self in
    let w = c.write.ensures.filled in
    let keys = ap keys_of w.4 ∙ keys_of-set met c.args.place c.args.wall w.0 (record { target = w.1; link = c.in_ok-key.link }) w.2 in
    subst (λ (l : List (List ℤ)). AreWallsOfAdded (g.T.Terrain.are_walls t) (keys_of (rows_of c.args.self.now)) l c.in_ok-to.added) (sym keys) c.in_ok-to.ensures.walls
