use Rattle.std.proofs.Common.{◌∙◌, ap}
use Rattle.std.specs.Prelude.{slice_set, List, ℤ}
use Rattle.std.proofs.lemmas.Result.{err_from_is_err_and}
use Rattle.terrain.proofs.CallerLemmas.{at_one}
use Rattle.explore_core.specs.Books.{Row, keys_of}
use Rattle.explore_core.specs.Events.{with_slot}
use Rattle.explore_core.specs.Views.{rows_of}
use Rattle.explore_core.proofs.Closed.{has_at_place}
use Rattle.explore_core.proofs.Refused.{is_open, ticket, refused_fill}
use Rattle.explore_core.proofs.book.Book.fill.Goals as goal

pub returns-in_err-key-clause-refused : goal.returns-in_err-key-clause-refused
returns-in_err-key-clause-refused g c =
    let numbers = g.T.Key.Numbers.numbers in
    let rows = rows_of c.args.self.now in
    let t = g.T.Numbers.numbers c.args.self.now.terrain.value in
    let k = numbers c.args.from.now in
    let p = err_from_is_err_and c.from_residual.result c.from_residual.ensures.1 in
    rw (p.1, p.2) (refused_fill (g.T.Terrain.leads t) (g.T.Terrain.is_stuck_at t) (g.T.Terrain.is_stuck t) rows c.in-Some.place k c.args.wall c.in-Some.ensures.open c.in_err-key.field-0.0 c.in_err-key.ensures.stuck)

pub returns-in_err-key-clause-no_ticket : goal.returns-in_err-key-clause-no_ticket
returns-in_err-key-clause-no_ticket g c closed =
    let numbers = g.T.Key.Numbers.numbers in
    let rows = rows_of c.args.self.now in
    let t = g.T.Numbers.numbers c.args.self.now.terrain.value in
    let k = numbers c.args.from.now in
    absurd (closed (is_open (g.T.Terrain.leads t) (g.T.Terrain.is_stuck_at t) (g.T.Terrain.is_stuck t) rows c.in-Some.place k c.args.wall c.in-Some.ensures.open))

pub returns-in_default-place_of-clause-refused : goal.returns-in_default-place_of-clause-refused
returns-in_default-place_of-clause-refused g c =
    let numbers = g.T.Key.Numbers.numbers in
    let rows = rows_of c.args.self.now in
    let t = g.T.Numbers.numbers c.args.self.now.terrain.value in
    let k = numbers c.args.from.now in
    (ticket (g.T.Terrain.leads t) (g.T.Terrain.is_stuck_at t) (g.T.Terrain.is_stuck t) rows c.in-Some.place k c.args.wall c.in-Some.ensures.open (numbers c.in_ok-key.key) c.in_ok-key.link c.in_ok-key.ensures.lead, c.in_default-place_of.ensures.fresh)

pub returns-in_default-place_of-clause-no_ticket : goal.returns-in_default-place_of-clause-no_ticket
returns-in_default-place_of-clause-no_ticket g c closed =
    let numbers = g.T.Key.Numbers.numbers in
    let rows = rows_of c.args.self.now in
    let t = g.T.Numbers.numbers c.args.self.now.terrain.value in
    let k = numbers c.args.from.now in
    absurd (closed (is_open (g.T.Terrain.leads t) (g.T.Terrain.is_stuck_at t) (g.T.Terrain.is_stuck t) rows c.in-Some.place k c.args.wall c.in-Some.ensures.open))

pub returns-clause-done : goal.returns-clause-done
returns-clause-done g c =
    let numbers = g.T.Key.Numbers.numbers in
    let rows = rows_of c.args.self.now in
    let t = g.T.Numbers.numbers c.args.self.now.terrain.value in
    let k = numbers c.args.from.now in
    let to = c.in-Ok.ensures.found in
    let w = c.write.ensures.filled in
    let row = at_one rows c.in-Some.place w.0 c.in-Some.ensures.open.0 w.2 c.in-Some.ensures.open.1 in
    let target = at_one (keys_of rows) c.in-Ok.to w.1 (numbers c.in_ok-key.key) w.3 to in (
      ticket (g.T.Terrain.leads t) (g.T.Terrain.is_stuck_at t) (g.T.Terrain.is_stuck t) rows c.in-Some.place k c.args.wall c.in-Some.ensures.open (numbers c.in_ok-key.key) c.in_ok-key.link c.in_ok-key.ensures.lead,
      has_at_place rows c.in-Ok.to (numbers c.in_ok-key.key) to,
      w.4 ∙ ap (λ (x : Row _ × List ℤ). slice_set rows c.in-Some.place (with_slot x.0 c.args.wall (record { target = x.1; link = c.in_ok-key.link }))) (λ i. (row i, target i)),
    )

pub returns-clause-no_ticket : goal.returns-clause-no_ticket
returns-clause-no_ticket g c closed =
    let numbers = g.T.Key.Numbers.numbers in
    let rows = rows_of c.args.self.now in
    let t = g.T.Numbers.numbers c.args.self.now.terrain.value in
    let k = numbers c.args.from.now in
    absurd (closed (is_open (g.T.Terrain.leads t) (g.T.Terrain.is_stuck_at t) (g.T.Terrain.is_stuck t) rows c.in-Some.place k c.args.wall c.in-Some.ensures.open))
