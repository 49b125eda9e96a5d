use Rattle.std.proofs.lemmas.Result.{err_from_is_err_and}
use Rattle.explore_core.specs.Views.{rows_of}
use Rattle.explore_core.proofs.Refused.{is_open, ticket, refused_wall, refused_target}
use Rattle.explore_core.proofs.book.Book.meet.Goals as goal

pub returns-in_err-key-clause-refused : goal.returns-in_err-key-clause-refused
returns-in_err-key-clause-refused g c =
    let numbers = g.T.Key.Numbers.numbers in
    let rows = rows_of c.args.self.now in
    let t = g.T.Numbers.numbers c.args.self.now.terrain.value in
    let k = numbers c.args.from.now in
    let p = err_from_is_err_and c.from_residual.result c.from_residual.ensures.1 in
    rw (p.1, p.2) (refused_wall (g.T.Terrain.leads t) (g.T.Terrain.is_stuck_at t) (g.T.Terrain.is_stuck t) rows c.in-Some.place k c.args.wall c.in-Some.ensures.open c.in_err-key.field-0.0 c.in_err-key.ensures.stuck)

pub returns-in_err-key-clause-no_ticket : goal.returns-in_err-key-clause-no_ticket
returns-in_err-key-clause-no_ticket g c closed =
    let numbers = g.T.Key.Numbers.numbers in
    let rows = rows_of c.args.self.now in
    let t = g.T.Numbers.numbers c.args.self.now.terrain.value in
    let k = numbers c.args.from.now in
    absurd (closed (is_open (g.T.Terrain.leads t) (g.T.Terrain.is_stuck_at t) (g.T.Terrain.is_stuck t) rows c.in-Some.place k c.args.wall c.in-Some.ensures.open))

pub returns-in_err-spot-clause-refused : goal.returns-in_err-spot-clause-refused
returns-in_err-spot-clause-refused g c =
    let numbers = g.T.Key.Numbers.numbers in
    let rows = rows_of c.args.self.now in
    let t = g.T.Numbers.numbers c.args.self.now.terrain.value in
    let k = numbers c.args.from.now in
    let p = err_from_is_err_and c.from_residual-in_err-spot.result c.from_residual-in_err-spot.ensures.1 in
    rw (p.1, p.2) (refused_target (g.T.Terrain.leads t) (g.T.Terrain.is_stuck_at t) (g.T.Terrain.is_stuck t) rows c.in-Some.place k c.args.wall c.in-Some.ensures.open c.in_err-spot.field-0.0 (numbers c.in_ok-key.key) c.in_ok-key._link c.in_ok-key.ensures.lead c.in_err-spot.ensures.stuck)

pub returns-in_err-spot-clause-no_ticket : goal.returns-in_err-spot-clause-no_ticket
returns-in_err-spot-clause-no_ticket g c closed =
    let numbers = g.T.Key.Numbers.numbers in
    let rows = rows_of c.args.self.now in
    let t = g.T.Numbers.numbers c.args.self.now.terrain.value in
    let k = numbers c.args.from.now in
    absurd (closed (is_open (g.T.Terrain.leads t) (g.T.Terrain.is_stuck_at t) (g.T.Terrain.is_stuck t) rows c.in-Some.place k c.args.wall c.in-Some.ensures.open))

pub returns-in_default-put-clause-no_ticket : goal.returns-in_default-put-clause-no_ticket
returns-in_default-put-clause-no_ticket g c closed =
    let numbers = g.T.Key.Numbers.numbers in
    let rows = rows_of c.args.self.now in
    let t = g.T.Numbers.numbers c.args.self.now.terrain.value in
    let k = numbers c.args.from.now in
    absurd (closed (is_open (g.T.Terrain.leads t) (g.T.Terrain.is_stuck_at t) (g.T.Terrain.is_stuck t) rows c.in-Some.place k c.args.wall c.in-Some.ensures.open))

pub returns-clause-done : goal.returns-clause-done
returns-clause-done g c =
    let numbers = g.T.Key.Numbers.numbers in
    let rows = rows_of c.args.self.now in
    let t = g.T.Numbers.numbers c.args.self.now.terrain.value in
    let k = numbers c.args.from.now in
    (ticket (g.T.Terrain.leads t) (g.T.Terrain.is_stuck_at t) (g.T.Terrain.is_stuck t) rows c.in-Some.place k c.args.wall c.in-Some.ensures.open (numbers c.in_ok-key.key) c.in_ok-key._link c.in_ok-key.ensures.lead, c.in-Ok.ensures.added)

pub returns-clause-no_ticket : goal.returns-clause-no_ticket
returns-clause-no_ticket g c closed =
    let numbers = g.T.Key.Numbers.numbers in
    let rows = rows_of c.args.self.now in
    let t = g.T.Numbers.numbers c.args.self.now.terrain.value in
    let k = numbers c.args.from.now in
    absurd (closed (is_open (g.T.Terrain.leads t) (g.T.Terrain.is_stuck_at t) (g.T.Terrain.is_stuck t) rows c.in-Some.place k c.args.wall c.in-Some.ensures.open))
