use Rattle.std.proofs.Common.{◌<◌, length, arith, sym, ap, subst, refl}
use Rattle.std.proofs.lemmas.List.{length-map}
use Rattle.std.proofs.lemmas.Result.{MatchResult-weaker}
use Rattle.terrain.specs.Stops.{IfFault}
use Rattle.terrain.proofs.CallerLemmas.{at_one, at_within}
use Rattle.explore_core.specs.Books.{Row}
use Rattle.explore_core.specs.Records.{row_of}
use Rattle.explore_core.specs.Views.{rows_of}
use Rattle.explore_core.proofs.RecordRows.{row_read}
use Rattle.explore_core.proofs.Known.{own_as, own_of, key_reached, key_walls, lead_is_reached}
use Rattle.explore_core.proofs.book.Book.lead_among.Goals as goal

pub index-record-requires : goal.index-record-requires
index-record-requires g c =
    let book = c.args.self.now in
    let h = at_within (rows_of book) c.args.place c.requires.slot.0 c.requires.slot.1 in
    let l = length-map book.records.items (row_of g.T.Key.Numbers.numbers) in
    let v = book.records.ok.0 in
    omega arith

pub cross_found-requires-clause-own : goal.cross_found-requires-clause-own
cross_found-requires-clause-own g c =
    let laws = g.met.T.Terrain g.world.𝓛 g.world.𝓜 g.world.𝓡 ((λ s x. x), (λ x. x), (λ x. x), λ x. x) in
    let book = c.args.self.now in
    let numbers = g.T.Key.Numbers.numbers in
    let t = g.T.Numbers.numbers book.terrain.value in
    let found = c.index-record.result.now in
    let at = row_read numbers book.records.items c.args.place found (at_within (rows_of book) c.args.place c.requires.slot.0 c.requires.slot.1) c.index-record.ensures in
    own_as g.T.Terrain.is_own _ _ _ _ c.requires.terrain refl (own_of (g.T.Terrain.has_walls t) (g.T.Terrain.leads t) (numbers book.root.value) (g.T.Terrain.is_own t) (laws.own_proofs_agree t) (laws.leads_own t) (numbers found.key) book.own (key_reached _ _ _ (rows_of book) book.sound c.args.place (row_of numbers found) at))

pub cross_found-requires-clause-wall : goal.cross_found-requires-clause-wall
cross_found-requires-clause-wall g c =
    let laws = g.met.T.Terrain g.world.𝓛 g.world.𝓜 g.world.𝓡 ((λ s x. x), (λ x. x), (λ x. x), λ x. x) in
    let book = c.args.self.now in
    let numbers = g.T.Key.Numbers.numbers in
    let found = c.index-record.result.now in
    let at = row_read numbers book.records.items c.args.place found (at_within (rows_of book) c.args.place c.requires.slot.0 c.requires.slot.1) c.index-record.ensures in
    let same = at_one (rows_of book) c.args.place c.requires.slot.0 (row_of numbers found) c.requires.slot.1 at in
    (length (row_of numbers found).slots, subst (λ x. g.T.Terrain.has_walls x (numbers found.key) (length (row_of numbers found).slots)) (sym c.requires.terrain) (key_walls _ _ _ (rows_of book) book.sound (laws.walls_proofs_agree (g.T.Numbers.numbers book.terrain.value)) c.args.place (row_of numbers found) at), subst (λ (q : Row _). c.args.wall < length q.slots) same c.requires.slot.2)

pub returns-clause-lead : goal.returns-clause-lead
returns-clause-lead g c =
    let book = c.args.self.now in
    let numbers = g.T.Key.Numbers.numbers in
    let found = c.index-record.result.now in
    let at = row_read numbers book.records.items c.args.place found (at_within (rows_of book) c.args.place c.requires.slot.0 c.requires.slot.1) c.index-record.ensures in
    MatchResult-weaker c.cross_found.result c.cross_found.ensures.lead (λ r leads. (row_of numbers found, at, subst (λ x. g.T.Terrain.leads x (numbers found.key) c.args.wall (numbers r.0) r.1) c.requires.terrain leads)) (λ e h. h)

pub returns-clause-reached : goal.returns-clause-reached
returns-clause-reached g c =
    let book = c.args.self.now in
    let numbers = g.T.Key.Numbers.numbers in
    let found = c.index-record.result.now in
    let at = row_read numbers book.records.items c.args.place found (at_within (rows_of book) c.args.place c.requires.slot.0 c.requires.slot.1) c.index-record.ensures in
    let same = at_one (rows_of book) c.args.place c.requires.slot.0 (row_of numbers found) c.requires.slot.1 at in
    MatchResult-weaker c.cross_found.result c.cross_found.ensures.lead (λ r leads. lead_is_reached _ _ _ (rows_of book) book.sound c.args.place (row_of numbers found) c.args.wall (numbers r.0) r.1 at (subst (λ (q : Row _). c.args.wall < length q.slots) same c.requires.slot.2) (subst (λ x. g.T.Terrain.leads x (numbers found.key) c.args.wall (numbers r.0) r.1) c.requires.terrain leads)) (λ e h. h)

pub returns-clause-stuck : goal.returns-clause-stuck
returns-clause-stuck g c =
    let book = c.args.self.now in
    let numbers = g.T.Key.Numbers.numbers in
    let found = c.index-record.result.now in
    let at = row_read numbers book.records.items c.args.place found (at_within (rows_of book) c.args.place c.requires.slot.0 c.requires.slot.1) c.index-record.ensures in
    MatchResult-weaker c.cross_found.result c.cross_found.ensures.stuck (λ r h. h) (λ stop h. (row_of numbers found, at, subst (λ x. IfFault stop (g.T.Terrain.is_stuck_at x (numbers found.key) c.args.wall)) c.requires.terrain h))

pub cross_found-requires-clause-found : goal.cross_found-requires-clause-found
cross_found-requires-clause-found g c =
    let book = c.args.self.now in
    let numbers = g.T.Key.Numbers.numbers in
    let found = c.index-record.result.now in
    let at = row_read numbers book.records.items c.args.place found (at_within (rows_of book) c.args.place c.requires.slot.0 c.requires.slot.1) c.index-record.ensures in
    let same = ap (λ (r : Row _). r.key) (at_one (rows_of book) c.args.place c.requires.slot.0 (row_of numbers found) c.requires.slot.1 at) in
    subst (λ x. g.T.Terrain.are_walls x (numbers found.key) c.args.walls.now) (sym c.requires.terrain) (subst (λ k. g.T.Terrain.are_walls (g.T.Numbers.numbers book.terrain.value) k c.args.walls.now) same c.requires.slot.3)
