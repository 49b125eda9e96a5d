use Rattle.std.proofs.Common.{◌≡◌, ◌<◌, ◌∙◌, length, sym, ap, subst, inr}
use Rattle.terrain.specs.Reach.{IsReached}
use Rattle.terrain.proofs.CallerLemmas.{at_one, at_within}
use Rattle.explore_core.specs.Books.{Row}
use Rattle.explore_core.specs.Records.{row_of}
use Rattle.explore_core.specs.Views.{rows_of}
use Rattle.explore_core.proofs.RecordRows.{row_read}
use Rattle.explore_core.proofs.Known.{key_reached, key_walls}
use Rattle.explore_core.proofs.book.Book.lead_or_fault.Goals as goal

pub returns-in_ok-key-in-Err-Fault-clause-fault : goal.returns-in_ok-key-in-Err-Fault-clause-fault
returns-in_ok-key-in-Err-Fault-clause-fault g c key fault e =
    let laws = g.met.T.Terrain g.world.𝓛 g.world.𝓜 g.world.𝓡 ((λ s x. x), (λ x. x), (λ x. x), λ x. x) in
    let book = c.args.self.now in
    let rows = rows_of book in
    let numbers = g.T.Key.Numbers.numbers in
    let t = g.T.Numbers.numbers book.terrain.value in
    let found = c.index-record.result.now in
    let at = row_read numbers book.records.items c.args.place found (at_within rows c.args.place c.requires.slot.0 c.requires.slot.1) c.index-record.ensures in
    let s = rw c.in-Err-Fault.field-0-is at c.in-Err-Fault.ensures.stuck in
    let same = ap (λ (r : Row _). r.key) (at_one rows c.args.place s.0 (row_of numbers found) s.1 at) in
    let k : c.in_ok-key-in-Err-Fault.key ≡ key = cc in
    let f : c.in-Err-Fault.fault ≡ fault = cc in
    let n = ap numbers (sym c.in_ok-key-in-Err-Fault.ensures ∙ k) in (
      subst (IsReached (g.T.Terrain.has_walls t) (g.T.Terrain.leads t) (numbers book.root.value)) n (key_reached _ _ _ rows book.sound c.args.place (row_of numbers found) at),
      ∣ inr (length (row_of numbers found).slots, c.args.wall, subst (λ x. g.T.Terrain.has_walls t x (length (row_of numbers found).slots)) n (key_walls _ _ _ rows book.sound (laws.walls_proofs_agree t) c.args.place (row_of numbers found) at), subst (λ (r : Row _). c.args.wall < length r.slots) (at_one rows c.args.place c.requires.slot.0 (row_of numbers found) c.requires.slot.1 at) c.requires.slot.2, subst (g.T.Terrain.is_stuck_at t (numbers key) c.args.wall) f (subst (λ x. g.T.Terrain.is_stuck_at t x c.args.wall c.in-Err-Fault.fault) (same ∙ n) s.2)) ∣₁,
    )
