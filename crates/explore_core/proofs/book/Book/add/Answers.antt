use Rattle.std.proofs.Common.{◌≡◌, length, arith, sym, ◌∙◌, subst, ap}
use Rattle.std.specs.Prelude.{insert}
use mathlib.Core.Logic.{∥∥₁_map}
use Rattle.std.proofs.lemmas.List.{length-map}
use Rattle.explore_core.specs.Books.{Row, HasKey, IsSound, keys_of, out}
use Rattle.explore_core.specs.Records.{row_of}
use Rattle.explore_core.specs.Views.{rows_of}
use Rattle.explore_core.proofs.Sound.{sound_added, keys_of-append}
use Rattle.explore_core.proofs.CallerLemmas.{index_more, index_as}
use Rattle.explore_core.proofs.Searches.{not_there}
use Rattle.explore_core.proofs.Closed.{key_at}
use Rattle.explore_core.proofs.RecordRows.{rows-added, placed-added}
use Rattle.explore_core.proofs.Outs.{out_few, out-append}
use Rattle.explore_core.proofs.book.Book.add.Goals as goal

pub overflow_add-self : goal.overflow_add-self
overflow_add-self g c =
    let laws = g.met.T.Terrain g.world.𝓛 g.world.𝓜 g.world.𝓡 ((λ s x. x), (λ x. x), (λ x. x), λ x. x) in
    let book = c.args.self.now in
    let t = g.T.Numbers.numbers book.terrain.value in
    let few = out_few (g.T.Terrain.has_walls t) (g.T.Terrain.leads t) (g.T.Key.Numbers.numbers book.root.value) (rows_of book) (laws.walls_few t) book.sound in
    let k = book.counted in
    let room = c.requires.room in
    let from = c.from.ensures in
    omega arith

pub invariant_of-self-2-clause-sound : goal.invariant_of-self-2-clause-sound
invariant_of-self-2-clause-sound g c =
    let laws = g.met.T.Terrain g.world.𝓛 g.world.𝓜 g.world.𝓡 ((λ s x. x), (λ x. x), (λ x. x), λ x. x) in
    let numbers = g.T.Key.Numbers.numbers in
    let book = c.args.self.now in
    let rows = rows_of book in
    let new = rows-added numbers book.records.items c.push.new.self.items (record { key = c.args.key; slots = c.in_ok-slots.slots }) c.args.walls c.in_ok-push.ensures.items c.in_ok-slots.ensures in
    let fresh = λ (h : HasKey rows (numbers c.args.key)). not_there g.T.Terrain.order (keys_of rows) book.places.items (numbers c.args.key) laws.order_total book.index c.args.index c.requires.gap h.place (key_at rows (numbers c.args.key) h) in
    let walls = c.requires.walls in
    ∥∥₁_map book.sound (λ (s : IsSound _ _ _ rows). subst (IsSound _ _ _) (sym new) (sound_added _ _ _ rows (numbers c.args.key) c.args.walls s c.requires.reached fresh walls))

pub invariant_of-self-2-clause-placed : goal.invariant_of-self-2-clause-placed
invariant_of-self-2-clause-placed g c = placed-added g.T.Key.Numbers.numbers c.args.self.now.records.items c.push.new.self.items (record { key = c.args.key; slots = c.in_ok-slots.slots }) c.args.walls c.in_ok-push.ensures.items c.in_ok-slots.ensures c.args.self.now.placed

pub invariant_of-self-2-clause-index : goal.invariant_of-self-2-clause-index
invariant_of-self-2-clause-index g c =
    let numbers = g.T.Key.Numbers.numbers in
    let book = c.args.self.now in
    let rows = rows_of book in
    let new = rows-added numbers book.records.items c.push.new.self.items (record { key = c.args.key; slots = c.in_ok-slots.slots }) c.args.walls c.in_ok-push.ensures.items c.in_ok-slots.ensures in
    let place : c.len-place.result ≡ length (keys_of rows) = (let v = book.records.ok.0 in let l = length-map book.records.items (row_of numbers) in let m = length-map rows (λ (r : Row _). r.key) in let e = c.len-place.ensures in omega arith) in
    let places = c.in_ok-insert.ensures.items ∙ ap (λ l. insert l c.args.index c.len-place.result) c.in_ok-reserve.ensures.items ∙ ap (insert book.places.items c.args.index) place in
    index_as g.T.Terrain.order _ _ _ _ (ap keys_of new ∙ keys_of-append rows (numbers c.args.key) c.args.walls) places (index_more g.T.Terrain.order (keys_of rows) book.places.items (numbers c.args.key) c.args.index book.index c.requires.gap)

pub invariant_of-self-2-clause-counted : goal.invariant_of-self-2-clause-counted
invariant_of-self-2-clause-counted g c =
    let numbers = g.T.Key.Numbers.numbers in
    let book = c.args.self.now in
    let new = rows-added numbers book.records.items c.push.new.self.items (record { key = c.args.key; slots = c.in_ok-slots.slots }) c.args.walls c.in_ok-push.ensures.items c.in_ok-slots.ensures in
    let k = book.counted in
    let e = c.from.ensures in
    let o = ap out new in
    let m = out-append (rows_of book) (numbers c.args.key) c.args.walls in
    omega arith

pub returns-clause-added : goal.returns-clause-added
returns-clause-added g c = rows-added g.T.Key.Numbers.numbers c.args.self.now.records.items c.push.new.self.items (record { key = c.args.key; slots = c.in_ok-slots.slots }) c.args.walls c.in_ok-push.ensures.items c.in_ok-slots.ensures
