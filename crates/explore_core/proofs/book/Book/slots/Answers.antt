use Rattle.std.proofs.Common.{length, arith}
use Rattle.std.specs.Prelude.{option_map}
use Rattle.std.proofs.lemmas.List.{length-map}
use Rattle.explore_core.specs.Records.{row_of, slot_of}
use Rattle.explore_core.specs.Views.{rows_of}
use Rattle.explore_core.proofs.RecordRows.{row_read}
use Rattle.explore_core.proofs.Known.{key_walls}
use Rattle.explore_core.proofs.book.Book.slots.Goals as goal

pub overflow_cast-result : goal.overflow_cast-result
overflow_cast-result g c =
    let laws = g.met.T.Terrain g.world.𝓛 g.world.𝓜 g.world.𝓡 ((λ s x. x), (λ x. x), (λ x. x), λ x. x) in
    let numbers = g.T.Key.Numbers.numbers in
    let book = c.args.self.now in
    let t = g.T.Numbers.numbers book.terrain.value in
    let record_ = c.index.result.now in
    let at = row_read numbers book.records.items c.args.place record_ c.requires c.index.ensures in
    let few = laws.walls_few t (numbers record_.key) (length (row_of numbers record_).slots) (key_walls (g.T.Terrain.has_walls t) (g.T.Terrain.leads t) (numbers book.root.value) (rows_of book) book.sound (laws.walls_proofs_agree t) c.args.place (row_of numbers record_) at) in
    let long = length-map record_.slots.items (option_map (slot_of numbers)) in
    let len = record_.slots.ok.0 in
    omega arith

pub returns : goal.returns
returns g c =
    let numbers = g.T.Key.Numbers.numbers in
    let record_ = c.index.result.now in
    (row_of numbers record_, row_read numbers c.args.self.now.records.items c.args.place record_ c.requires c.index.ensures, (let long = length-map record_.slots.items (option_map (slot_of numbers)) in let len = record_.slots.ok.0 in omega arith))
