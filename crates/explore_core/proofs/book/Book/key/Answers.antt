use Rattle.explore_core.specs.Books.{Row}
use Rattle.explore_core.specs.Records.{row_of}
use Rattle.explore_core.specs.Views.{rows_of}
use Rattle.terrain.proofs.CallerLemmas.{at_map}
use Rattle.explore_core.proofs.RecordRows.{row_read}
use Rattle.explore_core.proofs.book.Book.key.Goals as goal

pub returns : goal.returns
returns g c =
    let numbers = g.T.Key.Numbers.numbers in
    let book = c.args.self.now in
    at_map (λ (r : Row g.row.T-Link.Denot). r.key) (rows_of book) c.args.place (row_of numbers c.index.result.now) (row_read numbers book.records.items c.args.place c.index.result.now c.requires c.index.ensures)
