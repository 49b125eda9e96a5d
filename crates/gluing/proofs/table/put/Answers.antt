use Rattle.std.proofs.Common.{◌≡◌, ◌∙◌, ◌<◌, arith, ℕ, Option, Some, List, ap, sym, [], set, get_or, length}
use Rattle.std.specs.Prelude.{Vec}
use Rattle.std.specs.Vec.{with_item}
use Rattle.std.proofs.lemmas.List.{map-set}
use Rattle.gluing.specs.Gluings.{Name}
use Rattle.gluing.specs.Tables.{rows_of}
use Rattle.gluing.proofs.Rooms.{length-rows, row_read}
use Rattle.gluing.proofs.table.put.Goals as goal

put_row : {Z : Type 0} (table : List (Vec (Option Name) Z)) (row : Vec (Option Name) Z) (p e : ℕ) (twin : Name) → get_or (rows_of table) p [] ≡ row.items
    → rows_of (set table p (with_item row e (Some twin))) ≡ set (rows_of table) p (set (get_or (rows_of table) p []) e (Some twin))
put_row {Z} table row p e twin is =
    map-set (λ (row : Vec (Option Name) Z). row.items) table p (with_item row e (Some twin))
    ∙ ap (λ (items : List (Option Name)). set (rows_of table) p (set items e (Some twin))) (sym is)

pub returns : goal.returns
returns c =
    let inside : c.args.p < length c.args.table.now = omega (arith, c.requires.0, length-rows c.args.table.now) in
    put_row c.args.table.now _ c.args.p c.args.e c.args.twin (row_read c.args.table.now c.args.p c.index-table-p.result inside)
