use Rattle.std.proofs.Common.{◌≡◌, None, Some, sym}
use Rattle.gluing.specs.Tables.{rows_of, entry_of}
use Rattle.gluing.proofs.Twins.{twin_found, twin_there}
use Rattle.gluing.proofs.glued.Glued.twin.Goals as goal

pub returns : goal.returns
returns c =
    let is : Some c.in-Some.twin ≡ entry_of (rows_of c.self.inside.twins.items) (c.args.p, c.args.e) =
    rw (sym c.as_slice.ensures.value) c.in-Some.ensures in
    twin_found _ c.args.self.now (rows_of c.self.inside.twins.items) (c.args.p, c.args.e) c.in-Some.twin c.self.view_is c.self.invariant.1 is

-- Each side that is there has a twin.
pub unreachable-requires : goal.unreachable-requires
unreachable-requires c =
    let is : None ≡ entry_of (rows_of c.self.inside.twins.items) (c.args.p, c.args.e) =
    rw (sym c.as_slice.ensures.value) c.in-None.ensures in
    twin_there _ c.args.self.now (rows_of c.self.inside.twins.items) c.args.p c.args.e c.self.view_is c.self.invariant.0 c.self.invariant.1 c.requires is
