use Rattle.std.proofs.Common.{refl}
use Rattle.tri_core.proofs.Carried.{side_from, carried-six}
use Rattle.tri_core.proofs.quadrilateral.write_slots.Goals as goal

pub returns : goal.returns
returns c =
    let n = c.next.ensures in
    let p = c.previous.ensures in
    let q = c.next-2.ensures in
    let r = c.previous-2.ensures in
    let first = c.carried-first.ensures in
    let second = c.carried-second.ensures in
    let third = c.carried-third.ensures in
    let fourth = c.carried-fourth.ensures in
    rw (n, p, q, r) (carried-six c.args.halves.now c.args.edge c.args.twin c.requires.apart c.requires.twin c.requires.edge
    (record { vec = c.args.diagonal.vec; twin = c.args.twin }) (record { vec = c.args.diagonal.opposite; twin = c.args.edge })
    c.carried-first.result c.carried-second.result c.carried-third.result c.carried-fourth.result refl refl
    (side_from _ _ _ _ c.next.result _ n first.vec first.twin) (side_from _ _ _ _ c.previous.result _ p second.vec second.twin)
    (side_from _ _ _ _ c.next-2.result _ q third.vec third.twin) (side_from _ _ _ _ c.previous-2.result _ r fourth.vec fourth.twin))
