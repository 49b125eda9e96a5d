use Rattle.std.proofs.Common.{ℕ, ◌<◌, length, subst, sym}
use Rattle.tri_core.proofs.CallerLemmas.{number_small, next_inside}
use Rattle.hinge_form.proofs.Corners.{twin_of_read, far_corner_is}
use Rattle.hinge_form.proofs.hinges.far_corner.Goals as goal

pub next-requires : goal.next-requires
next-requires c =
    let tri = c.args.tri.now in
    let half = c.half.result.now in
    number_small tri.field tri.halves half.twin c.requires.valid (twin_of_read tri.field tri.halves c.args.h c.requires.valid c.requires.half half c.half.ensures)

pub half-requires-2 : goal.half-requires-2
half-requires-2 c =
    let tri = c.args.tri.now in
    let half = c.half.result.now in
    subst (λ (m : ℕ). m < length c.args.tri.now.halves) (sym c.next.ensures)
    (next_inside tri.field tri.halves half.twin c.requires.valid (twin_of_read tri.field tri.halves c.args.h c.requires.valid c.requires.half half c.half.ensures))

pub returns : goal.returns
returns c =
    let tri = c.args.tri.now in
    far_corner_is tri.field tri.halves c.args.h c.requires.valid c.requires.half c.next.result c.half.result.now c.half-2.result.now c.next.ensures c.half.ensures c.half-2.ensures
