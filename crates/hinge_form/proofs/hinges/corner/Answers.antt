use Rattle.std.proofs.Common.{ℕ, ◌<◌, length, subst, sym}
use Rattle.tri_core.proofs.CallerLemmas.{number_small, previous_inside}
use Rattle.hinge_form.proofs.Corners.{twin_of_read, corner_is}
use Rattle.hinge_form.proofs.hinges.corner.Goals as goal

pub previous-requires : goal.previous-requires
previous-requires c = number_small c.args.tri.now.field c.args.tri.now.halves c.args.h c.requires.valid c.requires.half

pub half-before-requires : goal.half-before-requires
half-before-requires c =
    subst (λ (m : ℕ). m < length c.args.tri.now.halves) (sym c.previous.ensures) (previous_inside c.args.tri.now.field c.args.tri.now.halves c.args.h c.requires.valid c.requires.half)

pub half-requires : goal.half-requires
half-requires c =
    let tri = c.args.tri.now in
    twin_of_read tri.field tri.halves c.previous.result c.requires.valid
    (subst (λ (m : ℕ). m < length c.args.tri.now.halves) (sym c.previous.ensures) (previous_inside tri.field tri.halves c.args.h c.requires.valid c.requires.half))
    c.half-before.result.now c.half-before.ensures

pub returns : goal.returns
returns c =
    let tri = c.args.tri.now in
    corner_is tri.field tri.halves c.args.h c.requires.valid c.requires.half c.previous.result c.half-before.result.now c.half.result.now c.previous.ensures c.half-before.ensures c.half.ensures
