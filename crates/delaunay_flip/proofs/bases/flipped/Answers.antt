use Rattle.std.proofs.Common.{◌+◌, refl, subst, arith}
use Rattle.quad_field.specs.FieldNumber.{IsFieldNumber}
use Rattle.hinge_form.proofs.CallerLemmas.{place_inside}
use Rattle.delaunay_flip.proofs.Finding.{least_some, least_none, right_not_kept, first_kept, right_ended, right_weak, right_strict, next_kept, right_not_flipped}
use Rattle.delaunay_flip.proofs.bases.flipped.Goals as goal

pub returns-in-Err : goal.returns-in-Err
returns-in-Err c =
    let tri = c.args.tri.now in
    let field : IsFieldNumber tri.field = subst IsFieldNumber c.requires.field c.is_valid.ensures.number in
    let place = place_inside tri.field c.args.at.now c.requires.point in
    rw c.not_kept.ensures (right_not_kept tri field c.is_valid.ensures.valid c.args.at.now place c.args.flips c.in-Err.fault c.in-Err.ensures.wide)

pub loop-alloc-init : goal.loop-alloc-init
loop-alloc-init c =
    let tri = c.args.tri.now in
    let field : IsFieldNumber tri.field = subst IsFieldNumber c.requires.field c.is_valid.ensures.number in
    let place = place_inside tri.field c.args.at.now c.requires.point in
    first_kept tri field c.is_valid.ensures.valid c.args.at.now place c.args.flips c.in-Ok.kept c.in-Ok.ensures.kept.0 c.in-Ok.ensures.kept.1 c.in-Ok.ensures.fits

pub returns-then-made-flips : goal.returns-then-made-flips
returns-then-made-flips c =
    let tri = c.args.tri.now in
    let field : IsFieldNumber tri.field = subst IsFieldNumber c.requires.field c.is_valid.ensures.number in
    let place = place_inside tri.field c.args.at.now c.requires.point in
    let some = least_some _ c.least.result c.least.ensures c.loop-alloc-test.ensures in
    right_ended tri field c.is_valid.ensures.valid c.args.at.now place c.args.flips c.loop-alloc.made c.loop-alloc.kept c.loop-alloc.invariant c.if-made-flips.true some.0 some.1

pub flip-requires-clause-some : goal.flip-requires-clause-some
flip-requires-clause-some c = least_some _ c.least.result c.least.ensures c.loop-alloc-test.ensures

pub returns-in-Err-flip : goal.returns-in-Err-flip
returns-in-Err-flip c =
    let tri = c.args.tri.now in
    let field : IsFieldNumber tri.field = subst IsFieldNumber c.requires.field c.is_valid.ensures.number in
    let place = place_inside tri.field c.args.at.now c.requires.point in
    right_not_flipped tri field c.is_valid.ensures.valid c.args.at.now place c.args.flips c.loop-alloc.made c.loop-alloc.kept c.loop-alloc.invariant
    c.in-Err-flip.fault c.not_flipped.result (omega (arith, c.if-made-flips.false, c.loop-alloc.invariant.comes.within)) c.in-Err-flip.ensures.wide c.not_flipped.ensures.here c.not_flipped.ensures.after

pub loop-alloc-preserved : goal.loop-alloc-preserved
loop-alloc-preserved c =
    let tri = c.args.tri.now in
    let e = c.in-Ok-flip.ensures in
    let field : IsFieldNumber tri.field = subst IsFieldNumber c.requires.field c.is_valid.ensures.number in
    let place = place_inside tri.field c.args.at.now c.requires.point in
    next_kept tri field c.is_valid.ensures.valid c.args.at.now place c.args.flips c.loop-alloc.made c.loop-alloc.kept c.loop-alloc.invariant (c.loop-alloc.made + 1) c.in-Ok-flip.next refl
    (omega (arith, c.if-made-flips.false, c.loop-alloc.invariant.comes.within)) e.field e.point e.flipped e.diagonal e.fits

pub returns-in-Some : goal.returns-in-Some
returns-in-Some c =
    let tri = c.args.tri.now in
    let field : IsFieldNumber tri.field = subst IsFieldNumber c.requires.field c.is_valid.ensures.number in
    let place = place_inside tri.field c.args.at.now c.requires.point in
    right_weak tri field c.is_valid.ensures.valid c.args.at.now place c.args.flips c.loop-alloc.made c.loop-alloc.kept c.loop-alloc.invariant c.in-Some.edge
    (least_none _ c.least.result c.least.ensures c.loop-alloc-test.ensures) c.in-Some.ensures

pub returns-in-None : goal.returns-in-None
returns-in-None c =
    let tri = c.args.tri.now in
    let field : IsFieldNumber tri.field = subst IsFieldNumber c.requires.field c.is_valid.ensures.number in
    let place = place_inside tri.field c.args.at.now c.requires.point in
    right_strict tri field c.is_valid.ensures.valid c.args.at.now place c.args.flips c.loop-alloc.made c.loop-alloc.kept c.loop-alloc.invariant
    (record { tri = c.into_tri.result; point = c.args.at.now; flips = c.loop-alloc.made }) c.into_tri.ensures refl refl (least_none _ c.least.result c.least.ensures c.loop-alloc-test.ensures) c.in-None.ensures
