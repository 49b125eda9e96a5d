use Rattle.std.proofs.Common.{◌≡◌, ◌∙◌, ℕ, ◌<◌, length, refl, sym, subst, arith}
use Rattle.std.specs.Prelude.{slice_index}
use Rattle.quad_field.specs.FieldNumber.{IsFieldNumber}
use Rattle.tri_core.specs.Flips.{IsStrictlyConvex, DiagonalFits}
use Rattle.tri_core.specs.SeveralFlips.{AfterFirst}
use Rattle.wall_cross.proofs.Ahead.{next_edge, next_convex, next_fits, after_more, all_flipped}
use Rattle.wall_cross.proofs.flips.flip_all.Goals as goal

pub loop-i-init : goal.loop-i-init
loop-i-init c = record { field = refl; flipped = refl }

pub flip_one-requires-clause-field : goal.flip_one-requires-clause-field
flip_one-requires-clause-field c = c.requires.field ∙ sym c.loop-i.invariant.field

pub flip_one-requires-clause-edge : goal.flip_one-requires-clause-edge
flip_one-requires-clause-edge c =
    let d = c.args.tri.now.field in
    let less : c.loop-i.i < length c.args.edges.now = omega (arith, c.loop-i-test.true) in
    let field : IsFieldNumber d = subst IsFieldNumber c.requires.field c.is_valid.ensures.number in
    next_edge d field c.args.tri.now.halves c.is_valid.ensures.valid c.requires.wall.0 c.args.edges.now c.requires.wall.1
    c.loop-i.i c.loop-i.tri.halves less c.loop-i.invariant.flipped

pub flip_one-requires-clause-convex : goal.flip_one-requires-clause-convex
flip_one-requires-clause-convex c =
    let d = c.args.tri.now.field in
    let less : c.loop-i.i < length c.args.edges.now = omega (arith, c.loop-i-test.true) in
    let field : IsFieldNumber d = subst IsFieldNumber c.requires.field c.is_valid.ensures.number in
    subst (λ (x : ℕ). IsStrictlyConvex x c.loop-i.tri.halves (slice_index c.args.edges.now c.loop-i.i)) (sym c.loop-i.invariant.field)
    (next_convex d field c.args.tri.now.halves c.is_valid.ensures.valid c.requires.wall.0 c.args.edges.now c.requires.wall.1
    c.loop-i.i c.loop-i.tri.halves less c.loop-i.invariant.flipped)

pub flip_one-requires-clause-fits : goal.flip_one-requires-clause-fits
flip_one-requires-clause-fits c =
    let d = c.args.tri.now.field in
    let less : c.loop-i.i < length c.args.edges.now = omega (arith, c.loop-i-test.true) in
    let field : IsFieldNumber d = subst IsFieldNumber c.requires.field c.is_valid.ensures.number in
    subst (λ (x : ℕ). DiagonalFits x c.loop-i.tri.halves (slice_index c.args.edges.now c.loop-i.i)) (sym c.loop-i.invariant.field)
    (next_fits d field c.args.tri.now.halves c.is_valid.ensures.valid c.requires.wall.0 c.args.edges.now c.requires.wall.1
    c.loop-i.i c.loop-i.tri.halves less c.loop-i.invariant.flipped c.requires.fits)

pub loop-i-preserved : goal.loop-i-preserved
loop-i-preserved c = record {
  field = c.flip_one.ensures.field ∙ c.loop-i.invariant.field;
  flipped = after_more c.args.tri.now.field c.loop-i.tri.field c.loop-i.i c.args.edges.now c.args.tri.now.halves c.loop-i.tri.halves c.flip_one.new.tri.halves
      c.loop-i.invariant.flipped c.loop-i.invariant.field c.flip_one.ensures.flipped;
}

pub returns-clause-field : goal.returns-clause-field
returns-clause-field c = c.loop-i.invariant.field

pub returns-clause-flipped : goal.returns-clause-flipped
returns-clause-flipped c =
    let d = c.args.tri.now.field in
    let field : IsFieldNumber d = subst IsFieldNumber c.requires.field c.is_valid.ensures.number in
    let is : c.loop-i.i ≡ length c.args.edges.now = omega (arith, c.loop-i-test.false, c.loop-i.auto.i-end) in
    all_flipped d field c.args.tri.now.halves c.is_valid.ensures.valid c.requires.wall.0 c.args.edges.now c.requires.wall.1 c.loop-i.tri.halves
    (subst (λ (n : ℕ). AfterFirst d c.args.edges.now n c.args.tri.now.halves c.loop-i.tri.halves) is c.loop-i.invariant.flipped)
