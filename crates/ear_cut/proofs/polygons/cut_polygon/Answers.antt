use Rattle.std.proofs.Common.{◌≡◌, ◌<◌, ◌/◌, length, vec_len, arith}
use Rattle.ear_cut.specs.Steps.{seen}
use Rattle.ear_cut.proofs.Steps.{IsFurther, cut_none, cut_on, cut_last}
use Rattle.ear_cut.proofs.polygons.cut_polygon.Goals as goal

pub loop-sides-init : goal.loop-sides-init
loop-sides-init c = record {
  long = c.requires.long;
  small = c.requires.small;
  cuttable = c.requires.cuttable;
  passed = λ k below ear. omega arith;
  few = c.requires.few;
  so_far = cut_none c.args.f.now (vec_len c.args.edges.now / 3) (seen c.args.sides.now.items) (seen c.args.edges.now.items);
}

pub loop-sides-smaller : goal.loop-sides-smaller
loop-sides-smaller c =
    let further : IsFurther c.args.f.now (vec_len c.args.edges.now / 3) (seen c.args.sides.now.items) c.args.edges.now.items c.loop-sides.sides.items c.loop-sides.edges.items c.cut_ear.new.edges.items c.cut_ear.new.sides.items =
    cut_on c.args.f.now (vec_len c.args.edges.now) (vec_len c.loop-sides.edges) (seen c.args.sides.now.items) c.args.edges.now.items c.loop-sides.sides.items c.loop-sides.edges.items c.cut_ear.new.edges.items c.cut_ear.new.sides.items
    c.requires.field (omega arith) c.loop-sides.invariant.cuttable c.loop-sides.invariant.small (omega arith) c.requires.whole (omega arith) c.loop-sides.invariant.so_far c.in_ok-first.ensures.cut in
    let less : vec_len c.cut_ear.new.sides < vec_len c.loop-sides.sides = omega (arith, further.shorter.left_long) in
    less

pub loop-sides-preserved : goal.loop-sides-preserved
loop-sides-preserved c =
    let further : IsFurther c.args.f.now (vec_len c.args.edges.now / 3) (seen c.args.sides.now.items) c.args.edges.now.items c.loop-sides.sides.items c.loop-sides.edges.items c.cut_ear.new.edges.items c.cut_ear.new.sides.items =
    cut_on c.args.f.now (vec_len c.args.edges.now) (vec_len c.loop-sides.edges) (seen c.args.sides.now.items) c.args.edges.now.items c.loop-sides.sides.items c.loop-sides.edges.items c.cut_ear.new.edges.items c.cut_ear.new.sides.items
    c.requires.field (omega arith) c.loop-sides.invariant.cuttable c.loop-sides.invariant.small (omega arith) c.requires.whole (omega arith) c.loop-sides.invariant.so_far c.in_ok-first.ensures.cut in
    record {
      long = omega (arith, further.shorter.left_long);
      small = further.shorter.small;
      cuttable = further.shorter.cuttable;
      passed = c.in_ok-first.ensures.passed;
      few = omega (arith, further.shorter.left_long, further.shorter.appended);
      so_far = further.so_far;
    }

pub returns : goal.returns
returns c =
    let long : length c.loop-sides.sides.items ≡ 3 = omega arith in
    cut_last c.args.f.now (vec_len c.args.edges.now / 3) (seen c.args.sides.now.items) (seen c.args.edges.now.items) c.loop-sides.sides.items c.loop-sides.edges.items _ _ _ c.index.result.now c.index-2.result.now c.index-3.result.now long
    c.index.ensures c.index-2.ensures c.index-3.ensures c.loop-sides.invariant.so_far c.in_ok-push.ensures.items c.in_ok-push-2.ensures.items c.in_ok-push-3.ensures.items
