use Rattle.std.proofs.Common.{length, vec_len, map, take, ap, ◌∙◌, arith}
use Rattle.std.proofs.lemmas.List.{length-map}
use Rattle.ear_cut.specs.Steps.{seen, side_of}
use Rattle.ear_cut.proofs.Labels.{outer_length}
use Rattle.ear_cut.proofs.Courses.{of, few_at, few_polygons, polygons_count, outer_at, polygons_more}
use Rattle.ear_cut.proofs.polygons.cut_polygons.Goals as goal

pub overflow_cast-p : goal.overflow_cast-p
overflow_cast-p c = omega (arith, few_polygons c.args.f.now c.args.polygons.now c.requires.cuttable c.requires.few)

pub put_sides-requires : goal.put_sides-requires
put_sides-requires c =
    let x = c.index-polygons-p.result in
    let is_vs = c.deref.ensures.value ∙ ap of c.index-polygons-p.is in
    omega (arith, ap length is_vs, few_at c.args.polygons.now c.loop-p.p x c.loop-p-test.true, c.requires.few)

pub cut_polygon-requires-clause-long : goal.cut_polygon-requires-clause-long
cut_polygon-requires-clause-long c =
    let outer = outer_at c.args.f.now c.loop-p.p c.args.polygons.now c.index-polygons-p.result c.deref.result.now (seen c.put_sides.new.sides.items) c.loop-p-test.true c.requires.cuttable c.index-polygons-p.is c.deref.ensures.value c.in_ok-put_sides.ensures in
    omega (arith, outer.long, length-map c.put_sides.new.sides.items side_of)

pub cut_polygon-requires-clause-small : goal.cut_polygon-requires-clause-small
cut_polygon-requires-clause-small c =
    let outer = outer_at c.args.f.now c.loop-p.p c.args.polygons.now c.index-polygons-p.result c.deref.result.now (seen c.put_sides.new.sides.items) c.loop-p-test.true c.requires.cuttable c.index-polygons-p.is c.deref.ensures.value c.in_ok-put_sides.ensures in
    outer.small

pub cut_polygon-requires-clause-cuttable : goal.cut_polygon-requires-clause-cuttable
cut_polygon-requires-clause-cuttable c =
    let outer = outer_at c.args.f.now c.loop-p.p c.args.polygons.now c.index-polygons-p.result c.deref.result.now (seen c.put_sides.new.sides.items) c.loop-p-test.true c.requires.cuttable c.index-polygons-p.is c.deref.ensures.value c.in_ok-put_sides.ensures in
    outer.cuttable

pub cut_polygon-requires-clause-whole : goal.cut_polygon-requires-clause-whole
cut_polygon-requires-clause-whole c =
    let count = polygons_count c.args.f.now (map of (take c.loop-p.p c.args.polygons.now)) (seen c.loop-p.edges.items) c.loop-p.invariant in
    omega (arith, count, length-map c.loop-p.edges.items side_of)

pub cut_polygon-requires-clause-few : goal.cut_polygon-requires-clause-few
cut_polygon-requires-clause-few c =
    let x = c.index-polygons-p.result in
    let is_vs = c.deref.ensures.value ∙ ap of c.index-polygons-p.is in
    let count = polygons_count c.args.f.now (map of (take c.loop-p.p c.args.polygons.now)) (seen c.loop-p.edges.items) c.loop-p.invariant in
    let here = few_at c.args.polygons.now c.loop-p.p x c.loop-p-test.true in
    omega (arith, count, here, c.requires.few, ap length is_vs, ap length c.in_ok-put_sides.ensures, outer_length c.loop-p.p 0 c.deref.result.now, length-map c.loop-p.edges.items side_of, length-map c.put_sides.new.sides.items side_of)

pub loop-p-preserved : goal.loop-p-preserved
loop-p-preserved c =
    let x = c.index-polygons-p.result in
    let is_vs = c.deref.ensures.value ∙ ap of c.index-polygons-p.is in
    polygons_more c.args.f.now c.loop-p.p (vec_len c.loop-p.edges) c.args.polygons.now x c.deref.result.now (seen c.put_sides.new.sides.items) (seen c.loop-p.edges.items) (seen c.cut_polygon.new.edges.items)
    c.loop-p-test.true is_vs c.in_ok-put_sides.ensures c.loop-p.invariant (omega (arith, length-map c.loop-p.edges.items side_of)) c.in_ok-cut_polygon.ensures
