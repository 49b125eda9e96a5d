use Rattle.std.proofs.Common.{◌≡◌, ◌∙◌, ◌<◌, [], length, get_or, sym, subst, arith}
use Rattle.std.proofs.lemmas.List.{get_or-map}
use Rattle.surface_text.specs.Limits.{IsPolygon}
use Rattle.surface_text.specs.declared.file.Polygon.{Polygon}
use Rattle.gluing.specs.Parts.{sides_of}
use Rattle.gluing.proofs.Convex.{length-sides}
use Rattle.gluing.proofs.Fixtures.{all_more}
use Rattle.gluing.proofs.tests.are_polygons.Goals as goal

pub loop-p-preserved : goal.loop-p-preserved
loop-p-preserved c =
    let e : get_or (sides_of c.args.polygons.now) c.loop-p.p [] ≡ c.as_slice.result.now =
    get_or-map (λ (polygon : Polygon). polygon.sides.items) c.args.polygons.now c.loop-p.p c.index-polygons-p.result [] c.loop-p-test.true
    ∙ sym c.as_slice.ensures.value in
    let inside : c.loop-p.p < length (sides_of c.args.polygons.now) = omega (arith, length-sides c.args.polygons.now) in
    all_more IsPolygon (sides_of c.args.polygons.now) c.loop-p.p [] c.loop-p.invariant inside (subst IsPolygon (sym e) (c.is_polygon.ensures c.if-not-is_polygon.false))
