use Rattle.plane.specs.declared.vec2.Vec2.{Vec2}
use Rattle.std.proofs.Common.{◌≡◌, ◌∙◌, ◌<◌, ◌≤◌, List, [], length, get_or, sym, subst, arith}
use Rattle.std.specs.List.{AllByRecursion}
use Rattle.std.proofs.lemmas.List.{get_or-map}
use Rattle.surface_text.specs.Limits.{IsBoundedVector, IsPolygon}
use Rattle.surface_text.specs.declared.file.Polygon.{Polygon}
use Rattle.gluing.specs.Parts.{sides_of}
use Rattle.gluing.proofs.Convex.{all_at, length-sides}
use Rattle.gluing.proofs.polygons.sides_at.Goals as goal

pub returns-clause-bounded : goal.returns-clause-bounded
returns-clause-bounded c =
    let e : get_or (sides_of c.args.polygons.now) c.args.p [] ≡ c.as_slice.result.now =
    get_or-map (λ (polygon : Polygon). polygon.sides.items) c.args.polygons.now c.args.p c.index-polygons-p.result [] c.requires.inside
    ∙ sym c.as_slice.ensures.value in
    let inside : c.args.p < length (sides_of c.args.polygons.now) = omega (arith, length-sides c.args.polygons.now) in
    subst (AllByRecursion IsBoundedVector) e (all_at IsPolygon (sides_of c.args.polygons.now) [] c.args.p c.requires.bounded inside).1

pub returns-clause-long : goal.returns-clause-long
returns-clause-long c =
    let e : get_or (sides_of c.args.polygons.now) c.args.p [] ≡ c.as_slice.result.now =
    get_or-map (λ (polygon : Polygon). polygon.sides.items) c.args.polygons.now c.args.p c.index-polygons-p.result [] c.requires.inside
    ∙ sym c.as_slice.ensures.value in
    let inside : c.args.p < length (sides_of c.args.polygons.now) = omega (arith, length-sides c.args.polygons.now) in
    subst (λ (s : List Vec2). 3 ≤ length s) e (all_at IsPolygon (sides_of c.args.polygons.now) [] c.args.p c.requires.bounded inside).0
