use Rattle.std.proofs.Common.{List, sym, subst, arith}
use Rattle.std.specs.List.{AllByRecursion}
use Rattle.quad_field.specs.FieldNumber.{IsFieldNumber}
use Rattle.surface_text.specs.declared.file.Polygon.{Polygon}
use Rattle.surface_text.specs.Limits.{IsPolygon, NamesSides}
use Rattle.gluing.specs.Parts.{sides_of}
use Rattle.gluing.proofs.Convex.{length-sides}
use Rattle.gluing.proofs.tests.glued.Goals as goal

pub glue-requires-clause-limits : goal.glue-requires-clause-limits
glue-requires-clause-limits c =
    let polygons : AllByRecursion IsPolygon (sides_of c.args.polygons.items) =
    subst (λ (x : List Polygon). AllByRecursion IsPolygon (sides_of x)) c.as_slice.ensures.value (c.are_polygons.ensures c.if-not-are_polygons.false) in
    let left : AllByRecursion (NamesSides (sides_of c.args.polygons.items)) c.as_slice-3.result.now =
    subst (λ (x : List Polygon). AllByRecursion (NamesSides (sides_of x)) c.as_slice-3.result.now) c.as_slice-2.ensures.value (c.are_there.ensures c.if-not-are_there.false) in
    record {
      field = subst IsFieldNumber (sym c.number.ensures.number) c.number.ensures.valid;
      bases = c.in_ok-bases.ensures.all;
      few_bases = omega (arith, c.in_ok-bases.ensures.few);
      polygons = polygons;
      some_polygons = omega (arith, length-sides c.args.polygons.items);
      few_polygons = omega (arith, length-sides c.args.polygons.items);
      glues = subst (AllByRecursion (NamesSides (sides_of c.args.polygons.items))) c.as_slice-3.ensures.value left;
    }
