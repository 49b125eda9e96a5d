use Rattle.std.proofs.Common.{sym, subst, subst₂}
use Rattle.ear_cut.specs.Steps.{seen, AreCuttable, ArePolygonsCut}
use Rattle.ear_cut.proofs.Ready.{gluing_ready}
use Rattle.ear_cut.proofs.cutting.cut_halves.Goals as goal

pub cut_polygons-requires-clause-cuttable : goal.cut_polygons-requires-clause-cuttable
cut_polygons-requires-clause-cuttable c =
    subst₂ AreCuttable (sym c.requires) (sym c.polygons.ensures.polygons) (gluing_ready c.args.glued.now c.polygons.ensures.valid)

pub half_edges-requires : goal.half_edges-requires
half_edges-requires c =
    let g = c.args.glued.now in
    let cut = subst₂ (λ d ps. ArePolygonsCut d ps (seen c.in_ok-edges.edges.items)) c.requires c.polygons.ensures.polygons c.in_ok-edges.ensures in
    subst (λ xs. ArePolygonsCut g.field g.polygons (seen xs)) (sym c.deref.ensures.value) cut
