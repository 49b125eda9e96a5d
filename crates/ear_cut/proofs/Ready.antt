-- The polygons of a gluing can be cut.
use Rattle.std.proofs.Common.{◌≡◌, ℕ, zero, suc, ◌+◌, ◌-◌, ◌*◌, ◌<◌, ◌≤◌, List, [], ◌∷◌, length, get_or, map, ap, arith}
use Rattle.std.specs.List.{AllByRecursion}
use Rattle.std.proofs.lemmas.List.{length-append}
use Rattle.plane.specs.Vectors.{vector}
use Rattle.plane.specs.declared.vec2.Vec2.{Vec2}
use Rattle.surface_text.specs.Limits.{IsPolygon, IsBoundedVector}
use Rattle.gluing.specs.Polygons.{polygon_at}
use Rattle.gluing.specs.Gluings.{Gluing, IsGluing, triangle_count}
use Rattle.ear_cut.specs.Cuttings.{Piece, outer_sides, AreCut}
use Rattle.ear_cut.specs.Steps.{total_size, IsReady, AreCuttable}
use Rattle.ear_cut.proofs.Replaced.{each_at, each_from}
use Rattle.ear_cut.proofs.Sided.{cut_length}
use Rattle.ear_cut.proofs.Labels.{outer_length}
use Rattle.ear_cut.proofs.Convex.{proper_cuttable}

bounded_size : (sides : List Vec2) → AllByRecursion IsBoundedVector sides → total_size (map vector sides) ≤ 4000000000 * length sides
bounded_size [] all = omega arith
bounded_size (v ∷ sides) all = omega (arith, bounded_size sides all.1, all.0)

one_of_few : (polygons : List (List Vec2)) (p : ℕ) → p < length polygons → length (get_or polygons p []) - 2 ≤ triangle_count polygons
one_of_few [] p below = absurd (omega arith)
one_of_few (sides ∷ polygons) zero below = omega arith
one_of_few (sides ∷ polygons) (suc p) below = omega (arith, one_of_few polygons p (omega arith))

pub gluing_ready : (g : Gluing) → IsGluing g → AreCuttable g.field g.polygons
gluing_ready g valid = each_from (IsReady g.field) g.polygons [] (λ p below.
    let polygon : IsPolygon (get_or g.polygons p []) = each_at IsPolygon g.polygons p [] valid.bounded below in
    let size = bounded_size (get_or g.polygons p []) polygon.1 in
    record {
      long = polygon.0;
      small = omega (arith, size, one_of_few g.polygons p below, valid.few_triangles, polygon.0);
      cuttable = proper_cuttable g.field valid.field (polygon_at g.polygons p) (valid.proper p below);
    })

-- as many triangles as the polygons say
pub piece_count : (d p t : ℕ) (polygons : List (List Vec2)) (pieces : List Piece) → AreCut d p t polygons pieces → length pieces ≡ triangle_count polygons
piece_count d p t [] pieces cut = ap length cut
piece_count d p t (sides ∷ polygons) pieces (own, more, e, here, rest) =
    omega (arith, ap length e, length-append own more, cut_length d t (outer_sides p 0 sides) own here, outer_length p 0 sides, piece_count d (p + 1) (t + length own) polygons more rest)
