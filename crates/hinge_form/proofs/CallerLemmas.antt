-- What the crates above cite: lemmas on hinges, lines and walls, about public definitions alone.
use Rattle.std.proofs.Common.{◌≡◌, ℕ, ◌<◌, List, length, slice_index, subst, sym}
use Rattle.std.specs.List.{Contains}
use Rattle.std.proofs.lemmas.List.Elements.{Contains-get_or}
use Rattle.rings.proofs.Multiples.{factor_multiple}
use Rattle.quad_field.specs.FieldNumber.{IsFieldNumber}
use Rattle.quad_field.specs.Quads.{quad_ops}
use Rattle.quad_field.proofs.CallerLemmas.{quad_ring, order_of}
use Rattle.tri_core.specs.declared.half.Half.{Half}
use Rattle.tri_core.specs.HalfEdges.{twin_at}
use Rattle.tri_core.specs.Triangulation.{IsTriangulation}
use Rattle.tri_core.specs.Flips.{IsStrictlyConvex}
use Rattle.hinge_form.specs.Triples.{Triple, zeros, IsReduced}
use Rattle.hinge_form.specs.Hinges.{IsHalfPlanePoint, IsStrictAt, full_triple, IsHingeTriple}
use Rattle.hinge_form.specs.Lines.{IsMultiple}
use Rattle.hinge_form.specs.Walls.{IsWall, IsEdgeOf}
use Rattle.hinge_form.proofs.Hinged as hinged
use Rattle.hinge_form.proofs.Cofactors as cofactors
use Rattle.hinge_form.proofs.WallPoints as points
-- ---- triples
-- what is taken out of a triple that isn't zero is above zero, so the triple is the reduced one times a positive K-integer
pub use Rattle.hinge_form.proofs.Multiples.{divisor_some, reduced_factor}
-- a triple that isn't zero is reduced in one way
pub use Rattle.hinge_form.proofs.Cofactors.{one_reduced}
-- ---- places
-- a vector into which another turns has a positive height at a half-plane point
pub use Rattle.hinge_form.proofs.Rises.{length_turned}
-- the place of a base point is a half-plane point
pub use Rattle.hinge_form.proofs.Points.{place_inside}
-- ---- hinges
-- the value of an edge is that of its full triple
pub use Rattle.hinge_form.proofs.Hinged.{value_of_triple}
-- where it isn't positive at a half-plane point, the edge is a strictly convex hinge
pub use Rattle.hinge_form.proofs.Hinged.{convex_at}
-- no hinge triple is zero, reduced or not; the full one is the reduced one times a positive K-integer, which is a whole number;
-- and a half-edge and its twin have one
pub use Rattle.hinge_form.proofs.Hinged.{full_some, hinge_some, hinge_factor, value_multiple, value_from_twin, full_triple-twin}
-- a strictly convex hinge has a chord, and one without a chord is positive at every half-plane point
pub use Rattle.hinge_form.proofs.Chords.{convex_chord, positive_without_chord}
-- after a flip the new diagonal has the opposite value
pub use Rattle.hinge_form.proofs.Diagonals.{value_after}
-- ---- lines and walls
-- two lines lie in one way
pub use Rattle.hinge_form.proofs.Relations.{one_relation, apart_from}
-- an edge of a line has the value zero on it
pub use Rattle.hinge_form.proofs.WallPoints.{zero_on_line}

module _ (d : ℕ) (field : IsFieldNumber d) (halves : List Half) (valid : IsTriangulation d halves) (h : ℕ) (below : h < length halves) where
  -- an edge has one hinge triple
  pub one_triple : (l m : Triple) → IsHingeTriple d halves h l → IsHingeTriple d halves h m → l ≡ m
  one_triple l m first second = cofactors.one_reduced d field (full_triple d halves h) l m (hinged.full_some d halves h valid below field) first second

  -- and so has its twin
  pub triple_of_twin : (l : Triple) → IsHingeTriple d halves h l → IsHingeTriple d halves (twin_at halves h) l
  triple_of_twin l t = subst (λ (full : Triple). IsReduced full l) (sym (hinged.full_triple-twin d halves h valid below)) t

  -- the full triple is a positive multiple of it
  pub multiple_of_hinge : (l : Triple) → IsHingeTriple d halves h l → IsMultiple d l (full_triple d halves h)
  multiple_of_hinge l t = factor_multiple (quad_ops d) (quad_ring d) (order_of d field) (full_triple d halves h) l (hinged.hinge_factor d halves h valid below field l t)

module _ (d : ℕ) (field : IsFieldNumber d) (halves : List Half) (valid : IsTriangulation d halves) (form : Triple) (edges : List ℕ) (wall : IsWall d halves form edges) where
  -- what is listed is an edge of the wall's line
  pub edge_of_wall : (h : ℕ) → Contains edges h → IsEdgeOf d halves form h
  edge_of_wall h c = (wall.all.exactly h).0 c

  -- its least edge is one
  pub least_edge_of : IsEdgeOf d halves form (slice_index edges 0)
  least_edge_of = edge_of_wall (slice_index edges 0) (Contains-get_or edges 0 0 wall.some)

  -- the form of a wall isn't zero
  pub wall_some : ¬ (form ≡ zeros)
  wall_some = hinged.hinge_some d halves (slice_index edges 0) valid least_edge_of.0.0 field form wall.least

  -- the edges of a wall are strictly convex hinges
  pub wall_is_convex : (h : ℕ) → Contains edges h → IsStrictlyConvex d halves h
  wall_is_convex h c =
      let own = edge_of_wall h c in
      points.wall_convex d field halves valid form wall.line.0 wall.line.1 h own.0.0 own.1

  -- a triangulation with a wall is strict at some half-plane point
  pub strict_somewhere : (q : Triple) × IsHalfPlanePoint d q × IsStrictAt d halves q
  strict_somewhere = points.strict_beside d field halves valid form wall.line.0 wall.line.1 wall_some
