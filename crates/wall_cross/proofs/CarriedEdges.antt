-- What holds of all edges holds of all half-edges: a half-edge and its twin have one form.
use Rattle.std.proofs.Common.{◌≡◌, ℕ, ◌<◌, List, length, refl, ap, ◌∙◌, subst, sym, inl, inr}
use Rattle.rings.specs.Forms.{value_at}
use Rattle.rings.specs.Bounds.{HasPoint}
use Rattle.quad_field.specs.Quads.{quad_ops, IsPositive}
use Rattle.tri_core.specs.declared.half.Half.{Half}
use Rattle.tri_core.specs.Triangulation.{IsTriangulation}
use Rattle.tri_core.specs.HalfEdges.{twin_at}
use Rattle.tri_core.specs.Flips.{IsEdge}
use Rattle.tri_core.proofs.CallerLemmas.{half_or_twin}
use Rattle.hinge_form.specs.Hinges.{Triple, full_triple}
use Rattle.hinge_form.specs.Lines.{IsMultiple}
use Rattle.hinge_form.specs.Walls.{IsWallLine}
use Rattle.hinge_form.proofs.CallerLemmas.{value_of_triple, full_triple-twin}
use Rattle.wall_cross.specs.Edges.{IsEdgeName}

module _ (d : ℕ) (halves : List Half) (valid : IsTriangulation d halves) where
  -- each half-edge has an edge
  pub edge_name : (h : ℕ) → h < length halves → (e : ℕ) × IsEdgeName halves h e
  edge_name h below = elim (half_or_twin d halves h valid below) [
    | inl own ↦ (h, (inl refl, own))
    | inr twin ↦ (twin_at halves h, (inr refl, twin))
  ]

  -- with one form
  pub name_form : (h e : ℕ) → h < length halves → IsEdgeName halves h e → full_triple d halves e ≡ full_triple d halves h
  name_form h e below name = elim name.0 [
    | inl same ↦ ap (full_triple d halves) same
    | inr same ↦ ap (full_triple d halves) same ∙ full_triple-twin d halves h valid below
  ]

  -- what holds of the form of each edge holds of that of each half-edge
  pub each_half : (A : Triple → Type 0) → ((h : ℕ) → IsEdge halves h → A (full_triple d halves h)) → (h : ℕ) → h < length halves → A (full_triple d halves h)
  each_half A each h below = let name = edge_name h below in subst A (name_form h name.0 below name.1) (each name.0 name.1.1)

  -- a wall's line, by the forms of all half-edges
  pub point_from_line : (l : Triple) → IsWallLine d halves l → HasPoint (quad_ops d) (IsPositive d) l (full_triple d halves) (length halves)
  point_from_line l wall = (
    wall.0,
    wall.1.inside,
    wall.1.on,
    λ h below.
        each_half (λ (k : Triple). ¬ (IsMultiple d l k) → IsPositive d (value_at (quad_ops d) k wall.0))
        (λ e edge none. subst (IsPositive d) (value_of_triple d halves e wall.0) (wall.1.others e edge none)) h below,
  )

  pub line_from_point : (l : Triple) → HasPoint (quad_ops d) (IsPositive d) l (full_triple d halves) (length halves) → IsWallLine d halves l
  line_from_point l point = (
    point.0,
    record {
      inside = point.1;
      on = point.2;
      others = λ h edge none. subst (IsPositive d) (sym (value_of_triple d halves h point.0)) (point.3 h edge.0 none);
    },
  )
