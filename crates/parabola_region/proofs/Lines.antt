-- The lines of the hinges of a list, and the walls of the triangulation.
use Rattle.std.proofs.Common.{◌≡◌, ◌↔◌, ℕ, ◌<◌, List, length, subst, sym, arith}
use mathlib.Core.Logic.{inl, inr}
use Rattle.std.specs.Prelude.{pos, ◌⊎◌}
use Rattle.rings.specs.Lines.{HasPositiveFactor}
use Rattle.rings.proofs.Signs.{never_positive}
use Rattle.rings.proofs.Multiples.{multiple_itself, multiple_zero, multiple_swapped, multiple_through, form_in, form_out}
use Rattle.quad_field.specs.FieldNumber.{IsFieldNumber}
use Rattle.quad_field.specs.Quads.{quad_ops, IsPositive}
use Rattle.quad_field.proofs.CallerLemmas.{quad_ring, order_of, natural_positive}
use Rattle.tri_core.specs.declared.half.Half.{Half}
use Rattle.tri_core.specs.Triangulation.{IsTriangulation}
use Rattle.tri_core.specs.Flips.{IsEdge}
use Rattle.hinge_form.specs.Triples.{Triple}
use Rattle.hinge_form.specs.Hinges.{hinge_value, full_triple}
use Rattle.hinge_form.specs.Lines.{IsMultiple}
use Rattle.hinge_form.specs.Walls.{IsWallLine, IsEdgeOf}
use Rattle.hinge_form.proofs.CallerLemmas.{value_of_triple, hinge_factor, multiple_of_hinge, zero_on_line}
use Rattle.parabola_region.specs.declared.hinge_list.Hinge.{Hinge}
use Rattle.parabola_region.specs.HingeLists.{form_at, edge_at, IsHingeList, IsPositiveEverywhere}
use Rattle.parabola_region.specs.Stretches.{HasPointFor}
use Rattle.parabola_region.specs.Found.{IsOwnBelow}

module _ (d : ℕ) (field : IsFieldNumber d) where
  -- a form is its own multiple, and multiples of a multiple are multiples
  pub itself : (l : Triple) → IsMultiple d l l
  itself l = multiple_itself (quad_ops d) (quad_ring d) (order_of d field) ((quad_ops d).int (pos 1)) (natural_positive d 1 (omega arith)) l

  pub swapped : (l k : Triple) → IsMultiple d l k → IsMultiple d k l
  swapped l k h = multiple_swapped (quad_ops d) (quad_ring d) (order_of d field) l k h

  pub through : (l k j : Triple) → IsMultiple d l k → IsMultiple d k j → IsMultiple d l j
  through l k j h g = multiple_through (quad_ops d) (quad_ring d) (order_of d field) l k j h g

  -- positive multiples of one line are walls together
  pub line_of_multiple : (halves : List Half) (l k : Triple) → IsMultiple d l k → IsWallLine d halves l → IsWallLine d halves k
  line_of_multiple halves l k h w = (
    w.0,
    record {
      inside = w.1.inside;
      on = multiple_zero (quad_ops d) (quad_ring d) (order_of d field) l k w.0 h w.1.on;
      others = λ e edge other. w.1.others e edge (λ own. other (through k l (full_triple d halves e) (swapped l k h) own));
    },
  )

module _ (d : ℕ) (field : IsFieldNumber d) (halves : List Half) (valid : IsTriangulation d halves) where
  -- an edge of a wall line isn't positive everywhere
  pub own_somewhere : (l : Triple) → IsWallLine d halves l → (h : ℕ) → IsMultiple d l (full_triple d halves h) → ¬ (IsPositiveEverywhere d halves h)
  own_somewhere l w h own all =
      never_positive (quad_ops d) (quad_ring d) (order_of d field) (hinge_value d halves h w.0) (zero_on_line d field halves valid l h own w.0 w.1.on) (all w.0 w.1.inside)

  module _ (forms : List Hinge) (list : IsHingeList d halves (length halves) forms) where
    pub factor_at : (i : ℕ) → i < length forms → HasPositiveFactor (quad_ops d) (IsPositive d) (full_triple d halves (edge_at forms i)) (form_at forms i)
    factor_at i under = let c = list.each i under in hinge_factor d halves (edge_at forms i) valid c.edge.0 field (form_at forms i) c.triple

    pub full_own : (l : Triple) (i : ℕ) → i < length forms → IsMultiple d l (form_at forms i) → IsMultiple d l (full_triple d halves (edge_at forms i))
    full_own l i under h = through d field l (form_at forms i) (full_triple d halves (edge_at forms i)) h (multiple_of_hinge d field halves valid (edge_at forms i) (list.each i under).edge.0 (form_at forms i) (list.each i under).triple)

    pub own_full : (l : Triple) (i : ℕ) → i < length forms → IsMultiple d l (full_triple d halves (edge_at forms i)) → IsMultiple d l (form_at forms i)
    own_full l i under h =
        through d field l (full_triple d halves (edge_at forms i)) (form_at forms i) h (swapped d field (form_at forms i) (full_triple d halves (edge_at forms i)) (multiple_of_hinge d field halves valid (edge_at forms i) (list.each i under).edge.0 (form_at forms i) (list.each i under).triple))

    -- a point at which the forms of the list are positive is a wall point
    pub line_from_point : (l : Triple) → HasPointFor d l forms → IsWallLine d halves l
    line_from_point l p = (p.0, record { inside = p.1; on = p.2; others = others })
      where
        there : (h : ℕ) → ¬ (IsMultiple d l (full_triple d halves h)) → ((i : ℕ) × (i < length forms) × (edge_at forms i ≡ h)) ⊎ IsPositiveEverywhere d halves h → IsPositive d (hinge_value d halves h p.0)
        there h other (inl f) =
            let c = factor_at f.0 f.1 in
            subst (λ (k : ℕ). IsPositive d (hinge_value d halves k p.0)) f.2
            (subst (IsPositive d) (sym (value_of_triple d halves (edge_at forms f.0) p.0))
            (form_in (quad_ops d) (quad_ring d) (order_of d field) (full_triple d halves (edge_at forms f.0)) (form_at forms f.0) c p.0
            (p.3 f.0 f.1 (λ own. other (subst (λ (k : ℕ). IsMultiple d l (full_triple d halves k)) f.2 (full_own l f.0 f.1 own))))))
        there h other (inr all) = all p.0 p.1

        others : (h : ℕ) → IsEdge halves h → ¬ (IsMultiple d l (full_triple d halves h)) → IsPositive d (hinge_value d halves h p.0)
        others h edge other = there h other (list.every h edge.0 edge)

    pub point_from_line : (l : Triple) → IsWallLine d halves l → HasPointFor d l forms
    point_from_line l w = (
      w.0,
      w.1.inside,
      w.1.on,
      λ i under other.
          let c = factor_at i under in
          form_out (quad_ops d) (quad_ring d) (order_of d field) (full_triple d halves (edge_at forms i)) (form_at forms i) c w.0
          (subst (IsPositive d) (value_of_triple d halves (edge_at forms i) w.0) (w.1.others (edge_at forms i) (list.each i under).edge (λ own. other (own_full l i under own)))),
    )

    -- the edges of a wall line are those of its own forms
    pub own_edges : (l : Triple) → IsWallLine d halves l → (h : ℕ) → IsOwnBelow d l forms (length forms) h ↔ IsEdgeOf d halves l h
    own_edges l w h = (there, back)
      where
        there : IsOwnBelow d l forms (length forms) h → IsEdgeOf d halves l h
        there o = subst (IsEdgeOf d halves l) o.3 ((list.each o.0 o.1).edge, full_own l o.0 o.1 o.2)

        listed : IsMultiple d l (full_triple d halves h) → ((i : ℕ) × (i < length forms) × (edge_at forms i ≡ h)) ⊎ IsPositiveEverywhere d halves h → IsOwnBelow d l forms (length forms) h
        listed own (inl f) = (f.0, f.1, own_full l f.0 f.1 (subst (λ (k : ℕ). IsMultiple d l (full_triple d halves k)) (sym f.2) own), f.2)
        listed own (inr all) = absurd (own_somewhere l w h own all)

        back : IsEdgeOf d halves l h → IsOwnBelow d l forms (length forms) h
        back e = listed e.1 (list.every h e.0.0 e.0)
