-- The forms of a list stand for all edges: no form is negative at a place inside the parabola or on it exactly where no edge is.
use Rattle.std.proofs.Common.{◌≡◌, ◌↔◌, ℕ, ◌<◌, List, length, [], subst, sym, ◌∙◌, arith}
use mathlib.Core.Logic.{inl, inr}
use Rattle.std.specs.Prelude.{pos, ◌⊎◌}
use Rattle.rings.specs.Ring.{expr}
use Rattle.rings.specs.Forms.{value_at}
use Rattle.rings.specs.Lines.{IsInside, HasPositiveFactor}
use Rattle.rings.proofs.Solver.{identity}
use Rattle.rings.proofs.Ordered.{product_not_negative}
use Rattle.rings.proofs.Signs.{factor_not_negative}
use Rattle.rings.proofs.Multiples.{value_of_factor}
use Rattle.rings.proofs.ClosedPlaces.{closed_value}
use Rattle.quad_field.specs.FieldNumber.{IsFieldNumber}
use Rattle.quad_field.specs.Quads.{quad, quad_ops, IsPositive}
use Rattle.quad_field.proofs.CallerLemmas.{quad_ring, order_of, natural_positive, archimedean}
use Rattle.tri_core.specs.declared.half.Half.{Half}
use Rattle.tri_core.specs.Triangulation.{IsTriangulation}
use Rattle.hinge_form.specs.Triples.{Triple, zeros}
use Rattle.hinge_form.specs.Hinges.{hinge_value, full_triple}
use Rattle.hinge_form.specs.Lines.{IsCrossing}
use Rattle.hinge_form.proofs.CallerLemmas.{value_of_triple, hinge_factor}
use Rattle.parabola_region.specs.declared.hinge_list.Hinge.{Hinge}
use Rattle.parabola_region.specs.HingeLists.{form_at, edge_at, IsHingeList, IsPositiveEverywhere}
use Rattle.parabola_region.specs.Corners.{NotNegative, IsCornerPoint}
use Rattle.parabola_region.specs.Spots.{IsCornerFor}
use Rattle.parabola_region.proofs.Turned.{crossing_some}

module _ (d : ℕ) (field : IsFieldNumber d) (halves : List Half) (valid : IsTriangulation d halves) (forms : List Hinge) (list : IsHingeList d halves (length halves) forms) where
  -- some half-plane point
  abbrev middle : Triple
  middle = (quad (pos 1) (pos 0), quad (pos 0) (pos 0), quad (pos 1) (pos 0))

  middle_inside : IsInside (quad_ops d) (IsPositive d) (quad (pos 1) (pos 0), quad (pos 0) (pos 0), quad (pos 1) (pos 0))
  middle_inside =
      let O = quad_ops d in
      let one = natural_positive d 1 (omega arith) in (
        one,
        subst (IsPositive d) (identity O (quad_ring d) [] (expr.int (pos 1)) (expr.sub (expr.mul (expr.int (pos 1)) (expr.int (pos 1))) (expr.mul (expr.int (pos 0)) (expr.int (pos 0)))) tt) one,
      )

  factor_at : (i : ℕ) → i < length forms → HasPositiveFactor (quad_ops d) (IsPositive d) (full_triple d halves (edge_at forms i)) (form_at forms i)
  factor_at i under = let c = list.each i under in hinge_factor d halves (edge_at forms i) valid c.edge.0 field (form_at forms i) c.triple

  -- of one form and its edge
  edge_of_form : (i : ℕ) → i < length forms → (q : Triple) → NotNegative d (value_at (quad_ops d) (form_at forms i) q) → NotNegative d (hinge_value d halves (edge_at forms i) q)
  edge_of_form i under q n =
      let f = factor_at i under in
      subst (NotNegative d) (sym (value_of_triple d halves (edge_at forms i) q ∙ value_of_factor (quad_ops d) (quad_ring d) (order_of d field) (full_triple d halves (edge_at forms i)) (form_at forms i) f q))
      (product_not_negative (quad_ops d) (quad_ring d) (order_of d field) f.factor (value_at (quad_ops d) (form_at forms i) q) (inr f.positive) n)

  form_of_edge : (i : ℕ) → i < length forms → (q : Triple) → NotNegative d (hinge_value d halves (edge_at forms i) q) → NotNegative d (value_at (quad_ops d) (form_at forms i) q)
  form_of_edge i under q n =
      let f = factor_at i under in
      factor_not_negative (quad_ops d) (quad_ring d) (order_of d field) (value_at (quad_ops d) (form_at forms i) q) f.factor
      (subst (NotNegative d) (value_of_triple d halves (edge_at forms i) q ∙ value_of_factor (quad_ops d) (quad_ring d) (order_of d field) (full_triple d halves (edge_at forms i)) (form_at forms i) f q
      ∙ (quad_ring d).mul_comm f.factor (value_at (quad_ops d) (form_at forms i) q)) n) f.positive

  module _ (l k : Triple) (q : Triple) where
    corner_some : IsCrossing d l k q ⊎ IsCrossing d k l q → ¬ (q ≡ zeros)
    corner_some (inl r) = crossing_some d field l k q r
    corner_some (inr r) = crossing_some d field k l q r

    pub corner_all : IsCornerFor d l k forms q ↔ IsCornerPoint d halves l k q
    corner_all = (there, back)
      where
        at_edge : IsCornerFor d l k forms q → (h : ℕ) → ((i : ℕ) × (i < length forms) × (edge_at forms i ≡ h)) ⊎ IsPositiveEverywhere d halves h → NotNegative d (hinge_value d halves h q)
        at_edge c h (inl w) = subst (λ (m : ℕ). NotNegative d (hinge_value d halves m q)) w.2 (edge_of_form w.0 w.1 q (c.values w.0 w.1))
        at_edge c h (inr all) =
            subst (NotNegative d) (sym (value_of_triple d halves h q))
            (closed_value (quad_ops d) (quad_ring d) (order_of d field) (archimedean d field) (full_triple d halves h) q middle c.closed (corner_some c.crossing) middle_inside
            (λ z inside. subst (IsPositive d) (value_of_triple d halves h z) (all z inside)))

        there : IsCornerFor d l k forms q → IsCornerPoint d halves l k q
        there c = record { crossing = c.crossing; closed = c.closed; values = λ h edge. at_edge c h (list.every h edge.0 edge) }

        back : IsCornerPoint d halves l k q → IsCornerFor d l k forms q
        back c = record { crossing = c.crossing; closed = c.closed; values = λ i under. form_of_edge i under q (c.values (edge_at forms i) (list.each i under).edge) }
