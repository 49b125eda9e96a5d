-- The corner of two lines by their crossing point, which points forward in one of the two orders.
use Rattle.std.proofs.Common.{◌≡◌, ◌↔◌, ℕ, List, subst, sym, ap, ◌∙◌}
use mathlib.Core.Logic.{inl, inr}
use Rattle.std.specs.Prelude.{pos, ◌⊎◌, Option, Some, None, Result, Ok, Err, IfOk, IfErr, IsTrue}
use Rattle.rings.specs.Forms.{inner_value}
use Rattle.rings.specs.Lines.{crossing_point, opposite_triple, IsClosed, IsForward, HasPositiveFactor}
use Rattle.rings.proofs.Signs.{minus_zero}
use Rattle.rings.proofs.Multiples.{crossing_turned, opposite_twice, opposite_of_multiple, some_out}
use Rattle.rings.proofs.ClosedPlaces.{closed_forward, closed_along, value_along, forward_along, no_closed, not_opposite}
use Rattle.quad_field.specs.declared.quad.Quad.{Quad}
use Rattle.quad_field.specs.FieldNumber.{IsFieldNumber}
use Rattle.quad_field.specs.Quads.{quad_ops, IsPositive, IsZero}
use Rattle.quad_field.proofs.CallerLemmas.{quad_ring, order_of}
use Rattle.quad_field.specs.declared.formula.Wide.{Wide}
use Rattle.quad_field.specs.declared.formula.Formula.{Formula}
use Rattle.quad_field.specs.declared.formula.Formula.TheVariants.{F1, F2, F3, F4, F5, F6, F7, F8, F9, F10, F11, F12, F13}
use Rattle.tri_core.specs.declared.half.Half.{Half}
use Rattle.hinge_form.specs.Triples.{Triple, of_place, zeros}
use Rattle.hinge_form.specs.Lines.{AreParallel, IsCrossing}
use Rattle.hinge_form.proofs.CallerLemmas.{one_reduced}
use Rattle.parabola_region.specs.declared.hinge_list.Hinge.{Hinge}
use Rattle.parabola_region.specs.declared.corner.Spot.{Spot}
use Rattle.parabola_region.specs.HingeLists.{form_at}
use Rattle.parabola_region.specs.Corners.{IsCornerPoint}
use Rattle.parabola_region.specs.Spots.{NoneNegative, IsCornerFor, IsSpot, IsCornerOf, IsWideAt, IsWideCorner}
use Rattle.parabola_region.proofs.Meetings.{crossing_factor}

module _ (d : ℕ) (field : IsFieldNumber d) where
  -- the crossing points of two lines in their two orders
  pub turned_point : (l k : Triple) → crossing_point (quad_ops d) k l ≡ opposite_triple (quad_ops d) (crossing_point (quad_ops d) l k)
  turned_point l k = crossing_turned (quad_ops d) (quad_ring d) l k

  zeros_opposite : opposite_triple (quad_ops d) zeros ≡ zeros
  zeros_opposite = let e = minus_zero (quad_ops d) (quad_ring d) (order_of d field) in λ i. (e i, e i, e i)

  pub turned_apart : (l k : Triple) → ¬ (AreParallel d l k) → ¬ (AreParallel d k l)
  turned_apart l k apart e =
      apart (sym (opposite_twice (quad_ops d) (quad_ring d) (crossing_point (quad_ops d) l k)) ∙ ap (opposite_triple (quad_ops d)) (sym (turned_point l k) ∙ e) ∙ zeros_opposite)

  -- a reduced crossing point isn't zero
  pub crossing_some : (l k x : Triple) → IsCrossing d l k x → ¬ (x ≡ zeros)
  crossing_some l k x c = some_out (quad_ops d) (quad_ring d) (order_of d field) (crossing_point (quad_ops d) l k) x (crossing_factor d l k x c) c.apart

  -- that of the other order is one of the opposite triple
  turned_factor : (l k y : Triple) → IsCrossing d k l y → HasPositiveFactor (quad_ops d) (IsPositive d) (opposite_triple (quad_ops d) (crossing_point (quad_ops d) l k)) y
  turned_factor l k y c = subst (λ (full : Triple). HasPositiveFactor (quad_ops d) (IsPositive d) full y) (turned_point l k) (crossing_factor d k l y c)

  -- two lines have one corner point
  pub only_corner : (halves : List Half) (l k p q : Triple) → IsCornerPoint d halves l k p → IsCornerPoint d halves l k q → p ≡ q
  only_corner halves l k p q a b = go p q a b a.crossing b.crossing
    where
      one : (l k p q : Triple) → IsCrossing d l k p → IsCrossing d l k q → p ≡ q
      one l k p q r s = one_reduced d field (crossing_point (quad_ops d) l k) p q r.apart r.point s.point

      never : {A : Type 0} (p q : Triple) → IsClosed (quad_ops d) (IsPositive d) p → IsClosed (quad_ops d) (IsPositive d) q → IsCrossing d l k p → IsCrossing d k l q → A
      never p q cp cq r s =
          absurd (not_opposite (quad_ops d) (quad_ring d) (order_of d field) (crossing_point (quad_ops d) l k) p q (crossing_factor d l k p r) (turned_factor l k q s)
          (closed_forward (quad_ops d) (quad_ring d) (order_of d field) p cp (crossing_some l k p r)) cq)

      go : (p q : Triple) → IsCornerPoint d halves l k p → IsCornerPoint d halves l k q → IsCrossing d l k p ⊎ IsCrossing d k l p → IsCrossing d l k q ⊎ IsCrossing d k l q → p ≡ q
      go p q a b (inl r) (inl s) = one l k p q r s
      go p q a b (inl r) (inr s) = never p q a.closed b.closed r s
      go p q a b (inr r) (inl s) = never q p b.closed a.closed s r
      go p q a b (inr r) (inr s) = one k l p q r s

  -- the two lines may be exchanged
  corner_turned : (l k : Triple) (forms : List Hinge) (q : Triple) → IsCornerFor d l k forms q → IsCornerFor d k l forms q
  corner_turned l k forms q c = record { crossing = other c.crossing; closed = c.closed; values = c.values }
    where
      other : IsCrossing d l k q ⊎ IsCrossing d k l q → IsCrossing d k l q ⊎ IsCrossing d l k q
      other (inl r) = inr r
      other (inr r) = inl r

  -- what is wide at a crossing point is so for the two lines
  wide_at_of : (l k : Triple) (forms : List Hinge) (x : Triple) → IsCrossing d l k x ⊎ IsCrossing d k l x → (formula : Formula) → IsWideAt d forms x formula → IsWideCorner d l k forms formula
  wide_at_of l k forms x r F1 w = absurd w
  wide_at_of l k forms x r F2 w = absurd w
  wide_at_of l k forms x r F3 w = absurd w
  wide_at_of l k forms x r F4 w = absurd w
  wide_at_of l k forms x r F5 w = absurd w
  wide_at_of l k forms x r F6 w = (x, r, w)
  wide_at_of l k forms x r F7 w = (x, r, w)
  wide_at_of l k forms x r F8 w = absurd w
  wide_at_of l k forms x r F9 w = absurd w
  wide_at_of l k forms x r F10 w = absurd w
  wide_at_of l k forms x r F11 w = absurd w
  wide_at_of l k forms x r F12 w = absurd w
  wide_at_of l k forms x r F13 w = absurd w

  module _ (l k : Triple) (forms : List Hinge) (x : Triple) (c : IsCrossing d l k x) where
    abbrev full : Triple
    full = crossing_point (quad_ops d) l k

    f : HasPositiveFactor (quad_ops d) (IsPositive d) full x
    f = crossing_factor d l k x c

    module _ (forward : IsForward (quad_ops d) (IsPositive d) x) where
      -- a corner is at x itself, if x points forward
      corner_here : (q : Triple) → IsCornerFor d l k forms q → IsClosed (quad_ops d) (IsPositive d) x × NoneNegative d forms x
      corner_here q corner = go corner.crossing
        where
          go : IsCrossing d l k q ⊎ IsCrossing d k l q → IsClosed (quad_ops d) (IsPositive d) x × NoneNegative d forms x
          go (inl s) =
              let g = crossing_factor d l k q s in (
                closed_along (quad_ops d) (quad_ring d) (order_of d field) (crossing_point (quad_ops d) l k) x q f g corner.closed,
                λ i under. value_along (quad_ops d) (quad_ring d) (order_of d field) (crossing_point (quad_ops d) l k) x q f g (form_at forms i) (corner.values i under),
              )
          go (inr s) = absurd (not_opposite (quad_ops d) (quad_ring d) (order_of d field) (crossing_point (quad_ops d) l k) x q f (turned_factor l k q s) forward corner.closed)

      pub spot_corner : (o : Option Spot) → IsSpot d forms x o → IsCornerOf d l k forms o
      spot_corner None none = λ q corner. none (corner_here q corner)
      spot_corner (Some spot) s = (
        record {
          crossing = inl (subst (IsCrossing d l k) (sym s.0) c);
          closed = subst (IsClosed (quad_ops d) (IsPositive d)) (sym s.0) s.1;
          values = subst (NoneNegative d forms) (sym s.0) s.2;
        },
        subst (λ (q : Triple). IsTrue spot.ideal ↔ IsZero (inner_value (quad_ops d) q)) (sym s.0) s.3,
      )

      pub spot_result : (o : Result (Option Spot) Wide) → IfOk o (IsSpot d forms x) → IfOk o (IsCornerOf d l k forms)
      spot_result (Ok o) s = spot_corner o s
      spot_result (Err e) s = s

      pub spot_wide : (o : Result (Option Spot) Wide) → IfErr o (λ wide. IsWideAt d forms x wide.formula) → IfErr o (λ wide. IsWideCorner d l k forms wide.formula)
      spot_wide (Ok o) s = s
      spot_wide (Err wide) s = wide_at_of l k forms x (inl c) wide.formula s

    -- the opposite triple is the negative of x times the same factor
    opposite_factor : HasPositiveFactor (quad_ops d) (IsPositive d) (opposite_triple (quad_ops d) full) (opposite_triple (quad_ops d) x)
    opposite_factor = record {
      factor = f.factor;
      positive = f.positive;
      out = ap (opposite_triple (quad_ops d)) f.out ∙ opposite_of_multiple (quad_ops d) (quad_ring d) f.factor x;
    }

    -- where w and y are zero there is no corner
    pub neither_none : x.0 ≡ (quad_ops d).int (pos 0) → x.2 ≡ (quad_ops d).int (pos 0) → IsCornerOf d l k forms None
    neither_none e t q corner = go corner.crossing
      where
        zero_opposite : (a : Quad) → a ≡ (quad_ops d).int (pos 0) → (quad_ops d).neg a ≡ (quad_ops d).int (pos 0)
        zero_opposite a z = ap (quad_ops d).neg z ∙ minus_zero (quad_ops d) (quad_ring d) (order_of d field)

        go : IsCrossing d l k q ⊎ IsCrossing d k l q → ⊥
        go (inl s) =
            no_closed (quad_ops d) (quad_ring d) (order_of d field) (crossing_point (quad_ops d) l k) x q f (crossing_factor d l k q s) e t (crossing_some l k q s) corner.closed
        go (inr s) =
            no_closed (quad_ops d) (quad_ring d) (order_of d field) (opposite_triple (quad_ops d) (crossing_point (quad_ops d) l k)) (opposite_triple (quad_ops d) x) q opposite_factor (turned_factor l k q s)
            (zero_opposite x.0 e) (zero_opposite x.2 t) (crossing_some k l q s) corner.closed

    -- the other crossing point points forward where this points backward
    pub turned_forward : IsForward (quad_ops d) (IsPositive d) (opposite_triple (quad_ops d) x) → (y : Triple) → IsCrossing d k l y → IsForward (quad_ops d) (IsPositive d) y
    turned_forward back y s =
        forward_along (quad_ops d) (quad_ring d) (order_of d field) (opposite_triple (quad_ops d) (crossing_point (quad_ops d) l k)) (opposite_triple (quad_ops d) x) y opposite_factor (turned_factor l k y s) back

  -- what is found in the other order
  pub corner_of_turned : (l k : Triple) (forms : List Hinge) (o : Result (Option Spot) Wide) → IfOk o (IsCornerOf d k l forms) → IfOk o (IsCornerOf d l k forms)
  corner_of_turned l k forms (Ok None) none = λ q c. none q (corner_turned l k forms q c)
  corner_of_turned l k forms (Ok (Some spot)) s = (corner_turned k l forms (of_place spot.at) s.0, s.1)
  corner_of_turned l k forms (Err e) s = s

  pub wide_turned : (l k : Triple) (forms : List Hinge) (x : Triple) → IsCrossing d k l x → (o : Result (Option Spot) Wide) → IfErr o (λ wide. IsWideAt d forms x wide.formula) → IfErr o (λ wide. IsWideCorner d l k forms wide.formula)
  wide_turned l k forms x r (Ok o) s = s
  wide_turned l k forms x r (Err wide) s = wide_at_of l k forms x (inr r) wide.formula s
