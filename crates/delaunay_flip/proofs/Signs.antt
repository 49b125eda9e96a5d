-- The sign and the width of an edge's value, by its hinge triple.
use Rattle.std.proofs.Common.{◌≡◌, ◌↔◌, ℕ, ◌≤◌, List, [], ◌∷◌, refl, sym, ◌∙◌, ap, subst, inl, inr}
use Rattle.std.specs.Prelude.{pos, ◌⊎◌, Result, Ok, Err, IsOk, OnOk, IfErr}
use Rattle.std.proofs.lemmas.Bool.{false≢true}
use Rattle.rings.specs.Ring.{var, expr}
use Rattle.rings.specs.Order.{Sign, is_zero, is_positive, is_negative}
use Rattle.rings.specs.Forms.{value_at}
use Rattle.rings.proofs.Solver.{identity}
use Rattle.rings.proofs.Ordered.{factor_negative, factor_zero, product_negative, not_both_signs}
use Rattle.quad_field.specs.declared.formula.Formula.TheVariants.{F8}
use Rattle.quad_field.specs.declared.formula.Wide.{Wide}
use Rattle.quad_field.specs.declared.quad.Quad.{Quad}
use Rattle.quad_field.specs.FieldNumber.{IsFieldNumber}
use Rattle.quad_field.specs.Quads.{quad, quad_ops, scaled, IsPositive, IsZero}
use Rattle.quad_field.proofs.CallerLemmas.{quad_ring, order_of, scaled_is, natural_positive}
use Rattle.tri_core.specs.declared.half.Half.{Half}
use Rattle.tri_core.specs.Triangulation.{IsTriangulation}
use Rattle.tri_core.specs.Flips.{IsEdge}
use Rattle.hinge_form.specs.Hinges.{Triple, TripleFits, PlaceFits, hinge_value, of_form, of_place, ValueFits, IsHingeTriple, IsStrictAt}
use Rattle.hinge_form.specs.declared.form.Form.{Form}
use Rattle.hinge_form.specs.declared.place.Place3.{Place3}
use Rattle.hinge_form.proofs.CallerLemmas.{value_multiple, one_triple}
use Rattle.delaunay_flip.specs.Flipping.{IsNegative, IsZeroAt, IsValueAt, IsDelaunay}
use Rattle.delaunay_flip.specs.Widths.{ValueFitsAt, EdgeFits, IsFirstWide}

-- a positive multiple of v has the sign of v
module _ (d : ℕ) (field : IsFieldNumber d) (g : ℕ) (some : 1 ≤ g) (v w : Quad) (is : w ≡ scaled (pos g) v) where
  product_is : w ≡ (quad_ops d).mul v ((quad_ops d).int (pos g))
  product_is =
      is ∙ scaled_is d (pos g) v ∙ identity (quad_ops d) (quad_ring d) (v ∷ (quad_ops d).int (pos g) ∷ []) (expr.mul (var 1) (var 0)) (expr.mul (var 0) (var 1)) tt

  g_positive : IsPositive d ((quad_ops d).int (pos g))
  g_positive = natural_positive d g some

  pub negative_multiple : IsPositive d ((quad_ops d).neg v) ↔ IsPositive d ((quad_ops d).neg w)
  negative_multiple = (
    λ p. subst (λ x. IsPositive d ((quad_ops d).neg x)) (sym product_is) (product_negative (quad_ops d) (quad_ring d) (order_of d field) v ((quad_ops d).int (pos g)) p g_positive),
    λ p. factor_negative (quad_ops d) (quad_ring d) (order_of d field) v ((quad_ops d).int (pos g)) (subst (λ x. IsPositive d ((quad_ops d).neg x)) product_is p) g_positive,
  )

  pub zero_multiple : IsZero v ↔ (w ≡ (quad_ops d).int (pos 0))
  zero_multiple = (
    λ z. product_is ∙ ap (λ x. (quad_ops d).mul x ((quad_ops d).int (pos g))) (λ i. quad (z.0 i) (z.1 i))
        ∙ identity (quad_ops d) (quad_ring d) ((quad_ops d).int (pos g) ∷ []) (expr.mul (expr.int (pos 0)) (var 0)) (expr.int (pos 0)) tt,
    λ e. let z = factor_zero (quad_ops d) (quad_ring d) (order_of d field) v ((quad_ops d).int (pos g)) (sym product_is ∙ e) g_positive in (ap (λ x. x.a) z, ap (λ x. x.b) z),
  )

-- an edge's value is negative where the triple's is, and zero where that is
module _ (d : ℕ) (field : IsFieldNumber d) (halves : List Half) (valid : IsTriangulation d halves) (h : ℕ) (edge : IsEdge halves h) (l : Triple) (hinge : IsHingeTriple d halves h l) (q : Triple) where
  pub negative_by_triple : IsPositive d ((quad_ops d).neg (value_at (quad_ops d) l q)) ↔ IsNegative d q halves h
  negative_by_triple =
      let m = value_multiple d halves h valid edge.0 field l hinge in
      let both = negative_multiple d field m.0 m.1 (value_at (quad_ops d) l q) (hinge_value d halves h q) (m.2 q) in
      (λ p. (edge, both.0 p), λ p. both.1 p.1)

  pub zero_by_triple : IsZero (value_at (quad_ops d) l q) ↔ IsZeroAt d q halves h
  zero_by_triple =
      let m = value_multiple d halves h valid edge.0 field l hinge in
      let both = zero_multiple d field m.0 m.1 (value_at (quad_ops d) l q) (hinge_value d halves h q) (m.2 q) in
      (λ p. (edge, both.0 p), λ p. both.1 p.1)

  -- one triple's width is that of every triple
  pub fits_by_triple : PlaceFits d l q → ValueFitsAt d q halves h
  fits_by_triple fits m other = subst (λ x. PlaceFits d x q) (one_triple d field halves valid h edge.0 l m hinge other) fits

-- the same by the value, whatever triple it comes from
module _ (d : ℕ) (field : IsFieldNumber d) (halves : List Half) (valid : IsTriangulation d halves) (h : ℕ) (edge : IsEdge halves h) (q : Triple) (v : Quad) (value : IsValueAt d q halves h v) where
  pub negative_by_value : IsPositive d ((quad_ops d).neg v) ↔ IsNegative d q halves h
  negative_by_value =
      subst (λ x. IsPositive d ((quad_ops d).neg x) ↔ IsNegative d q halves h) (sym value.2) (negative_by_triple d field halves valid h edge value.0 value.1 q)

  pub zero_by_value : IsZero v ↔ IsZeroAt d q halves h
  zero_by_value = subst (λ x. IsZero x ↔ IsZeroAt d q halves h) (sym value.2) (zero_by_triple d field halves valid h edge value.0 value.1 q)

-- an edge's value is negative, zero or positive
pub sign_at : (d : ℕ) → IsFieldNumber d → (q : Triple) (halves : List Half) (h : ℕ) → IsEdge halves h
    → IsNegative d q halves h ⊎ (IsZeroAt d q halves h ⊎ IsPositive d (hinge_value d halves h q))
sign_at d field q halves h edge = go ((order_of d field).sign (hinge_value d halves h q))
  where
    go : Sign (quad_ops d) (IsPositive d) (hinge_value d halves h q) → IsNegative d q halves h ⊎ (IsZeroAt d q halves h ⊎ IsPositive d (hinge_value d halves h q))
    go (is_zero e) = inr (inl (edge, e))
    go (is_positive p) = inr (inr p)
    go (is_negative p) = inl (edge, p)

-- a zero value is neither negative nor positive
pub zero_not_negative : (d : ℕ) → IsFieldNumber d → (q : Triple) (halves : List Half) (h : ℕ) → IsZeroAt d q halves h → ¬ (IsNegative d q halves h)
zero_not_negative d field q halves h z n =
    (order_of d field).zero_is_not
    (subst (IsPositive d) (ap (quad_ops d).neg z.1 ∙ identity (quad_ops d) (quad_ring d) [] (expr.neg (expr.int (pos 0))) (expr.int (pos 0)) tt) n.1)

pub zero_not_positive : (d : ℕ) → IsFieldNumber d → (q : Triple) (halves : List Half) (h : ℕ) → IsZeroAt d q halves h → ¬ (IsPositive d (hinge_value d halves h q))
zero_not_positive d field q halves h z p = (order_of d field).zero_is_not (subst (IsPositive d) z.1 p)

-- where no value is negative or zero, the triangulation is strict
pub strict_where_none : (d : ℕ) → IsFieldNumber d → (q : Triple) (halves : List Half) → IsDelaunay d q halves → ((h : ℕ) → ¬ (IsZeroAt d q halves h)) → IsStrictAt d halves q
strict_where_none d field q halves delaunay none h edge = elim (sign_at d field q halves h edge) [
  | inl n ↦ absurd (delaunay h n)
  | inr other ↦ elim other [
    | inl z ↦ absurd (none h z)
    | inr p ↦ p
  ]
]

-- and where it is strict, none is negative, and none zero
pub strict_not_negative : (d : ℕ) → IsFieldNumber d → (q : Triple) (halves : List Half) → IsStrictAt d halves q → (h : ℕ) → ¬ (IsNegative d q halves h)
strict_not_negative d field q halves strict h n = not_both_signs (quad_ops d) (quad_ring d) (order_of d field) (hinge_value d halves h q) (strict h n.0) n.1

pub strict_not_zero : (d : ℕ) → IsFieldNumber d → (q : Triple) (halves : List Half) → IsStrictAt d halves q → (h : ℕ) → ¬ (IsZeroAt d q halves h)
strict_not_zero d field q halves strict h z = zero_not_positive d field q halves h z (strict h z.0)

-- a negative value isn't positive
pub negative_not_positive : (d : ℕ) → IsFieldNumber d → (q : Triple) (halves : List Half) (h : ℕ) → IsNegative d q halves h → ¬ (IsPositive d (hinge_value d halves h q))
negative_not_positive d field q halves h n p = not_both_signs (quad_ops d) (quad_ring d) (order_of d field) (hinge_value d halves h q) p n.1

-- the value that code computes, where the field has another name
module _ (fd d : ℕ) (same : fd ≡ d) (field : IsFieldNumber fd) (halves : List Half) (valid : IsTriangulation d halves) (h : ℕ) (edge : IsEdge halves h)
    (form : Form) (hinge : IsHingeTriple d halves h (of_form form)) (at : Place3) where
  seen_fits : ValueFits fd form at → ValueFitsAt d (of_place at) halves h
  seen_fits fits = fits_by_triple d (subst IsFieldNumber same field) halves valid h edge (of_form form) hinge (of_place at) (subst (λ x. ValueFits x form at) same fits)

  seen_wide : ¬ (ValueFits fd form at) → ¬ (ValueFitsAt d (of_place at) halves h)
  seen_wide wide fits = wide (subst (λ x. ValueFits x form at) (sym same) (fits (of_form form) hinge))

  -- and what its answer says of the edge
  pub answer_fits : (r : Result Quad Wide) → TripleFits d halves h → (IsOk r ↔ ValueFits fd form at) → OnOk r (EdgeFits d (of_place at) halves h)
  answer_fits (Ok v) triple both = (triple, seen_fits (both.0 refl))
  answer_fits (Err e) triple both = _

  pub answer_wide : (r : Result Quad Wide) → TripleFits d halves h → (IsOk r ↔ ValueFits fd form at) → IfErr r (λ wide. wide.formula ≡ F8)
      → IfErr r (λ wide. IsFirstWide d (of_place at) halves h wide.formula)
  answer_wide (Ok v) triple both is = _
  answer_wide (Err e) triple both is = inr (is, triple, seen_wide (λ fits. absurd (false≢true (both.1 fits))))
