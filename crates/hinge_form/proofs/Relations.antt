-- How the lines of two forms lie, by their crossing point and their direction.
use Rattle.std.proofs.Common.{◌≡◌, ◌↔◌, ℕ, subst, sym, ap, ◌∙◌, refl}
use Rattle.std.specs.Prelude.{pos, Result, Ok, Err, IsOk, IfErr}
use Rattle.std.proofs.lemmas.Bool.{false≢true}
use Rattle.rings.specs.Ring.{Ops, IsRing}
use Rattle.rings.specs.Order.{IsOrdered}
use Rattle.rings.specs.Forms.{value_at}
use Rattle.rings.specs.Lines.{crossing_point, opposite_triple}
use Rattle.rings.proofs.Ordered.{factor_zero}
use Rattle.rings.proofs.Signs.{product_zero}
use Rattle.rings.proofs.Multiples.{opposite_twice, multiple_from, multiple_crossing, opposite_not_multiple, crossing_of_opposite, value_at_opposite, parallel_multiple, square_some}
use Rattle.quad_field.specs.declared.quad.Quad.{Quad}
use Rattle.quad_field.specs.FieldNumber.{IsFieldNumber}
use Rattle.quad_field.specs.Quads.{quad, quad_ops, IsPositive, IsZero}
use Rattle.quad_field.proofs.CallerLemmas.{quad_ring, order_of}
use Rattle.quad_field.specs.declared.formula.Wide.{Wide}
use Rattle.quad_field.specs.declared.formula.Formula.TheVariants.{F9}
use Rattle.hinge_form.specs.declared.lines.Relation.{Relation}
use Rattle.hinge_form.specs.declared.lines.Relation.TheVariants.{Same, Opposite, Apart}
use Rattle.hinge_form.specs.Triples.{Triple, zeros}
use Rattle.hinge_form.specs.Lines.{AreParallel, IsRelated, CrossingFits, DirectionFits, IsWideBetween}

module _ (d : ℕ) (field : IsFieldNumber d) (l k : Triple) where
  abbrev O : Ops Quad
  O = quad_ops d

  abbrev L : IsRing (quad_ops d)
  L = quad_ring d

  abbrev Q : IsOrdered (quad_ops d) (IsPositive d)
  Q = order_of d field

  opposite_parallel : AreParallel d l k → AreParallel d l (opposite_triple O k)
  opposite_parallel none = crossing_of_opposite O L l k ∙ ap (opposite_triple O) none

  parallel_opposite : AreParallel d l (opposite_triple O k) → AreParallel d l k
  parallel_opposite none = sym (opposite_twice O L (crossing_point O l k)) ∙ ap (opposite_triple O) (sym (crossing_of_opposite O L l k) ∙ none)

  -- not parallel, so neither a positive multiple nor a negative one
  pub apart_from : ¬ (AreParallel d l k) → IsRelated d l k Apart
  apart_from some = (λ h. some (multiple_crossing O L Q l k h), λ h. some (parallel_opposite (multiple_crossing O L Q l (opposite_triple O k) h)))

  module _ (some : ¬ (l ≡ zeros)) where
    module _ (none : AreParallel d l k) (v : Quad) (is : v ≡ value_at (quad_ops d) l k) where
      pub same_from : IsPositive d v → IsRelated d l k Same
      same_from p = multiple_from O L Q l k some none (subst (IsPositive d) is p)

      pub opposite_from : IsPositive d (O.neg v) → IsRelated d l k Opposite
      opposite_from p = multiple_from O L Q l (opposite_triple O k) some (opposite_parallel none) (subst (IsPositive d) (ap O.neg is ∙ sym (value_at_opposite O L l k)) p)

      -- their direction is not zero
      pub direction_some : ¬ (k ≡ zeros) → ¬ (IsZero v)
      direction_some other z =
          let e : value_at O l k ≡ O.int (pos 0) = sym is ∙ (λ i. quad (z.0 i) (z.1 i)) in
          let m = parallel_multiple O L l k none in
          let one : (x y : Quad) → O.mul (value_at O l l) x ≡ O.mul (value_at O l k) y → x ≡ O.int (pos 0) = λ x y f.
          factor_zero O L Q x (value_at O l l) (L.mul_comm x (value_at O l l) ∙ f ∙ product_zero O L Q (value_at O l k) y e) (square_some O L Q l some) in
          let a = one k.0 l.0 (ap (λ (t : Triple). t.0) m) in
          let b = one k.1 l.1 (ap (λ (t : Triple). t.1) m) in
          let c = one k.2 l.2 (ap (λ (t : Triple). t.2) m) in
          other (λ i. (a i, b i, c i))

    -- two lines lie in one way
    pub one_relation : (r s : Relation) → IsRelated d l k r → IsRelated d l k s → r ≡ s
    one_relation Same Same a b = refl
    one_relation Same Opposite a b = absurd (opposite_not_multiple O L Q l k some b a)
    one_relation Same Apart a b = absurd (b.0 a)
    one_relation Opposite Same a b = absurd (opposite_not_multiple O L Q l k some a b)
    one_relation Opposite Opposite a b = refl
    one_relation Opposite Apart a b = absurd (b.1 a)
    one_relation Apart Same a b = absurd (a.0 b)
    one_relation Apart Opposite a b = absurd (a.1 b)
    one_relation Apart Apart a b = refl

-- what is known of the relation of parallel lines is known of that of any
module _ (d : ℕ) (l k : Triple) (r : Result Relation Wide) (crossing : CrossingFits d l k) (none : AreParallel d l k) (fits : IsOk r ↔ DirectionFits d l k) where
  pub along_fits : IsOk r ↔ (CrossingFits d l k × (AreParallel d l k → DirectionFits d l k))
  along_fits = (λ ok. (crossing, λ _. fits.0 ok), λ h. fits.1 (h.1 none))

  pub along_wide : IfErr r (λ wide. wide.formula ≡ F9) → IfErr r (λ wide. IsWideBetween d l k wide.formula)
  along_wide h = by_cases r fits h
    where
      by_cases : (r : Result Relation Wide) → IsOk r ↔ DirectionFits d l k → IfErr r (λ wide. wide.formula ≡ F9) → IfErr r (λ wide. IsWideBetween d l k wide.formula)
      by_cases (Ok x) f h = h
      by_cases (Err wide) f h = subst (IsWideBetween d l k) (sym h) (crossing, none, λ fit. false≢true (f.1 fit))
