-- Where a form vanishes on a line.
use Rattle.std.proofs.Common.{◌≡◌, ℕ, Bool, true, false, subst, sym, refl, ap, ◌∙◌}
use Rattle.std.specs.Prelude.{pos, Option, Some, None, MatchOption}
use Rattle.rings.specs.Forms.{value_at}
use Rattle.rings.specs.Lines.{crossing_point, IsOn, HasPositiveFactor}
use Rattle.rings.specs.Bounds.{rate, IsBound}
use Rattle.rings.proofs.Ordered.{product_negative}
use Rattle.rings.proofs.Signs.{minus_zero, not_positive, never_positive}
use Rattle.rings.proofs.Lines.{crossing_on_first, crossing_on_second}
use Rattle.rings.proofs.Multiples.{on_out, value_at_opposite}
use Rattle.quad_field.specs.declared.quad.Quad.{Quad}
use Rattle.quad_field.specs.FieldNumber.{IsFieldNumber}
use Rattle.quad_field.specs.Quads.{quad_ops, IsPositive}
use Rattle.quad_field.proofs.CallerLemmas.{quad_ring, order_of}
use Rattle.hinge_form.specs.Triples.{Triple, of_place}
use Rattle.hinge_form.specs.Lines.{IsCrossing}
use Rattle.hinge_form.proofs.CallerLemmas.{reduced_factor}
use Rattle.parabola_region.specs.declared.meeting.Bound.{Bound}
use Rattle.parabola_region.specs.Stretches.{turned_place, turned_value, bound_point, IsBoundOf}

-- the crossing point of two lines is what is left of it, times a positive K-integer
pub crossing_factor : (d : ℕ) (l k x : Triple) → IsCrossing d l k x → HasPositiveFactor (quad_ops d) (IsPositive d) (crossing_point (quad_ops d) l k) x
crossing_factor d l k x c = reduced_factor d (crossing_point (quad_ops d) l k) x c.apart c.point

-- the value at a place or its negative
pub value_turned : (d : ℕ) (k q : Triple) (f : Bool) → value_at (quad_ops d) k (turned_place d f q) ≡ turned_value d f (value_at (quad_ops d) k q)
value_turned d k q true = value_at_opposite (quad_ops d) (quad_ring d) k q
value_turned d k q false = refl

pub first_turned : (d : ℕ) (q : Triple) (f : Bool) → (turned_place d f q).0 ≡ turned_value d f q.0
first_turned d q true = refl
first_turned d q false = refl

zero_turned : (d : ℕ) (field : IsFieldNumber d) (f : Bool) (x : Quad) → x ≡ (quad_ops d).int (pos 0) → turned_value d f x ≡ (quad_ops d).int (pos 0)
zero_turned d field true x e = ap (quad_ops d).neg e ∙ minus_zero (quad_ops d) (quad_ring d) (order_of d field)
zero_turned d field false x e = e

-- a positive factor of a value, turned or not
factor_turned : (d : ℕ) (field : IsFieldNumber d) (f : Bool) (g x : Quad) → IsPositive d g → IsPositive d (turned_value d f x) → IsPositive d (turned_value d f ((quad_ops d).mul g x))
factor_turned d field true g x p q =
    subst (λ y. IsPositive d ((quad_ops d).neg y)) ((quad_ring d).mul_comm x g) (product_negative (quad_ops d) (quad_ring d) (order_of d field) x g q p)
factor_turned d field false g x p q = (order_of d field).product g x p q

module _ (d : ℕ) (field : IsFieldNumber d) (l k : Triple) (bound : Bound) (is : IsBoundOf d l k bound) where
  pub factor_of : HasPositiveFactor (quad_ops d) (IsPositive d) (crossing_point (quad_ops d) l k) (of_place bound.at)
  factor_of = crossing_factor d l k (of_place bound.at) is.crossing

  -- the direction in which it rises
  pub rate_of_bound : IsPositive d (turned_value d bound.falls (rate (quad_ops d) l k))
  rate_of_bound =
      subst (λ y. IsPositive d (turned_value d bound.falls y)) (sym (ap (λ (t : Triple). t.0) factor_of.out))
      (factor_turned d field bound.falls factor_of.factor bound.at.w factor_of.positive (subst (IsPositive d) (first_turned d (of_place bound.at) bound.falls) is.forward))

  vanishing : (j : Triple) → IsOn (quad_ops d) j (crossing_point (quad_ops d) l k) → IsOn (quad_ops d) j (bound_point d bound)
  vanishing j on =
      value_turned d j (of_place bound.at) bound.falls
      ∙ zero_turned d field bound.falls (value_at (quad_ops d) j (of_place bound.at))
      (on_out (quad_ops d) (quad_ring d) (order_of d field) (crossing_point (quad_ops d) l k) (of_place bound.at) factor_of j on)

  -- it is a bound from every place at which the form isn't positive
  pub bound_is : (start : Triple) → ¬ (IsPositive d (value_at (quad_ops d) k start)) → IsBound (quad_ops d) (IsPositive d) l start k (bound_point d bound)
  bound_is start behind = record {
    on_line = vanishing l (crossing_on_first (quad_ops d) (quad_ring d) l k);
    forward = is.forward;
    vanishes = vanishing k (crossing_on_second (quad_ops d) (quad_ring d) l k);
    moves = λ e. never_positive (quad_ops d) (quad_ring d) (order_of d field) _ (zero_turned d field bound.falls (rate (quad_ops d) l k) e) rate_of_bound;
    behind = not_positive (quad_ops d) (quad_ring d) (order_of d field) (value_at (quad_ops d) k start) behind;
  }

-- what is said of an option that is there, and of one that isn't
pub some_is : {T : Type 0} (A : Type 0) (B : T → Type 0) (o : Option T) (x : T) → o ≡ Some x → MatchOption o A B → B x
some_is A B o x e h = subst (λ o. MatchOption o A B) e h

pub none_is : {T : Type 0} (A : Type 0) (B : T → Type 0) (o : Option T) → o ≡ None → MatchOption o A B → A
none_is A B o e h = subst (λ o. MatchOption o A B) e h
