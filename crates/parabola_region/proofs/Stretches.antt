-- What forms leave of the chord of a line, one after another.
use Rattle.std.proofs.Common.{◌≡◌, ◌↔◌, ℕ, ◌+◌, ◌<◌, List, length, Bool, true, false, subst, sym, refl, arith, below_more}
use Rattle.std.specs.Prelude.{pos}
use mathlib.Core.Logic.{inl, inr}
use mathlib.Core.Bool.{beq}
use Rattle.std.proofs.lemmas.Bool.{false≢true}
use Rattle.rings.specs.Order.{Sign, is_zero, is_positive, is_negative}
use Rattle.rings.specs.Forms.{inner_value, value_at}
use Rattle.rings.specs.Lines.{crossing_point, IsOn, IsInside, HasPositiveFactor}
use Rattle.rings.specs.Bounds.{rate, IsBound, AtStart, AtBound, IsBehind}
use Rattle.rings.proofs.Bounds as bounds
use Rattle.rings.proofs.Signs.{not_positive, zero_not_positive, never_positive}
use Rattle.rings.proofs.Multiples.{multiple_from, inner_out, inner_of_opposite}
use Rattle.quad_field.specs.declared.quad.Quad.{Quad}
use Rattle.quad_field.specs.FieldNumber.{IsFieldNumber}
use Rattle.quad_field.specs.Quads.{quad_ops, IsPositive, IsZero}
use Rattle.quad_field.proofs.CallerLemmas.{quad_ring, order_of, archimedean, zero_is}
use Rattle.hinge_form.specs.Triples.{Triple, of_form, of_place, zeros}
use Rattle.hinge_form.specs.Lines.{IsMultiple}
use Rattle.parabola_region.specs.declared.hinge_list.Hinge.{Hinge}
use Rattle.parabola_region.specs.declared.meeting.Bound.{Bound}
use Rattle.parabola_region.specs.declared.meeting.Meeting.TheVariants.{Never}
use Rattle.parabola_region.specs.HingeLists.{form_at}
use Rattle.parabola_region.specs.Stretches.{turned_place, bound_point, HasPointFor, IsMeeting, IsBoundOf, IsBoundFor, IsStart, IsBehindAt}
use Rattle.parabola_region.proofs.Signs.{same_direction, other_direction}
use Rattle.parabola_region.proofs.Meetings.{rate_of_bound, bound_is, factor_of}
use Rattle.parabola_region.proofs.Starts.{chord_point_is}

-- the inner value of a place or its negative
inner_turned : (d : ℕ) (f : Bool) (q : Triple) → inner_value (quad_ops d) (turned_place d f q) ≡ inner_value (quad_ops d) q
inner_turned d true q = inner_of_opposite (quad_ops d) (quad_ring d) q
inner_turned d false q = refl

module _ (d : ℕ) (field : IsFieldNumber d) (l : Triple) (some : ¬ (l ≡ zeros)) (forms : List Hinge) where
  abbrev P : Quad → Type 0
  P = IsPositive d

  abbrev value : Triple → Triple → Quad
  value k q = value_at (quad_ops d) k q

  abbrev form : ℕ → Triple
  form i = form_at forms i

  abbrev count : ℕ
  count = length forms

  zero_not : (x : Quad) → IsZero x → ¬ (P x)
  zero_not x z p = never_positive (quad_ops d) (quad_ring d) (order_of d field) x (zero_is d x z) p

  -- a form that never becomes positive
  pub never_at : (i : ℕ) → i < count → IsMeeting d l (form i) Never → (p : Triple) → IsOn (quad_ops d) l p → P p.0 → ¬ (P (value (form i) p)) → ¬ (HasPointFor d l forms)
  never_at i under (inl h) p on pw at =
      bounds.no_parallel (quad_ops d) (quad_ring d) (order_of d field) l some (form_at forms) count i under h.0 (λ q. h.1 (multiple_from (quad_ops d) (quad_ring d) (order_of d field) l (form i) some h.0 q))
  never_at i under (inr h) p on pw at =
      bounds.no_flat (quad_ops d) (quad_ring d) (order_of d field) l some (form_at forms) count i under h.0 h.1 p on pw (not_positive (quad_ops d) (quad_ring d) (order_of d field) (value (form i) p) at)

  module _ (start : Triple) (is : IsStart d l start) where
    pub inside : IsInside (quad_ops d) (IsPositive d) start
    inside = (chord_point_is d field l is.0 start is.1).0

    pub on : IsOn (quad_ops d) l start
    on = (chord_point_is d field l is.0 start is.1).1

    -- all forms so far, and one more
    pub whole_fine : (n : ℕ) → ((i : ℕ) → i < n → AtStart (quad_ops d) P l start (form i)) → AtStart (quad_ops d) P l start (form n) → (i : ℕ) → i < n + 1 → AtStart (quad_ops d) P l start (form i)
    whole_fine n before here = below_more (λ i. AtStart (quad_ops d) P l start (form i)) n before here

    pub whole_from : (n : ℕ) → n < count → ((i : ℕ) → i < n → AtStart (quad_ops d) P l start (form i)) → (bound : Bound) → IsBoundOf d l (form n) bound → ¬ (P (value (form n) start))
        → IsBoundFor d l start forms (n + 1) bound
    whole_from n under before bound b at =
        let e = form n in
        let p = bound_point d bound in record {
          number = n;
          among = omega arith;
          inside = under;
          bound_of = b;
          behind = at;
          all = below_more (λ i. AtBound (quad_ops d) P l start e p (form i)) n (λ i u. bounds.start_to_bound (quad_ops d) (quad_ring d) (order_of d field) l some (form_at forms) count start inside on e p (form i) (before i u))
              (bounds.bound_itself (quad_ops d) (quad_ring d) (order_of d field) l some (form_at forms) count start inside on e p (bound_is d field l e bound b start at));
        }

    module _ (n : ℕ) (bound : Bound) (h : IsBoundFor d l start forms n bound) where
      abbrev e : Triple
      e = form h.number

      abbrev p : Triple
      p = bound_point d bound

      generic : IsBound (quad_ops d) P l start e p
      generic = bound_is d field l e bound h.bound_of start h.behind

      -- one more form behind the same bound
      more : AtBound (quad_ops d) P l start e p (form n) → IsBoundFor d l start forms (n + 1) bound
      more here = record {
        number = h.number;
        among = let a = h.among in omega arith;
        inside = h.inside;
        bound_of = h.bound_of;
        behind = h.behind;
        all = below_more (λ i. AtBound (quad_ops d) P l start e p (form i)) n h.all here;
      }

      pub behind_fine : AtStart (quad_ops d) P l start (form n) → IsBoundFor d l start forms (n + 1) bound
      behind_fine here = more (bounds.start_to_bound (quad_ops d) (quad_ring d) (order_of d field) l some (form_at forms) count start inside on e p (form n) here)

      module _ (under : n < count) (new : Bound) (b : IsBoundOf d l (form n) new) (at : ¬ (P (value (form n) start))) where
        pub join_empty : ¬ (bound.falls ≡ new.falls) → ¬ (HasPointFor d l forms)
        join_empty apart =
            bounds.no_opposed (quad_ops d) (quad_ring d) (order_of d field) l some (form_at forms) count h.number n h.inside under
            (other_direction d field (rate (quad_ops d) l e) (rate (quad_ops d) l (form n)) bound.falls new.falls apart (rate_of_bound d field l e bound h.bound_of) (rate_of_bound d field l (form n) new b))
            start on inside.0 (not_positive (quad_ops d) (quad_ring d) (order_of d field) (value e start) h.behind) (not_positive (quad_ops d) (quad_ring d) (order_of d field) (value (form n) start) at)

        same : bound.falls ≡ new.falls → P ((quad_ops d).mul (rate (quad_ops d) l (form n)) (rate (quad_ops d) l e))
        same f = same_direction d field (rate (quad_ops d) l (form n)) (rate (quad_ops d) l e) new.falls bound.falls (sym f) (rate_of_bound d field l (form n) new b) (rate_of_bound d field l e bound h.bound_of)

        pub join_past : bound.falls ≡ new.falls → P ((quad_ops d).neg (value (of_form new.form) p)) → IsBoundFor d l start forms (n + 1) new
        join_past f past =
            let q = bound_point d new in
            let c = bound_is d field l (form n) new b start at in record {
              number = n;
              among = omega arith;
              inside = under;
              bound_of = b;
              behind = at;
              all = below_more (λ i. AtBound (quad_ops d) P l start (form n) q (form i)) n
                  (λ i u. bounds.bound_moves (quad_ops d) (quad_ring d) (order_of d field) l some (form_at forms) count start inside on e p (form n) q generic c (same f)
                  (subst (λ (k : Triple). P ((quad_ops d).neg (value k p))) b.form past) (form i) (h.all i u))
                  (bounds.bound_itself (quad_ops d) (quad_ring d) (order_of d field) l some (form_at forms) count start inside on (form n) q c);
            }

        pub join_zero : bound.falls ≡ new.falls → IsZero (value (of_form new.form) p) → IsBoundFor d l start forms (n + 1) bound
        join_zero f z = more (inr (inr (same f, inl (subst (λ (k : Triple). value k p ≡ (quad_ops d).int (pos 0)) b.form (zero_is d (value (of_form new.form) p) z)))))

        pub join_before : bound.falls ≡ new.falls → P (value (of_form new.form) p) → IsBoundFor d l start forms (n + 1) bound
        join_before f v = more (inr (inr (same f, inr (subst (λ (k : Triple). P (value k p)) b.form v))))

    -- ---- from a bound of all forms
    module _ (bound : Bound) (h : IsBoundFor d l start forms count bound) where
      abbrev end : Triple
      end = bound_point d bound

      abbrev first : Triple
      first = form h.number

      bound_here : IsBound (quad_ops d) P l start first end
      bound_here = bound_is d field l first bound h.bound_of start h.behind

      pub end_on : IsOn (quad_ops d) l end
      end_on = bound_here.on_line

      pub end_forward : P end.0
      end_forward = bound_here.forward

      renamed : (i : ℕ) → IsBehind (quad_ops d) P l first end (form i) → IsBehind (quad_ops d) P l (of_form bound.form) end (form i)
      renamed i b = subst (λ (k : Triple). IsBehind (quad_ops d) P l k end (form i)) (sym h.bound_of.form) b

      module _ (i : ℕ) (under : i < count) where
        pub behind_plus : P (value (form i) end) → IsBehind (quad_ops d) P l (of_form bound.form) end (form i)
        behind_plus p = inr (inl p)

        pub behind_own : IsMultiple d l (form i) → IsBehind (quad_ops d) P l (of_form bound.form) end (form i)
        behind_own own = inl own

        pub behind_minus : P ((quad_ops d).neg (value (form i) end)) → ¬ (HasPointFor d l forms)
        behind_minus below =
            bounds.none_behind (quad_ops d) (quad_ring d) (order_of d field) l some (form_at forms) count start inside on first end bound_here i h.number under h.inside refl below (h.all i under)

        pub behind_never : IsZero (value (form i) end) → IsMeeting d l (form i) Never → ¬ (HasPointFor d l forms)
        behind_never z never = never_at i under never end end_on end_forward (zero_not (value (form i) end) z)

        module _ (other : Bound) (b : IsBoundOf d l (form i) other) (z : IsZero (value (form i) end)) where
          same_way : other.falls ≡ bound.falls → IsBehind (quad_ops d) P l first end (form i)
          same_way f =
              inr (inr (
                zero_is d (value (form i) end) z,
                same_direction d field (rate (quad_ops d) l (form i)) (rate (quad_ops d) l first) other.falls bound.falls f (rate_of_bound d field l (form i) other b) (rate_of_bound d field l first bound h.bound_of),
              ))

          other_way : ¬ (other.falls ≡ bound.falls) → ¬ (HasPointFor d l forms)
          other_way apart =
              bounds.no_opposed (quad_ops d) (quad_ring d) (order_of d field) l some (form_at forms) count i h.number under h.inside
              (other_direction d field (rate (quad_ops d) l (form i)) (rate (quad_ops d) l first) other.falls bound.falls apart (rate_of_bound d field l (form i) other b) (rate_of_bound d field l first bound h.bound_of))
              end end_on end_forward (not_positive (quad_ops d) (quad_ring d) (order_of d field) (value (form i) end) (zero_not (value (form i) end) z))
              (zero_not_positive (quad_ops d) (quad_ring d) (order_of d field) (value first end) bound_here.vanishes)

          pub behind_at : IsBehindAt d l forms bound i (beq other.falls bound.falls)
          behind_at = by_cases other.falls bound.falls (λ f. renamed i (same_way f)) other_way
            where
              by_cases : (f g : Bool) → (f ≡ g → IsBehind (quad_ops d) P l (of_form bound.form) end (form i)) → (¬ (f ≡ g) → ¬ (HasPointFor d l forms)) → IsBehindAt d l forms bound i (beq f g)
              by_cases true true a n = a refl
              by_cases true false a n = n (λ e. false≢true (sym e))
              by_cases false true a n = n (λ e. false≢true e)
              by_cases false false a n = a refl

      -- the inner test of the bound decides
      pub point_by_inner : ((i : ℕ) → i < count → IsBehind (quad_ops d) P l (of_form bound.form) end (form i)) → P (inner_value (quad_ops d) (of_place bound.at)) ↔ HasPointFor d l forms
      point_by_inner all = (there, back)
        where
          there : P (inner_value (quad_ops d) (of_place bound.at)) → HasPointFor d l forms
          there within =
              bounds.point_behind (quad_ops d) (quad_ring d) (order_of d field) l some (form_at forms) count start inside on (archimedean d field) first end bound_here
              (subst P (sym (inner_turned d bound.falls (of_place bound.at))) within)
              (λ i u. subst (λ (k : Triple). IsBehind (quad_ops d) P l k end (form i)) h.bound_of.form (all i u))

          back : HasPointFor d l forms → P (inner_value (quad_ops d) (of_place bound.at))
          back has = go ((order_of d field).sign (inner_value (quad_ops d) (of_place bound.at)))
            where
              factor : HasPositiveFactor (quad_ops d) (IsPositive d) (crossing_point (quad_ops d) l first) (of_place bound.at)
              factor = factor_of d field l first bound h.bound_of

              none : ¬ (P (inner_value (quad_ops d) (of_place bound.at))) → ⊥
              none nope =
                  bounds.no_outside (quad_ops d) (quad_ring d) (order_of d field) l some (form_at forms) count h.number h.inside bound_here.moves start inside on bound_here.behind
                  (λ p. nope (inner_out (quad_ops d) (quad_ring d) (order_of d field) (crossing_point (quad_ops d) l first) (of_place bound.at) factor p)) has

              go : Sign (quad_ops d) (IsPositive d) (inner_value (quad_ops d) (of_place bound.at)) → P (inner_value (quad_ops d) (of_place bound.at))
              go (is_positive p) = p
              go (is_zero e) = absurd (none (λ p. (order_of d field).zero_is_not (subst P e p)))
              go (is_negative q) = absurd (none (λ p. (order_of d field).zero_is_not (subst P ((quad_ring d).add-neg (inner_value (quad_ops d) (of_place bound.at))) ((order_of d field).sum _ _ p q))))

    -- where all are positive at the start
    pub point_at_start : ((i : ℕ) → i < count → AtStart (quad_ops d) P l start (form i)) → HasPointFor d l forms
    point_at_start all = bounds.point_at_start (quad_ops d) (quad_ring d) (order_of d field) l some (form_at forms) count start inside on all
