-- The chord point of a line is a half-plane point on it.
use Rattle.std.proofs.Common.{◌≡◌, ℕ, ap}
use mathlib.Core.Logic.{inl, inr}
use Rattle.rings.specs.Forms.{chord_point, upright_chord_point}
use Rattle.rings.specs.Lines.{IsOn, IsInside, HasPositiveFactor}
use Rattle.rings.proofs.Forms.{chord_point_on_line}
use Rattle.rings.proofs.ChordPoints.{chord_point_inside, upright_chord_point_on, upright_chord_point_inside}
use Rattle.rings.proofs.Signs.{never_positive}
use Rattle.rings.proofs.Multiples.{on_out, inside_out}
use Rattle.quad_field.specs.FieldNumber.{IsFieldNumber}
use Rattle.quad_field.specs.Quads.{quad_ops, IsPositive, IsZero}
use Rattle.quad_field.proofs.CallerLemmas.{quad_ring, order_of, zero_is, is_zero_from}
use Rattle.hinge_form.specs.Triples.{Triple, zeros, IsReduced}
use Rattle.hinge_form.specs.Lines.{HasChord}
use Rattle.hinge_form.proofs.CallerLemmas.{reduced_factor}
use Rattle.parabola_region.specs.Chords.{IsChordPoint}

module _ (d : ℕ) (field : IsFieldNumber d) where
  -- a half-plane point isn't zero
  pub inside_some : (q : Triple) → IsInside (quad_ops d) (IsPositive d) q → ¬ (q ≡ zeros)
  inside_some q h e = never_positive (quad_ops d) (quad_ring d) (order_of d field) q.0 (ap (λ (t : Triple). t.0) e) h.0

  module _ (l : Triple) (chord : HasChord d l) where
    upright_inside : IsZero l.2 → IsInside (quad_ops d) (IsPositive d) (upright_chord_point (quad_ops d) l)
    upright_inside z = upright_chord_point_inside (quad_ops d) (quad_ring d) (order_of d field) l chord (zero_is d l.2 z)

    slanted_inside : ¬ (IsZero l.2) → IsInside (quad_ops d) (IsPositive d) (chord_point (quad_ops d) l)
    slanted_inside s = chord_point_inside (quad_ops d) (quad_ring d) (order_of d field) l chord (λ e. s (is_zero_from d l.2 e))

    pub upright_some : IsZero l.2 → ¬ (upright_chord_point (quad_ops d) l ≡ zeros)
    upright_some z = inside_some (upright_chord_point (quad_ops d) l) (upright_inside z)

    pub slanted_some : ¬ (IsZero l.2) → ¬ (chord_point (quad_ops d) l ≡ zeros)
    slanted_some s = inside_some (chord_point (quad_ops d) l) (slanted_inside s)

    -- what is left of a half-plane point on a line
    left : (full x : Triple) → IsInside (quad_ops d) (IsPositive d) full → IsOn (quad_ops d) l full → IsReduced full x → IsInside (quad_ops d) (IsPositive d) x × IsOn (quad_ops d) l x
    left full x inside on r =
        let f : HasPositiveFactor (quad_ops d) (IsPositive d) full x = reduced_factor d full x (inside_some full inside) r in
        (inside_out (quad_ops d) (quad_ring d) (order_of d field) full x f inside, on_out (quad_ops d) (quad_ring d) (order_of d field) full x f l on)

    pub chord_point_is : (x : Triple) → IsChordPoint d l x → IsInside (quad_ops d) (IsPositive d) x × IsOn (quad_ops d) l x
    chord_point_is x (inl h) =
        left (upright_chord_point (quad_ops d) l) x (upright_inside h.0) (upright_chord_point_on (quad_ops d) (quad_ring d) (order_of d field) l chord (zero_is d l.2 h.0)) h.1
    chord_point_is x (inr h) = left (chord_point (quad_ops d) l) x (slanted_inside h.0) (chord_point_on_line (quad_ops d) (quad_ring d) l) h.1
