-- The square torus, for the tests: its edge 2 is a wall alone.
use Rattle.std.proofs.Common.{◌≡◌, ◌⊎◌, ℕ, zero, suc, ◌<◌, List, [], ◌∷◌, refl, sym, ap, ◌∙◌, subst, inl, inr, arith}
use Rattle.std.specs.Prelude.{ℤ, pos, negsuc, slice_index}
use Rattle.std.specs.List.{Contains}
use Rattle.std.proofs.lemmas.List.Elements.{Contains-get_or}
use Rattle.std.proofs.Math.Nat.{dvd_antisymm, one-dvd}
use Rattle.rings.proofs.Multiples.{multiple_zero}
use Rattle.quad_field.specs.FieldNumber.{IsFieldNumber}
use Rattle.quad_field.specs.Quads.{quad, quad_ops, IsPositive}
use Rattle.quad_field.proofs.CallerLemmas.{quad_ring, order_of, natural_positive}
use Rattle.tri_core.specs.declared.half.Half.{Half}
use Rattle.tri_core.specs.Flips.{IsEdge}
use Rattle.hinge_form.specs.Triples.{Triple, HasNoDivisor}
use Rattle.hinge_form.specs.Hinges.{hinge_value, full_triple}
use Rattle.hinge_form.specs.Lines.{IsMultiple}
use Rattle.hinge_form.specs.Walls.{IsWall, IsEdgeOf}
use Rattle.hinge_form.proofs.CallerLemmas.{value_of_triple}
use Rattle.wall_cross.proofs.Members.{place_of}

-- a half-edge of whole coordinates
abbrev pub side : ℤ → ℤ → ℕ → Half
side s t twin = record { vec = record { s = quad s (pos 0); t = quad t (pos 0) }; twin = twin }

abbrev pub torus : List Half
torus =
    side (pos 0) (negsuc 0) 4 ∷ side (pos 1) (pos 0) 5 ∷ side (negsuc 0) (pos 1) 3 ∷ side (pos 1) (negsuc 0) 2 ∷ side (pos 0) (pos 1) 0 ∷ side (negsuc 0) (pos 0) 1 ∷ []

-- the line x = 0, and the place (1, 0, 1) on it
abbrev pub upright : Triple
upright = (quad (pos 0) (pos 0), quad (pos 1) (pos 0), quad (pos 0) (pos 0))

abbrev middle : Triple
middle = (quad (pos 1) (pos 0), quad (pos 0) (pos 0), quad (pos 1) (pos 0))

no_divisor : HasNoDivisor upright
no_divisor k all = dvd_antisymm (all 1 (quad (pos 1) (pos 0)) (omega arith)).0 (one-dvd k)

own : IsEdgeOf 2 torus upright 2
own = ((omega arith, omega arith), (quad (pos 1) (pos 0), quad (pos 2) (pos 0), natural_positive 2 1 (omega arith), natural_positive 2 2 (omega arith), refl))

-- an edge is the own one, or its value is positive there
each : (h : ℕ) → IsEdge torus h → (h ≡ 2) ⊎ IsPositive 2 (hinge_value 2 torus h middle)
each zero named = inr (natural_positive 2 2 (omega arith))
each (suc zero) named = inr (natural_positive 2 2 (omega arith))
each (suc (suc zero)) named = inl refl
each (suc (suc (suc zero))) named = absurd (omega (arith, named.1))
each (suc (suc (suc (suc zero)))) named = absurd (omega (arith, named.1))
each (suc (suc (suc (suc (suc zero))))) named = absurd (omega (arith, named.1))
each (suc (suc (suc (suc (suc (suc h)))))) named = absurd (omega (arith, named.0))

module _ (field : IsFieldNumber 2) where
  listed : (h : ℕ) → IsEdgeOf 2 torus upright h → Contains (2 ∷ []) h
  listed h named = elim (each h named.0) [
    | inl e ↦ subst (Contains (2 ∷ [])) (sym e) (Contains-get_or (2 ∷ []) 0 0 (omega arith))
    | inr p ↦
        absurd ((order_of 2 field).zero_is_not
        (subst (IsPositive 2) (value_of_triple 2 torus h middle ∙ multiple_zero (quad_ops 2) (quad_ring 2) (order_of 2 field) upright (full_triple 2 torus h) middle named.1 refl) p))
  ]

  contained : (h : ℕ) → Contains (2 ∷ []) h → IsEdgeOf 2 torus upright h
  contained h c = let at = place_of (2 ∷ []) h c in subst (IsEdgeOf 2 torus upright) (ap (slice_index (2 ∷ [])) (first at.0 at.1) ∙ at.2) own
    where
      first : (i : ℕ) → i < 1 → 0 ≡ i
      first i less = omega arith

  pub torus_wall : IsWall 2 torus upright (2 ∷ [])
  torus_wall = record {
    some = omega arith;
    least = record { divisor = 2; taken_out = refl; reduced = no_divisor };
    all = record { ascends = λ i j less within. absurd (omega (arith, less, within)); exactly = λ h. (contained h, listed h) };
    line = (
      middle,
      record {
        inside = (natural_positive 2 1 (omega arith), natural_positive 2 1 (omega arith));
        on = refl;
        others = λ h named none. elim (each h named) [
          | inl e ↦ absurd (none (subst (λ (k : ℕ). IsMultiple 2 upright (full_triple 2 torus k)) (sym e) own.1))
          | inr p ↦ p
        ];
      },
    );
  }
