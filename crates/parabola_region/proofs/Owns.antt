-- The edges of a line's own forms, and the faults of a list of hinges.
use Rattle.std.proofs.Common.{◌≡◌, ℕ, ◌+◌, ◌<◌, List, [], ◌∷◌, ◌++◌, length, get_or, subst, sym, ap, ◌∙◌, arith}
use mathlib.Core.Logic.{inl, inr}
use Rattle.std.specs.Prelude.{◌⊎◌}
use Rattle.std.specs.List.{Contains}
use Rattle.std.proofs.lemmas.List.{get_or_default}
use Rattle.std.proofs.lemmas.List.Elements.{Contains-push, Contains-push_cases, Contains-append_left}
use Rattle.std.proofs.lemmas.Bool.{cases_eq}
use Rattle.rings.specs.Forms.{value_at}
use Rattle.rings.specs.Lines.{IsOn}
use Rattle.rings.proofs.Multiples.{multiple_zero}
use Rattle.quad_field.specs.Quads.{quad_ops, IsZero}
use Rattle.quad_field.proofs.CallerLemmas.{quad_ring, order_of, is_zero_from}
use Rattle.quad_field.specs.FieldNumber.{IsFieldNumber}
use Rattle.quad_field.specs.declared.formula.Formula.{Formula}
use Rattle.quad_field.specs.declared.formula.Formula.TheVariants.{F1, F2, F3, F4, F5, F6, F7, F8, F9, F10, F11, F12, F13}
use Rattle.tri_core.specs.declared.half.Half.{Half}
use Rattle.tri_core.specs.Triangulation.{IsTriangulation}
use Rattle.hinge_form.specs.Triples.{Triple}
use Rattle.hinge_form.specs.Lines.{IsMultiple}
use Rattle.hinge_form.specs.Walls.{IsListing}
use Rattle.hinge_form.proofs.CallerLemmas.{hinge_some}
use Rattle.parabola_region.specs.declared.hinge_list.Hinge.{Hinge}
use Rattle.parabola_region.specs.declared.fault.RegionFault.{RegionFault}
use Rattle.parabola_region.specs.declared.fault.RegionFault.TheVariants.{Wide, Memory}
use Rattle.parabola_region.specs.Chords.{IsChordPoint, ChordPointFits}
use Rattle.parabola_region.specs.Instances.{AtTriple, IsWideInstance, IsRegionFault}
use Rattle.parabola_region.specs.HingeLists.{form_at, edge_at, HasForms, IsAscendingList, IsHingeList}
use Rattle.parabola_region.specs.Stretches.{IsStart, IsWideFor}
use Rattle.parabola_region.specs.Found.{IsOwnBelow, IsListFault}
use Rattle.parabola_region.proofs.Lists.{ascends_more}

module _ (d : ℕ) (l : Triple) (forms : List Hinge) (ascending : IsAscendingList forms) where
  pub no_edges : IsListing (IsOwnBelow d l forms 0) []
  no_edges = record {
    ascends = λ i j less under. absurd (omega arith);
    exactly = λ n. (λ c. absurd (omega (arith, c.1)), λ o. absurd (omega (arith, o.1)));
  }

  module _ (i : ℕ) (under : i < length forms) (edges : List ℕ) (listing : IsListing (IsOwnBelow d l forms i) edges) where
    earlier : (n : ℕ) → IsOwnBelow d l forms i n → IsOwnBelow d l forms (i + 1) n
    earlier n o = (o.0, omega (arith, o.1), o.2, o.3)

    -- form i isn't the line's own
    pub edges_same : ¬ (IsMultiple d l (form_at forms i)) → IsListing (IsOwnBelow d l forms (i + 1)) edges
    edges_same other = record {
      ascends = listing.ascends;
      exactly = λ n. (λ c. earlier n ((listing.exactly n).0 c), λ o. (listing.exactly n).1 (before n o (cases_eq o.0 i)));
    }
      where
        before : (n : ℕ) (o : IsOwnBelow d l forms (i + 1) n) → (o.0 ≡ i) ⊎ ¬ (o.0 ≡ i) → IsOwnBelow d l forms i n
        before n o (inl e) = absurd (other (subst (λ (k : ℕ). IsMultiple d l (form_at forms k)) e o.2))
        before n o (inr m) = (o.0, omega (arith, o.1), o.2, o.3)

    -- it is
    pub edges_more : IsMultiple d l (form_at forms i) → IsListing (IsOwnBelow d l forms (i + 1)) (edges ++ edge_at forms i ∷ [])
    edges_more own = record {
      ascends = ascends_more (λ (x : ℕ). x) edges (edge_at forms i) 0 listing.ascends less;
      exactly = λ n. (λ c. there n (Contains-push_cases edges (edge_at forms i) n c), λ o. back n o (cases_eq o.0 i));
    }
      where
        less : (j : ℕ) → j < length edges → get_or edges j 0 < edge_at forms i
        less j inside =
            let o = (listing.exactly (get_or edges j 0)).0 (j, inside, default j inside) in
            subst (λ x. x < edge_at forms i) o.3 (ascending o.0 i o.1 under)
          where
            default : (j : ℕ) → j < length edges → get_or edges j (get_or edges j 0) ≡ get_or edges j 0
            default j inside = get_or_default edges j (get_or edges j 0) 0 inside

        there : (n : ℕ) → Contains edges n ⊎ (edge_at forms i ≡ n) → IsOwnBelow d l forms (i + 1) n
        there n (inl c) = earlier n ((listing.exactly n).0 c)
        there n (inr e) = (i, omega arith, own, e)

        back : (n : ℕ) (o : IsOwnBelow d l forms (i + 1) n) → (o.0 ≡ i) ⊎ ¬ (o.0 ≡ i) → Contains (edges ++ edge_at forms i ∷ []) n
        back n o (inl e) = subst (Contains (edges ++ edge_at forms i ∷ [])) (sym (ap (edge_at forms) e) ∙ o.3) (Contains-push edges (edge_at forms i))
        back n o (inr m) = Contains-append_left edges (edge_at forms i ∷ []) n ((listing.exactly n).1 (o.0, omega (arith, o.1), o.2, o.3))

module _ (d : ℕ) (field : IsFieldNumber d) (halves : List Half) (valid : IsTriangulation d halves) (forms : List Hinge) (list : IsHingeList d halves (length halves) forms) where
  -- no hinge triple is zero
  pub forms_some : HasForms forms
  forms_some i under = let c = list.each i under in hinge_some d halves (edge_at forms i) valid c.edge.0 field (form_at forms i) c.triple

  -- something that is so of a form of the list
  at : (A : Triple → Type 0) (i : ℕ) → i < length forms → A (form_at forms i) → AtTriple d halves A
  at A i under a = let c = list.each i under in (edge_at forms i, form_at forms i, c.edge, c.triple, a)

  -- the start of a line of the list, and its width
  pub start_at : (n : ℕ) → n < length forms → (x : Triple) → IsChordPoint d (form_at forms n) x → IsStart d (form_at forms n) x
  start_at n under x point = ((list.each n under).chord, point)

  pub wide_start : (n : ℕ) → n < length forms → (formula : Formula) → formula ≡ F4 → ¬ (ChordPointFits d (form_at forms n)) → IsWideInstance d halves formula
  wide_start n under formula e w = subst (IsWideInstance d halves) (sym e) (at _ n under ((list.each n under).chord, w))

  -- what is wide for a line of the list is an instance of the triangulation
  pub wide_instance : (n : ℕ) → n < length forms → (formula : Formula) → IsWideFor d (form_at forms n) forms formula → IsWideInstance d halves formula
  wide_instance n under F1 w = absurd w
  wide_instance n under F2 w = absurd w
  wide_instance n under F3 w = absurd w
  wide_instance n under F4 w = absurd w
  wide_instance n under F5 w = at _ n under (at _ w.0 w.1 w.2)
  wide_instance n under F6 w = at _ n under (at _ w.0 w.1 w.2)
  wide_instance n under F7 w = at _ n under (at _ w.0 w.2 (w.4.0, w.4.1, at _ w.1 w.3 w.4.2))
  wide_instance n under F8 w = at _ n under (w.0, (w.1.2.0, w.1.2.1, at _ w.1.0 w.1.1 w.1.2.2))
  wide_instance n under F9 w = at _ n under (at _ w.0 w.1 w.2)
  wide_instance n under F10 w = absurd w
  wide_instance n under F11 w = absurd w
  wide_instance n under F12 w = absurd w
  wide_instance n under F13 w = absurd w

  pub region_fault : (n : ℕ) → n < length forms → (fault : RegionFault) → IsListFault d (form_at forms n) forms fault → IsRegionFault d halves fault
  region_fault n under (Wide formula) w = wide_instance n under formula w
  region_fault n under Memory w = tt

-- a form that isn't zero at a place of a line isn't the line's own
pub not_own : (d : ℕ) → IsFieldNumber d → (l k start : Triple) → IsOn (quad_ops d) l start → ¬ (IsZero (value_at (quad_ops d) k start)) → ¬ (IsMultiple d l k)
not_own d field l k start on some own = some (is_zero_from d _ (multiple_zero (quad_ops d) (quad_ring d) (order_of d field) l k start own on))
