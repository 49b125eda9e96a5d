-- Lists of hinges, one half-edge after another.
use Rattle.std.proofs.Common.{◌≡◌, ℕ, ◌+◌, ◌<◌, List, [], ◌∷◌, ◌++◌, length, arith, sym, subst, refl, ◌∙◌, ap}
use mathlib.Core.Logic.{inl, inr}
use Rattle.std.specs.Prelude.{◌⊎◌, Some, None}
use Rattle.std.proofs.lemmas.List.{get_or_append_left, get_or_push}
use Rattle.std.proofs.lemmas.Bool.{cases_eq}
use Rattle.tri_core.specs.declared.half.Half.{Half}
use Rattle.tri_core.specs.Flips.{IsEdge}
use Rattle.parabola_region.specs.declared.hinge_list.Hinge.{Hinge}
use Rattle.parabola_region.specs.HingeLists.{no_hinge, edge_at, IsAdded, IsChordHinge, IsHingeList, IsPositiveEverywhere}
use Rattle.parabola_region.proofs.Lists.{length_more, each_more, ascends_more}

module _ (d : ℕ) (halves : List Half) (h : ℕ) (forms : List Hinge) (list : IsHingeList d halves h forms) where
  pub list_none : IsHingeList d halves 0 []
  list_none = record {
    ascends = λ i j less under. absurd (omega arith);
    below = λ i under. absurd (omega arith);
    each = λ i under. absurd (omega arith);
    every = λ k under edge. absurd (omega arith);
  }

  -- a half-edge that is no edge, or one without a chord
  pub list_same : IsAdded d halves h None → IsHingeList d halves (h + 1) forms
  list_same added = record {
    ascends = list.ascends;
    below = λ i under. let b = list.below i under in omega arith;
    each = list.each;
    every = λ k under edge. go k edge under (cases_eq k h);
  }
    where
      go : (k : ℕ) → IsEdge halves k → k < h + 1 → (k ≡ h) ⊎ ¬ (k ≡ h) → ((i : ℕ) × (i < length forms) × (edge_at forms i ≡ k)) ⊎ IsPositiveEverywhere d halves k
      go k edge under (inl e) = inr (subst (IsPositiveEverywhere d halves) (sym e) (added (subst (IsEdge halves) e edge)))
      go k edge under (inr n) = list.every k (omega arith) edge

  -- an edge with a chord
  pub list_more : (hinge : Hinge) → IsAdded d halves h (Some hinge) → IsHingeList d halves (h + 1) (forms ++ hinge ∷ [])
  list_more hinge added = record {
    ascends = ascends_more (λ (x : Hinge). x.edge) forms hinge no_hinge list.ascends (λ i under. subst (λ m. edge_at forms i < m) (sym added.0) (list.below i under));
    below = each_more (λ (x : Hinge). x.edge < h + 1) forms hinge no_hinge (λ i under. let b = list.below i under in omega arith) (let e = added.0 in omega arith);
    each = each_more (IsChordHinge d halves) forms hinge no_hinge list.each added.1;
    every = λ k under edge. go k edge under (cases_eq k h);
  }
    where
      longer : List Hinge
      longer = forms ++ hinge ∷ []

      keeps : (k : ℕ) → ((i : ℕ) × (i < length forms) × (edge_at forms i ≡ k)) ⊎ IsPositiveEverywhere d halves k
          → ((i : ℕ) × (i < length (forms ++ hinge ∷ [])) × (edge_at (forms ++ hinge ∷ []) i ≡ k)) ⊎ IsPositiveEverywhere d halves k
      keeps k (inl f) = inl (f.0, omega (arith, length_more forms hinge, f.1), ap (λ (x : Hinge). x.edge) (get_or_append_left forms (hinge ∷ []) no_hinge f.0 f.1) ∙ f.2)
      keeps k (inr p) = inr p

      go : (k : ℕ) → IsEdge halves k → k < h + 1 → (k ≡ h) ⊎ ¬ (k ≡ h) → ((i : ℕ) × (i < length (forms ++ hinge ∷ [])) × (edge_at (forms ++ hinge ∷ []) i ≡ k)) ⊎ IsPositiveEverywhere d halves k
      go k edge under (inl e) =
          inl (length forms, omega (arith, length_more forms hinge), ap (λ (x : Hinge). x.edge) (get_or_push forms hinge no_hinge (length forms) refl) ∙ added.0 ∙ sym e)
      go k edge under (inr n) = keeps k (list.every k (omega arith) edge)
