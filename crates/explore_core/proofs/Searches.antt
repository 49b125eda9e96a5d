-- A search by halves, and the index that it goes by.
use Rattle.std.proofs.Common.{◌≡◌, ◌≢◌, ℕ, ◌+◌, ◌<◌, ◌≤◌, List, length, sym, ap, ◌∙◌, subst, arith}
use Rattle.std.specs.Prelude.{ℤ}
use Rattle.std.specs.declared.cmp.Ordering.{Ordering}
use Rattle.std.specs.declared.cmp.Ordering.TheVariants.{Less, Greater}
use Rattle.std.specs.Cmp.{IsTotalOrder}
use Rattle.std.specs.Ordering.{ordering_reverse}
use Rattle.std.proofs.lemmas.Cmp.{tied_itself}
use mathlib.Core.Logic.{dite}
use native.Mathlib.Decide.{ℕ_discrete, dec_lt}
use Rattle.terrain.specs.Places.{IsAt}
use Rattle.explore_core.specs.Index.{IsIndex, IsGap}
use Rattle.explore_core.proofs.CallerLemmas.{listed_at}
use Rattle.terrain.proofs.CallerLemmas.{at_one, at_within}

module _ (order : List ℤ → List ℤ → Ordering) (keys : List (List ℤ)) (places : List ℕ) (k : List ℤ) where
  -- what is known of the key when it is sought from low to high
  pub record Between (low high : ℕ) : Type 0 where
    pub ordered : low ≤ high
    pub within : high ≤ length places
    pub below : (j a : ℕ) (p : List ℤ) → j < low → IsAt places j a → IsAt keys a p → order p k ≡ Less
    pub above : (j a : ℕ) (p : List ℤ) → high ≤ j → IsAt places j a → IsAt keys a p → order k p ≡ Less

  pub begin : Between 0 (length places)
  begin = record { ordered = omega arith; within = omega arith; below = λ j a p h. absurd (omega arith); above = λ j a p h at. let w = at_within places j a at in absurd (omega arith) }

  module _ (total : IsTotalOrder order) (index : IsIndex order keys places) where
    pub halve_up : (low high m a : ℕ) (p : List ℤ) → Between low high → low ≤ m → m < high → IsAt places m a → IsAt keys a p → order p k ≡ Less → Between (m + 1) high
    halve_up low high m a p b l h at at' less = record {
      ordered = omega arith;
      within = b.within;
      above = b.above;
      below = λ j c q i e e'. dite (ℕ_discrete j m)
          (λ (same : j ≡ m). let cs : c ≡ a = at_one places m c a (subst (λ (x : ℕ). IsAt places x c) same e) at in let qs : q ≡ p = at_one keys a q p (subst (λ (x : ℕ). IsAt keys x q) cs e') at' in subst (λ (x : List ℤ). order x k ≡ Less) (sym qs) less)
          (λ (ne : j ≢ m). total.trans q p k (index.ascends j m c a q p (omega arith) e at e' at') less);
    }

    pub halve_down : (low high m a : ℕ) (p : List ℤ) → Between low high → low ≤ m → m < high → IsAt places m a → IsAt keys a p → order p k ≡ Greater → Between low m
    halve_down low high m a p b l h at at' greater = record {
      ordered = l;
      within = let w = b.within in omega arith;
      below = b.below;
      above = λ j c q i e e'. let less : order k p ≡ Less = total.antisymm k p ∙ ap ordering_reverse greater in dite (ℕ_discrete j m)
          (λ (same : j ≡ m). let cs : c ≡ a = at_one places m c a (subst (λ (x : ℕ). IsAt places x c) same e) at in let qs : q ≡ p = at_one keys a q p (subst (λ (x : ℕ). IsAt keys x q) cs e') at' in subst (λ (x : List ℤ). order k x ≡ Less) (sym qs) less)
          (λ (ne : j ≢ m). total.trans k p q less (index.ascends m j a c p q (omega arith) at e at' e'));
    }

    -- what would stand in a gap isn't there
    pub not_there : (i : ℕ) → IsGap order keys places k i → (a : ℕ) → IsAt keys a k → ⊥
    not_there i gap a at =
        let spot = listed_at places a (index.listed a (at_within keys a k at)) in
        let tied = tied_itself total k in
        dite (dec_lt spot.0 i)
        (λ (h : spot.0 < i). let less = gap.below spot.0 a k h spot.1 at in cc)
        (λ (n : spot.0 < i → ⊥). let less = gap.above spot.0 a k (omega arith) spot.1 at in cc)

pub gap_at : (order : List ℤ → List ℤ → Ordering) (keys : List (List ℤ)) (places : List ℕ) (k : List ℤ) (low high : ℕ) → Between order keys places k low high → high ≤ low → IsGap order keys places k low
gap_at order keys places k low high b h = record {
  within = let o = b.ordered in let w = b.within in omega arith;
  below = b.below;
  above = λ j a p i. let o = b.ordered in b.above j a p (omega arith);
}
