-- One more half-edge of which the list tells whether it is upper.
use Rattle.std.proofs.Common.{◌≡◌, ℕ, ◌+◌, ◌<◌, ◌∷◌, [], ◌++◌, List, Bool, false, get_or, length, sym, subst, arith}
use Rattle.std.specs.Prelude.{◌⊎◌, ◌↔◌, IsTrue}
use mathlib.Core.Logic.{inl, inr}
use Rattle.std.proofs.lemmas.Bool.{cases_eq}
use Rattle.std.proofs.lemmas.List.{get_or_append_left, get_or_push}

pub tells_more : (P : ℕ → Type 0) (list : List Bool) (h : ℕ) (b : Bool) → length list ≡ h → ((k : ℕ) → k < h → IsTrue (get_or list k false) ↔ P k) → (IsTrue b ↔ P h)
    → (k : ℕ) → k < h + 1 → IsTrue (get_or (list ++ b ∷ []) k false) ↔ P k
tells_more P list h b long before here k below = go (cases_eq k h)
  where
    go : (k ≡ h) ⊎ ¬ (k ≡ h) → IsTrue (get_or (list ++ b ∷ []) k false) ↔ P k
    go (inl e) = subst (λ x. IsTrue (get_or (list ++ b ∷ []) x false) ↔ P x) (sym e) (subst (λ x. IsTrue x ↔ P h) (sym (get_or_push list b false h long)) here)
    go (inr ne) =
        let less : k < h = omega (arith, below, ne) in
        subst (λ x. IsTrue x ↔ P k) (sym (get_or_append_left list (b ∷ []) false k (omega (arith, less, long)))) (before k less)
