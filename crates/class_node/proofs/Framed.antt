-- The frames of the first starts of a list.
use Rattle.std.proofs.Common.{◌≡◌, ℕ, ◌+◌, ◌-◌, ◌<◌, List, [], ◌∷◌, ◌++◌, length, get_or, sym, ap, ◌∙◌, subst, inl, inr, arith}
use Rattle.std.specs.Prelude.{ℤ}
use Rattle.std.proofs.lemmas.Bool.{cases_lt}
use Rattle.std.proofs.lemmas.List.{get_or_append_left, get_or-append_right, length-append}
use Rattle.plane.specs.Matrices.{FieldMatrix, identity}
use Rattle.tri_core.specs.declared.half.Half.{Half}
use Rattle.class_node.specs.Leads.{IsFrameAt}

pub record AreFramesTo (d : ℕ) (halves : List Half) (code : List ℤ) (starts : List ℕ) (frames : List FieldMatrix) (n : ℕ) : Type 0 where
  pub count : length frames ≡ n
  pub each : (i : ℕ) → i < n → IsFrameAt d halves code (get_or starts i 0) (get_or frames i identity)

pub frames_more : (d : ℕ) (halves : List Half) (code : List ℤ) (starts : List ℕ) (frames : List FieldMatrix) (n : ℕ) (frame : FieldMatrix) → AreFramesTo d halves code starts frames n
    → IsFrameAt d halves code (get_or starts n 0) frame → AreFramesTo d halves code starts (frames ++ frame ∷ []) (n + 1)
frames_more d halves code starts frames n frame are own = record {
  count = length-append frames (frame ∷ []) ∙ ap (λ m. m + 1) are.count;
  each = λ i less.
      elim (cases_lt i n) [
        | inl below ↦
            subst (IsFrameAt d halves code (get_or starts i 0)) (sym (get_or_append_left frames (frame ∷ []) identity i (omega (arith, below, are.count)))) (are.each i below)
        | inr above ↦
            let same : i ≡ n = omega (arith, less, above) in
            let place : i ≡ length frames + 0 = omega (arith, same, are.count) in
            let here : get_or (frames ++ frame ∷ []) i identity ≡ frame = get_or-append_right frames (frame ∷ []) n i identity are.count (omega (arith, same)) ∙ first i same in
            subst (IsFrameAt d halves code (get_or starts i 0)) (sym here) (subst (λ k. IsFrameAt d halves code (get_or starts k 0) frame) (sym same) own)
      ];
}
  where
    first : (i : ℕ) → i ≡ n → get_or (frame ∷ []) (i - n) identity ≡ frame
    first i same = let zero_is : i - n ≡ 0 = omega (arith, same) in ap (λ k. get_or (frame ∷ []) k identity) zero_is
