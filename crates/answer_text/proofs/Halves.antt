-- The lines of half-edges, one after another.
use Rattle.std.proofs.Common.{◌≡◌, ℕ, ◌+◌, ◌<◌, List, [], ◌∷◌, ◌++◌, take, length, slice_get, Some, ap, sym, ◌∙◌, arith, zero-add, append_assoc, append-nil}
use Rattle.std.specs.List.{flat_map, range_with_len}
use Rattle.std.proofs.lemmas.List.FromFn.{get_or-range_with_len, length-range_with_len}
use Rattle.std.proofs.lemmas.List.{take_all, take_more}
use Rattle.std.proofs.lemmas.List.Concat.{flat_map-append}
use Rattle.tri_core.specs.declared.half.Half.{Half}
use Rattle.tri_core.specs.HalfEdges.{half_at, no_half}
use Rattle.std.proofs.lemmas.Option.{get_or_from_slice_get}
use Rattle.answer_text.specs.BaseTexts.{half_text, halves_text}

module _ (halves : List Half) where
  -- one line more
  pub one_line : (h : ℕ) (half : Half) (start before after : List ℕ) → h < length halves → slice_get halves h ≡ Some half
      → before ≡ start ++ flat_map (λ h. half_text h (half_at halves h)) (take h (range_with_len 0 (length halves))) → after ≡ before ++ half_text h half
      → after ≡ start ++ flat_map (λ h. half_text h (half_at halves h)) (take (h + 1) (range_with_len 0 (length halves)))
  one_line h half start before after less there i s =
      let R = range_with_len 0 (length halves) in
      let f : ℕ → List ℕ = λ h. half_text h (half_at halves h) in
      let more : take (h + 1) R ≡ take h R ++ h ∷ [] =
      take_more R h 0 (omega (arith, length-range_with_len 0 (length halves), less)) ∙ ap (λ k. take h R ++ k ∷ []) (get_or-range_with_len 0 (length halves) h 0 less ∙ zero-add h) in
      let lines : flat_map f (take (h + 1) R) ≡ flat_map f (take h R) ++ f h =
      ap (flat_map f) more ∙ flat_map-append f (take h R) (h ∷ []) ∙ ap (λ t. flat_map f (take h R) ++ t) (append-nil (f h)) in
      let same : half_text h half ≡ f h = ap (half_text h) (sym (get_or_from_slice_get halves h half no_half there)) in
      s ∙ ap (λ t. before ++ t) same ∙ ap (λ t. t ++ f h) i ∙ append_assoc start (flat_map f (take h R)) (f h) ∙ ap (λ t. start ++ t) (sym lines)

  -- all lines
  pub all_lines : (h : ℕ) (start after : List ℕ) → h ≡ length halves
      → after ≡ start ++ flat_map (λ h. half_text h (half_at halves h)) (take h (range_with_len 0 (length halves))) → after ≡ start ++ halves_text halves
  all_lines h start after s i = i ∙ ap (λ hs. start ++ flat_map (λ h. half_text h (half_at halves h)) hs) (take_all h (range_with_len 0 (length halves)) (omega (arith, length-range_with_len 0 (length halves), s)))
