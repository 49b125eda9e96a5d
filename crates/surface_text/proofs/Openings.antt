-- The words that may stand on a line.
use Rattle.std.proofs.Common.{◌≡◌, ◌≢◌, ◌⊎◌, inl, inr, ℕ, zero, suc, Bool, true, false, List, [], ◌∷◌, codes, eqb, not, Contains, refl, ap, sym, ◌∙◌, arith}
use Rattle.std.specs.Cmp.Lexicographic.{pointwise}
use Rattle.std.proofs.lemmas.Bool.{true≢false}
use Rattle.std.proofs.lemmas.Bool.Decides.{Decides-eqb}
use Rattle.std.proofs.lemmas.Slice.Eq.{slice_eq-Decides}
use Rattle.surface_text.specs.Faults.{words_by}

-- the element of a short list
of_two : {X : Type 0} (a b x : X) → x ≢ a → x ≢ b → ¬ (Contains (a ∷ b ∷ []) x)
of_two a b x na nb (zero, below, e) = na (sym e)
of_two a b x na nb (suc zero, below, e) = nb (sym e)
of_two a b x na nb (suc (suc k), below, e) = absurd (omega arith)

of_three : {X : Type 0} (a b c x : X) → x ≢ a → x ≢ b → x ≢ c → ¬ (Contains (a ∷ b ∷ c ∷ []) x)
of_three a b c x na nb nc (zero, below, e) = na (sym e)
of_three a b c x na nb nc (suc zero, below, e) = nb (sym e)
of_three a b c x na nb nc (suc (suc zero), below, e) = nc (sym e)
of_three a b c x na nb nc (suc (suc (suc k)), below, e) = absurd (omega arith)

-- a word that no kind has where it may stand
pub closed : (bare glueless : Bool) (word : List ℕ) → (bare ≡ true → glueless ≡ true)
    → (bare ≡ true → word ≢ codes "base") → (glueless ≡ true → word ≢ codes "polygon")
    → (bare ≡ false → word ≢ codes "glue") → (bare ≡ false → word ≢ codes "end") → ¬ (Contains (words_by bare glueless) word)
closed true glueless word order base polygon glue end = of_two (codes "base") (codes "polygon") word (base refl) (polygon (order refl))
closed false true word order base polygon glue end = of_three (codes "polygon") (codes "glue") (codes "end") word (polygon refl) (glue refl) (end refl)
closed false false word order base polygon glue end = of_two (codes "glue") (codes "end") word (glue refl) (end refl)

-- a word that was compared isn't this one where the other test holds
pub not_word : (r b t u : Bool) (word s w : List ℕ) → t ≢ u → ((r ≡ true) × (b ≡ u)) ⊎ (r ≡ false) → r ≡ pointwise eqb word s → s ≡ w → b ≡ t → word ≢ w
not_word r b t u word s w apart either is spelled stands e =
    let yes : r ≡ true = (slice_eq-Decides Decides-eqb word s r is).1 (e ∙ sym spelled) in
    elim either [ inl h ↦ apart (sym stands ∙ h.1) | inr h ↦ true≢false (sym yes ∙ h) ]

-- a word that was found to differ
pub differs : (r : Bool) (word s w : List ℕ) → r ≡ not (pointwise eqb word s) → r ≡ true → s ≡ w → word ≢ w
differs r word s w is true_one spelled e =
    let same : pointwise eqb word s ≡ true = (slice_eq-Decides Decides-eqb word s (pointwise eqb word s) refl).1 (e ∙ sym spelled) in
    true≢false (sym true_one ∙ is ∙ ap not same)

-- a word that was found to be the same
pub same_word : (r : Bool) (word s w : List ℕ) → r ≡ not (pointwise eqb word s) → r ≡ false → s ≡ w → word ≡ w
same_word r word s w is false_one spelled =
    (slice_eq-Decides Decides-eqb word s (pointwise eqb word s) refl).0 (unnot (pointwise eqb word s) (sym is ∙ false_one)) ∙ spelled
  where
    unnot : (b : Bool) → not b ≡ false → b ≡ true
    unnot true e = refl
    unnot false e = absurd (true≢false e)
