-- Prefixes of one list.
use Rattle.std.specs.Prelude.{ℤ}
use Rattle.std.proofs.Common.{◌<◌, ℕ, List, [], ◌∷◌, ◌++◌, length, sym, ap, ◌∙◌, append_assoc, zero, suc, subst}
use mathlib.Core.Option.{some-ne-none, some-injective}
use mathlib.Core.List.{IsPrefix}
use Rattle.std.proofs.lemmas.List.{append-nil}
use Rattle.terrain.specs.Places.{IsAt}
use Rattle.terrain.proofs.CallerLemmas.{read}
use Rattle.receipt_log.specs.Rule.{ArePrefixes}

module _ {A : Type 0} where
  pub prefix_self : (xs : List A) → IsPrefix xs xs
  prefix_self xs = ([], append-nil xs)

  pub prefix_push : (xs ys zs : List A) → IsPrefix xs ys → IsPrefix xs (ys ++ zs)
  prefix_push xs ys zs p = (p.0 ++ zs, sym (append_assoc xs p.0 zs) ∙ ap (λ w. w ++ zs) p.1)

  -- what stands in a list stands there with more behind it
  at_append : (xs zs : List A) (i : ℕ) (x : A) → IsAt xs i x → IsAt (xs ++ zs) i x
  at_append [] zs i x at = absurd cc
  at_append (y ∷ xs) zs zero x at = at
  at_append (y ∷ xs) zs (suc i) x at = at_append xs zs i x at

  -- what stands in a prefix stands in the list
  pub at_prefix : (xs ys : List A) (i : ℕ) (x : A) → IsPrefix xs ys → IsAt xs i x → IsAt ys i x
  at_prefix xs ys i x p at = subst (λ l. IsAt l i x) p.1 (at_append xs p.0 i x at)

  -- the entry at a place of a prefix
  pub entry_in : (xs ys : List A) (i : ℕ) → IsPrefix xs ys → i < length xs → (x : A) × IsAt xs i x × IsAt ys i x
  entry_in xs ys i p within = let r = read xs i within in (r.0, r.1, at_prefix xs ys i r.0 p r.1)

pub none_begin : (ys : List (List ℤ)) → ArePrefixes [] ys
none_begin ys i old e = absurd (some-ne-none old (sym e))

pub begin_push : (olds : List (List (List ℤ))) (ys zs : List (List ℤ)) → ArePrefixes olds ys → ArePrefixes olds (ys ++ zs)
begin_push olds ys zs h i old e = prefix_push old ys zs (h i old e)

pub begin_more : (x : List (List ℤ)) (olds : List (List (List ℤ))) (ys : List (List ℤ)) → IsPrefix x ys → ArePrefixes olds ys → ArePrefixes (x ∷ olds) ys
begin_more x olds ys p h zero old e = subst (λ l. IsPrefix l ys) (some-injective x old e) p
begin_more x olds ys p h (suc i) old e = h i old e
