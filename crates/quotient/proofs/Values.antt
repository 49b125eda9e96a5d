-- The values of quotients, one after another.
use Rattle.std.proofs.Common.{◌≡◌, ℕ, zero, suc, ◌+◌, ◌<◌, arith, refl, sym, ap, ◌∙◌, subst, List, [], ◌∷◌, ◌++◌, map, take, length, append_assoc, slice_index_or}
use Rattle.std.specs.Prelude.{◌⊎◌}
use mathlib.Core.Logic.{inl, inr}
use Rattle.std.specs.List.{Contains}
use Rattle.plane.specs.Matrices.{FieldMatrix, identity, matrix_times, IsInLowestTerms, HaveOneValue}
use Rattle.plane.proofs.CallerLemmas.{quotient_is}
use Rattle.quotient.specs.Trees.{IsProduct}
use Rattle.quotient.specs.Width.{IsInverse}
use Rattle.quotient.specs.Quotients.{Quotient, IsValueOf, AreValues}
use Rattle.quotient.specs.Quotients.AreValues.{kept, left_out}
use Rattle.quotient.specs.Distinct.{HasTaken}

-- ((h·g)·i)·k = h·g where i is the inverse of k
pub value_of_quotient : (d : ℕ) (h g k i p x : FieldMatrix) → IsInLowestTerms k → IsInverse d k i → IsProduct d h g p → IsProduct d p i x
    → IsValueOf d (record { left = h; middle = g; right = k }) x
value_of_quotient d h g k i p x low inverse product value =
    (value.0, quotient_is d x p h g k i product.0.positive low.positive inverse.0.positive product.1 value.1 inverse.1.0)

-- a value that a list has taken is the value of one more quotient
pub one_more : (d : ℕ) (q : Quotient) (x : FieldMatrix) (before after : List FieldMatrix) → HasTaken before x after → IsValueOf d q x
    → (qs : List Quotient) → AreValues d qs before → AreValues d (qs ++ q ∷ []) after
one_more d q x before after (inl p) value qs values = subst (AreValues d (qs ++ q ∷ [])) (sym p.1) (left_out qs before q x values value p.0)
one_more d q x before after (inr p) value qs values = subst (AreValues d (qs ++ q ∷ [])) (sym p.2) (kept qs before q x values value p.0 p.1)

-- what is mapped of one element more
pub map_take_next : {X Y : Type 0} (f : X → Y) (xs : List X) (i : ℕ) (x : X) → i < length xs → map f (take (i + 1) xs) ≡ map f (take i xs) ++ f (slice_index_or xs i x) ∷ []
map_take_next {X = X} f xs i x p = ap (λ k. map f (take k xs)) (next i) ∙ go xs i p
  where
    next : (i : ℕ) → i + 1 ≡ suc i
    next i = omega arith

    go : (xs : List X) (i : ℕ) → i < length xs → map f (take (suc i) xs) ≡ map f (take i xs) ++ f (slice_index_or xs i x) ∷ []
    go [] i p = absurd (omega (arith, p))
    go (y ∷ ys) zero p = refl
    go (y ∷ ys) (suc i) p = ap (λ zs. f y ∷ zs) (go ys i (omega (arith, p)))

-- the values of what is mapped of one element more
pub mapped_more : {X : Type 0} (d : ℕ) (f : X → Quotient) (xs : List X) (i : ℕ) (x : X) (q : Quotient) (qs : List Quotient) (matrices : List FieldMatrix) → i < length xs → x ≡ slice_index_or xs i x → q ≡ f x
    → AreValues d ((qs ++ map f (take i xs)) ++ q ∷ []) matrices → AreValues d (qs ++ map f (take (i + 1) xs)) matrices
mapped_more d f xs i x q qs matrices within read is values =
    subst (λ (ts : List Quotient). AreValues d ts matrices)
    (append_assoc qs (map f (take i xs)) (q ∷ [])
    ∙ ap (λ (ts : List Quotient). qs ++ ts) (ap (λ (u : Quotient). map f (take i xs) ++ u ∷ []) (is ∙ ap f read) ∙ sym (map_take_next f xs i x within)))
    values

-- the values of the quotients of one place more
pub place_more : (d : ℕ) (all : ℕ → List Quotient) (n : ℕ) (more qs : List Quotient) (matrices : List FieldMatrix) → all (suc n) ≡ all n ++ more
    → AreValues d ((qs ++ all n) ++ more) matrices → AreValues d (qs ++ all (n + 1)) matrices
place_more d all n more qs matrices is values =
    subst (λ (ts : List Quotient). AreValues d ts matrices)
    (append_assoc qs (all n) more ∙ ap (λ (ts : List Quotient). qs ++ ts) (sym is ∙ ap all next))
    values
  where
    next : suc n ≡ n + 1
    next = omega arith
