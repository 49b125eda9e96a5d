-- The front of bytes up to the first stop, in one way.
use Rattle.std.proofs.Common.{◌≡◌, ◌≢◌, ℕ, zero, suc, ◌<◌, ◌≤◌, List, [], ◌∷◌, ◌++◌, length, get_or, take, drop, refl, ap, sym, ◌∙◌, subst, arith}
use Rattle.std.specs.List.{AllByRecursion}
use Rattle.std.proofs.lemmas.List.{take-append-drop, drop_more}
use Rattle.surface_text.specs.Causes.{FrontOf, StopsAt}

-- no stop stands before i
before_stop : (stop i : ℕ) (bytes : List ℕ) → ((k : ℕ) → k < i → get_or bytes k 0 ≢ stop) → AllByRecursion (λ byte. byte ≢ stop) (take i bytes)
before_stop stop zero bytes before = tt
before_stop stop (suc i) [] before = tt
before_stop stop (suc i) (b ∷ bytes) before = (before 0 (omega arith), before_stop stop i bytes (λ k below. before (suc k) (omega arith)))

-- the first stop stands at i
pub front_here : (stop i : ℕ) (bytes front tail : List ℕ) → i < length bytes → ((k : ℕ) → k < i → get_or bytes k 0 ≢ stop) → get_or bytes i 0 ≡ stop
    → take i bytes ≡ front → drop i bytes ≡ tail → FrontOf stop bytes front tail
front_here stop i bytes front tail below before here f t =
    record {
      found = sym (take-append-drop i bytes) ∙ ap (λ (a : List ℕ). a ++ drop i bytes) f ∙ ap (λ (b : List ℕ). front ++ b) t;
      lacks = subst (AllByRecursion (λ byte. byte ≢ stop)) f (before_stop stop i bytes before);
      stops = subst (StopsAt stop) (sym (drop_more bytes i 0 below) ∙ t) here;
    }

-- all bytes from the length on are none
drop_length : (bytes : List ℕ) → drop (length bytes) bytes ≡ []
drop_length [] = refl
drop_length (b ∷ bytes) = drop_length bytes

-- no stop stands anywhere
pub front_all : (stop i n : ℕ) (bytes front tail : List ℕ) → length bytes ≤ i → ((k : ℕ) → k < i → get_or bytes k 0 ≢ stop) → n ≡ length bytes
    → take n bytes ≡ front → drop n bytes ≡ tail → FrontOf stop bytes front tail
front_all stop i n bytes front tail end before is f t =
    record {
      found = sym (take-append-drop n bytes) ∙ ap (λ (a : List ℕ). a ++ drop n bytes) f ∙ ap (λ (b : List ℕ). front ++ b) t;
      lacks = subst (AllByRecursion (λ byte. byte ≢ stop)) f (before_stop stop n bytes (λ k below. before k (omega arith)));
      stops = subst (StopsAt stop) (sym (drop_length bytes) ∙ ap (λ (m : ℕ). drop m bytes) (sym is) ∙ t) tt;
    }

-- fronts without a stop and what is left behind them are the same where the bytes are
pub one_front : (stop : ℕ) (xs ys r s : List ℕ) → AllByRecursion (λ byte. byte ≢ stop) xs → AllByRecursion (λ byte. byte ≢ stop) ys
    → StopsAt stop r → StopsAt stop s → xs ++ r ≡ ys ++ s → (xs ≡ ys) × (r ≡ s)
one_front stop [] [] r s left right p q e = (refl, e)
one_front stop [] (y ∷ ys) [] s left right p q e = absurd (cc)
one_front stop [] (y ∷ ys) (b ∷ r) s left right p q e = let head : y ≡ b = cc in absurd (right.0 (head ∙ p))
one_front stop (x ∷ xs) [] r [] left right p q e = absurd (cc)
one_front stop (x ∷ xs) [] r (b ∷ s) left right p q e = let head : x ≡ b = cc in absurd (left.0 (head ∙ q))
one_front stop (x ∷ xs) (y ∷ ys) r s left right p q e =
    let head : x ≡ y = cc in
    let tail : xs ++ r ≡ ys ++ s = cc in
    let same = one_front stop xs ys r s left.1 right.1 p q tail in
    (cc, same.1)

-- bytes have one front
pub same_front : {stop : ℕ} {bytes front tail : List ℕ} → FrontOf stop bytes front tail → (xs r : List ℕ) → AllByRecursion (λ byte. byte ≢ stop) xs
    → StopsAt stop r → bytes ≡ xs ++ r → (front ≡ xs) × (tail ≡ r)
same_front {stop = stop} {front = front} {tail = tail} is xs r lacks stops e =
    one_front stop front xs tail r is.lacks lacks is.stops stops (sym is.found ∙ e)
