-- Bytes up to a stop, in one way, and bytes above the line feed.
use Rattle.std.proofs.Common.{◌≡◌, ◌≢◌, ℕ, zero, suc, ◌<◌, ◌≤◌, Bool, true, false, ◌==◌, nat_lt, ◌&&◌, IsTrue, List, [], ◌∷◌, ◌++◌, length, get_or, take, drop, refl, ap, sym, ◌∙◌, subst, arith}
use Rattle.std.specs.List.{AllByRecursion}
use Rattle.plane.proofs.CallerLemmas.{AreHigh}
use Rattle.report_text.specs.Readings.{Lacks, IsSplitAt}

-- bytes with a stop in them don't lack it
pub lacks_none : (stop : ℕ) (xs r : List ℕ) → ¬ (Lacks stop (xs ++ stop ∷ r))
lacks_none stop [] r lacks = lacks.0 refl
lacks_none stop (x ∷ xs) r lacks = lacks_none stop xs r lacks.1

pub no_stop : (stop : ℕ) (bytes xs r : List ℕ) → Lacks stop bytes → bytes ≢ xs ++ stop ∷ r
no_stop stop bytes xs r lacks e = lacks_none stop xs r (subst (Lacks stop) e lacks)

-- what stands before the first stop, and behind it, is the same where the bytes are
pub one_front : (stop : ℕ) (xs ys r s : List ℕ) → Lacks stop xs → Lacks stop ys → xs ++ stop ∷ r ≡ ys ++ stop ∷ s → (xs ≡ ys) × (r ≡ s)
one_front stop [] [] r s left right e = (refl, cc)
one_front stop [] (y ∷ ys) r s left right e = let head : y ≡ stop = cc in absurd (right.0 head)
one_front stop (x ∷ xs) [] r s left right e = let head : x ≡ stop = cc in absurd (left.0 head)
one_front stop (x ∷ xs) (y ∷ ys) r s left right e =
    let head : x ≡ y = cc in
    let tail : xs ++ stop ∷ r ≡ ys ++ stop ∷ s = cc in
    let same = one_front stop xs ys r s left.1 right.1 tail in
    (cc, same.1)

pub one_split : {stop : ℕ} {bytes front behind : List ℕ} → IsSplitAt stop bytes front behind → (xs r : List ℕ) → Lacks stop xs → bytes ≡ xs ++ stop ∷ r → (front ≡ xs) × (behind ≡ r)
one_split {stop = stop} {front = front} {behind = behind} is xs r lacks e = one_front stop front xs behind r is.lacks lacks (sym is.found ∙ e)

-- bytes and a line feed are some bytes
pub no_bytes : (bytes more : List ℕ) → [] ≢ bytes ++ 10 ∷ more
no_bytes [] more e = absurd (cc)
no_bytes (b ∷ bytes) more e = absurd (cc)

-- whether there are none
pub none_is : (bytes : List ℕ) (r : Bool) → r ≡ (length bytes == 0) → (r ≡ true → bytes ≡ []) × (r ≡ false → bytes ≢ [])
none_is [] r e = (λ is. refl, λ is same. let other : true ≡ false = sym e ∙ is in absurd (cc))
none_is (b ∷ bytes) r e = (λ is. let long : IsTrue (length (b ∷ bytes) == 0) = sym e ∙ is in grind arith, λ is same. absurd (cc))

-- ---- bytes above the line feed
abbrev pub AreAbove : List ℕ → Type 0
AreAbove bytes = AllByRecursion (λ byte. 11 ≤ byte) bytes

abbrev pub are_above : List ℕ → Bool
are_above [] = true
are_above (b ∷ bytes) = nat_lt 10 b && are_above bytes

pub above_by : (bytes : List ℕ) → IsTrue (are_above bytes) → AreAbove bytes
above_by [] is = tt
above_by (b ∷ bytes) is = grind (arith, above_by bytes)

pub above_both : (xs ys : List ℕ) → AreAbove xs → AreAbove ys → AreAbove (xs ++ ys)
above_both [] ys left right = right
above_both (x ∷ xs) ys left right = (left.0, above_both xs ys left.1 right)

pub above_high : (bytes : List ℕ) → AreHigh bytes → AreAbove bytes
above_high [] high = tt
above_high (b ∷ bytes) high = let one = high.0 in (omega (arith, one.0), above_high bytes high.1)

-- they lack it
pub above_lacks : (bytes : List ℕ) → AreAbove bytes → Lacks 10 bytes
above_lacks [] above = tt
above_lacks (b ∷ bytes) above = (λ e. let one = above.0 in omega (arith, one), above_lacks bytes above.1)

-- ---- the first stop
pub split_here : (stop : ℕ) (bytes : List ℕ) (place : ℕ) → place < length bytes → ((k : ℕ) → k < place → get_or bytes k 0 ≢ stop) → get_or bytes place 0 ≡ stop
    → IsSplitAt stop bytes (take place bytes) (drop (suc place) bytes)
split_here stop [] place below before here = absurd (omega arith)
split_here stop (b ∷ bytes) zero below before here = record { found = ap (λ (x : ℕ). x ∷ bytes) here; lacks = tt }
split_here stop (b ∷ bytes) (suc place) below before here =
    let rest = split_here stop bytes place (omega arith) (λ k low. before (suc k) (omega arith)) here in
    record { found = ap (λ (l : List ℕ). b ∷ l) rest.found; lacks = (before 0 (omega arith), rest.lacks) }

pub lacks_from : (stop : ℕ) (bytes : List ℕ) → ((k : ℕ) → k < length bytes → get_or bytes k 0 ≢ stop) → Lacks stop bytes
lacks_from stop [] none = tt
lacks_from stop (b ∷ bytes) none = (none 0 (omega arith), lacks_from stop bytes (λ k low. none (suc k) (omega arith)))
