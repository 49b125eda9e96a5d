-- Numbers read one after another, a space between.
use Rattle.std.proofs.Common.{◌≡◌, ◌≢◌, ℕ, ◌<◌, ℤ, List, [], ◌∷◌, ◌++◌, length, refl, ap, sym, ◌∙◌, subst, arith, append_assoc}
use Rattle.std.specs.Prelude.{pos, negsuc}
use Rattle.std.specs.List.{AllByRecursion}
use Rattle.std.proofs.lemmas.List.{append-nil, length-append}
use Rattle.std.proofs.lemmas.Grind.{flat_map-append}
use Rattle.quad_field.specs.Width.{FitsI128, AllFit}
use Rattle.plane.specs.Spelling.{whole_text}
use Rattle.plane.proofs.CallerLemmas.{whole_injective, natural_text_some, whole_text_no_space}
use Rattle.canon_code.specs.CodeText.{spaced_text, numbers_text, Lists}
use Rattle.canon_code.specs.TextReading.{StopsAtSpace, FrontOf}

-- ---- fronts
-- fronts without a space and what is left behind them are the same where the bytes are
one_front : (xs ys r s : List ℕ) → AllByRecursion (λ byte. byte ≢ 32) xs → AllByRecursion (λ byte. byte ≢ 32) ys → StopsAtSpace r → StopsAtSpace s
    → xs ++ r ≡ ys ++ s → (xs ≡ ys) × (r ≡ s)
one_front [] [] r s left right p q e = (refl, e)
one_front [] (y ∷ ys) [] s left right p q e = absurd (cc)
one_front [] (y ∷ ys) (b ∷ r) s left right p q e = let head : y ≡ b = cc in absurd (right.0 (head ∙ p))
one_front (x ∷ xs) [] r [] left right p q e = absurd (cc)
one_front (x ∷ xs) [] r (b ∷ s) left right p q e = let head : x ≡ b = cc in absurd (left.0 (head ∙ q))
one_front (x ∷ xs) (y ∷ ys) r s left right p q e =
    let head : x ≡ y = cc in
    let tail : xs ++ r ≡ ys ++ s = cc in
    let same = one_front xs ys r s left.1 right.1 p q tail in
    (cc, same.1)

-- numbers with a space before each are none or begin with a space
spaced_stops : (numbers : List ℤ) → StopsAtSpace (spaced_text numbers)
spaced_stops [] = tt
spaced_stops (n ∷ numbers) = refl

-- the first number of a list, and the others
first_is : {bytes word rest : List ℕ} → FrontOf bytes word rest → (m : ℤ) (ms : List ℤ) → bytes ≡ numbers_text (m ∷ ms) → (word ≡ whole_text m) × (rest ≡ spaced_text ms)
first_is {word = word} {rest = rest} front m ms e =
    one_front word (whole_text m) rest (spaced_text ms) front.lacks (whole_text_no_space m) front.stops (spaced_stops ms) (sym front.found ∙ e)

-- ---- lists
text_more : (numbers : List ℤ) (n : ℤ) → 0 < length numbers → numbers_text (numbers ++ n ∷ []) ≡ numbers_text numbers ++ 32 ∷ whole_text n
text_more [] n some = absurd (omega (arith, some))
text_more (x ∷ xs) n some =
    ap (λ (l : List ℕ). whole_text x ++ l) (flat_map-append (λ k. 32 ∷ whole_text k) xs (n ∷ []) ∙ ap (λ (l : List ℕ). spaced_text xs ++ l) (append-nil (32 ∷ whole_text n)))
    ∙ sym (append_assoc (whole_text x) (spaced_text xs) (32 ∷ whole_text n))

fit_more : (numbers : List ℤ) (n : ℤ) → AllFit numbers → FitsI128 n → AllFit (numbers ++ n ∷ [])
fit_more [] n all fits = (fits, tt)
fit_more (x ∷ xs) n all fits = (all.0, fit_more xs n all.1 fits)

-- ---- what has been read
-- the numbers are the first that the bytes list, and the rest is that of the others
pub record IsReadTo (bytes : List ℕ) (numbers : List ℤ) (rest : List ℕ) : Type 0 where
  pub some : 0 < length numbers
  pub fit : AllFit numbers
  pub found : bytes ≡ numbers_text numbers ++ rest
  pub stops : StopsAtSpace rest
  pub follows : (ms : List ℤ) → Lists bytes ms → (more : List ℤ) × (ms ≡ numbers ++ more) × AllFit more × (rest ≡ spaced_text more)

pub read_first : {bytes word rest : List ℕ} (n : ℤ) → FrontOf bytes word rest → word ≡ whole_text n → FitsI128 n → IsReadTo bytes (n ∷ []) rest
read_first {bytes = bytes} {rest = rest} n front is fits = record {
  some = omega arith;
  fit = (fits, tt);
  found = front.found ∙ ap (λ (w : List ℕ). w ++ rest) (is ∙ sym (append-nil (whole_text n)));
  stops = front.stops;
  follows = go;
}
  where
    go : (ms : List ℤ) → Lists bytes ms → (more : List ℤ) × (ms ≡ (n ∷ []) ++ more) × AllFit more × (rest ≡ spaced_text more)
    go [] l = absurd (let some = l.some in omega (arith, some))
    go (m ∷ ms) l = let f = first_is front m ms l.spelled in (ms, ap (λ (k : ℤ). k ∷ ms) (whole_injective m n (sym f.0 ∙ is)), l.fit.1, f.1)

pub none_first : {bytes word rest : List ℕ} → FrontOf bytes word rest → ((n : ℤ) → FitsI128 n → word ≢ whole_text n) → (ms : List ℤ) → ¬ (Lists bytes ms)
none_first front none [] l = let some = l.some in omega (arith, some)
none_first front none (m ∷ ms) l = none m l.fit.0 (first_is front m ms l.spelled).0

-- behind a space the others go on with one number
next_is : {behind word after : List ℕ} → FrontOf behind word after → (more : List ℤ) → 32 ∷ behind ≡ spaced_text more
    → (m : ℤ) × (others : List ℤ) × (more ≡ m ∷ others) × (word ≡ whole_text m) × (after ≡ spaced_text others)
next_is front [] e = absurd (cc)
next_is {behind = behind} front (m ∷ others) e =
    let whole : 32 ∷ behind ≡ 32 ∷ (whole_text m ++ spaced_text others) = e in
    let tails : behind ≡ numbers_text (m ∷ others) = cc in
    let f = first_is front m others tails in (m, others, refl, f.0, f.1)

pub read_more : {bytes rest behind word after : List ℕ} {numbers : List ℤ} (n : ℤ) → IsReadTo bytes numbers rest → rest ≡ 32 ∷ behind → FrontOf behind word after → word ≡ whole_text n → FitsI128 n
    → IsReadTo bytes (numbers ++ n ∷ []) after
read_more {bytes = bytes} {after = after} {numbers = numbers} n r head front is fits = record {
  some = let some = r.some in omega (arith, length-append numbers (n ∷ []), some);
  fit = fit_more numbers n r.fit fits;
  found =
      r.found
      ∙ ap (λ (l : List ℕ). numbers_text numbers ++ l) (head ∙ ap (λ (l : List ℕ). 32 ∷ l) (front.found ∙ ap (λ (w : List ℕ). w ++ after) is))
      ∙ sym (append_assoc (numbers_text numbers) (32 ∷ whole_text n) after)
      ∙ ap (λ (l : List ℕ). l ++ after) (sym (text_more numbers n r.some));
  stops = front.stops;
  follows = λ ms l.
      let w = r.follows ms l in
      let k = next_is front w.0 (sym head ∙ w.3) in
      let fit : AllFit (k.0 ∷ k.1) = subst AllFit k.2 w.2 in (
        k.1,
        w.1 ∙ ap (λ (more : List ℤ). numbers ++ more) (k.2 ∙ ap (λ (m : ℤ). m ∷ k.1) (whole_injective k.0 n (sym k.3 ∙ is))) ∙ sym (append_assoc numbers (n ∷ []) k.1),
        fit.1,
        k.4,
      );
}

pub none_more : {bytes rest behind word after : List ℕ} {numbers : List ℤ} → IsReadTo bytes numbers rest → rest ≡ 32 ∷ behind → FrontOf behind word after → ((n : ℤ) → FitsI128 n → word ≢ whole_text n)
    → (ms : List ℤ) → ¬ (Lists bytes ms)
none_more r head front none ms l =
    let w = r.follows ms l in
    let k = next_is front w.0 (sym head ∙ w.3) in
    let fit : AllFit (k.0 ∷ k.1) = subst AllFit k.2 w.2 in none k.0 fit.0 k.3

nothing_left : (rest : List ℕ) → StopsAtSpace rest → ((more : List ℕ) → rest ≢ 32 ∷ more) → rest ≡ []
nothing_left [] stops none = refl
nothing_left (b ∷ rest) stops none = absurd (none rest (ap (λ (x : ℕ). x ∷ rest) stops))

pub read_all : {bytes rest : List ℕ} {numbers : List ℤ} → IsReadTo bytes numbers rest → ((more : List ℕ) → rest ≢ 32 ∷ more) → Lists bytes numbers
read_all {rest = rest} {numbers = numbers} r none = record {
  some = r.some;
  fit = r.fit;
  spelled = r.found ∙ ap (λ (l : List ℕ). numbers_text numbers ++ l) (nothing_left rest r.stops none) ∙ append-nil (numbers_text numbers);
}

-- ---- one list for one text
front_itself : (n : ℤ) (numbers : List ℤ) → FrontOf (numbers_text (n ∷ numbers)) (whole_text n) (spaced_text numbers)
front_itself n numbers = record { found = refl; lacks = whole_text_no_space n; stops = spaced_stops numbers }

spaced_injective : (ns ms : List ℤ) → spaced_text ns ≡ spaced_text ms → ns ≡ ms
spaced_injective [] [] e = refl
spaced_injective [] (m ∷ ms) e = absurd (cc)
spaced_injective (n ∷ ns) [] e = absurd (cc)
spaced_injective (n ∷ ns) (m ∷ ms) e =
    let whole : 32 ∷ numbers_text (n ∷ ns) ≡ 32 ∷ numbers_text (m ∷ ms) = e in
    let tails : numbers_text (n ∷ ns) ≡ numbers_text (m ∷ ms) = cc in
    let f = first_is (front_itself n ns) m ms tails in
    let head : n ≡ m = whole_injective n m f.0 in
    let others : ns ≡ ms = spaced_injective ns ms f.1 in cc

no_text : (m : ℤ) (ms : List ℤ) → [] ≡ numbers_text (m ∷ ms) → ⊥
no_text m ms e = let n = length_some m in let l = ap length e ∙ length-append (whole_text m) (spaced_text ms) in omega (arith, n, l)
  where
    length_some : (m : ℤ) → 0 < length (whole_text m)
    length_some (pos k) = natural_text_some k
    length_some (negsuc k) = omega arith

-- a text lists one list of numbers
pub text_injective : (ns ms : List ℤ) → numbers_text ns ≡ numbers_text ms → ns ≡ ms
text_injective [] [] e = refl
text_injective [] (m ∷ ms) e = absurd (no_text m ms e)
text_injective (n ∷ ns) [] e = absurd (no_text n ns (sym e))
text_injective (n ∷ ns) (m ∷ ms) e =
    let f = first_is (front_itself n ns) m ms e in
    let head : n ≡ m = whole_injective n m f.0 in
    let others : ns ≡ ms = spaced_injective ns ms f.1 in cc
