-- Counts and lists of the numbers below a bound that are in a set.
use Rattle.std.proofs.Common.{◌≡◌, ℕ, zero, suc, ◌+◌, ◌*◌, ◌<◌, ◌≤◌, Bool, true, false, not, ◌&&◌, cond, eqb, List, [], ◌∷◌, ◌++◌, length, get_or, subst, sym, ap, ◌∙◌, refl, arith}
use Rattle.std.specs.Prelude.{◌⊎◌, ◌↔◌, Contains, IsTrue}
use mathlib.Core.Logic.{inl, inr}
use Rattle.std.proofs.lemmas.Bool.{cases_eq, cases_lt, cases_Bool, and_from, eq-eqb, ne_eqb}
use Rattle.std.proofs.lemmas.List.{get_or_append_left, get_or_push, get_or_default, length-append}
use Rattle.std.proofs.lemmas.List.Elements.{Contains-append_left, Contains-push, Contains-push_cases}
use Rattle.cone_points.specs.Vertices.{IsDistinct, IsListOf, IsNumberOf}
use Rattle.cone_points.specs.Walks.{number_below}

-- one for a member, and zero for another number
abbrev pub bit : Bool → ℕ
bit b = cond b 1 0

pub clash : {X : Type 0} → true ≡ false → X
clash e = absurd (subst (λ b. cond b ℕ ⊥) e 0)

-- ---- counts
pub number_same : (a b : ℕ → Bool) (n : ℕ) → ((k : ℕ) → k < n → a k ≡ b k) → number_below a n ≡ number_below b n
number_same a b zero h = refl
number_same a b (suc n) h =
    let e : bit (a n) ≡ bit (b n) = ap bit (h n (omega arith)) in
    omega (arith, e, number_same a b n (λ k l. h k (omega (arith, l))))

-- a set that is made of two
pub number_sum : (a b c : ℕ → Bool) (n : ℕ) → ((k : ℕ) → k < n → bit (c k) ≡ bit (a k) + bit (b k)) → number_below c n ≡ number_below a n + number_below b n
number_sum a b c zero h = refl
number_sum a b c (suc n) h = omega (arith, h n (omega arith), number_sum a b c n (λ k l. h k (omega (arith, l))))

-- two sets that are together as large as two others
pub number_pairs : (a b c e : ℕ → Bool) (n : ℕ) → ((k : ℕ) → k < n → bit (a k) + bit (b k) ≡ bit (c k) + bit (e k)) → number_below a n + number_below b n ≡ number_below c n + number_below e n
number_pairs a b c e zero h = refl
number_pairs a b c e (suc n) h = omega (arith, h n (omega arith), number_pairs a b c e n (λ k l. h k (omega (arith, l))))

pub number_positive : (a : ℕ → Bool) (n k : ℕ) → k < n → a k ≡ true → 1 ≤ number_below a n
number_positive a zero k l e = absurd (omega (arith, l))
number_positive a (suc n) k l e = go (cases_eq k n) (λ less. number_positive a n k less e)
  where
    go : (k ≡ n) ⊎ ¬ (k ≡ n) → (k < n → 1 ≤ number_below a n) → 1 ≤ number_below a (suc n)
    go (inl same) _ =
        let one : bit (a n) ≡ 1 = ap bit (ap a (sym same) ∙ e) in
        omega (arith, one)
    go (inr other) below = omega (arith, below (omega (arith, l, other)))

pub number_none : (a : ℕ → Bool) (n k : ℕ) → number_below a n ≡ 0 → k < n → a k ≡ false
number_none a n k e l = go (cases_Bool (a k))
  where
    go : (a k ≡ true) ⊎ (a k ≡ false) → a k ≡ false
    go (inl t) = absurd (omega (arith, e, number_positive a n k l t))
    go (inr f) = f

pub number_all : (n : ℕ) → number_below (λ k. true) n ≡ n
number_all zero = refl
number_all (suc n) = omega (arith, number_all n)

pub number_zero : (a : ℕ → Bool) (n : ℕ) → ((k : ℕ) → k < n → a k ≡ false) → number_below a n ≡ 0
number_zero a zero none = refl
number_zero a (suc n) none =
    let e : bit (a n) ≡ 0 = ap bit (none n (omega arith)) in
    omega (arith, e, number_zero a n (λ k l. none k (omega (arith, l))))

-- one number alone
pub number_single : (a : ℕ → Bool) (n x : ℕ) → x < n → number_below (λ k. eqb k x && a k) n ≡ bit (a x)
number_single a zero x l = absurd (omega (arith, l))
number_single a (suc n) x l = go (cases_eq n x) (number_single a n x)
  where
    go : (n ≡ x) ⊎ ¬ (n ≡ x) → (x < n → number_below (λ k. eqb k x && a k) n ≡ bit (a x)) → number_below (λ k. eqb k x && a k) (suc n) ≡ bit (a x)
    go (inl e) _ =
        let below = number_zero (λ k. eqb k x && a k) n (λ k less. ap (λ b. b && a k) (ne_eqb k x (λ same. omega (arith, less, e, same)))) in
        let here : bit (eqb n x && a n) ≡ bit (a x) = ap (λ b. bit (b && a n)) (eq-eqb n x e) ∙ ap (λ k. bit (a k)) e in
        omega (arith, below, here)
    go (inr ne) rest =
        let here : bit (eqb n x && a n) ≡ 0 = ap (λ b. bit (b && a n)) (ne_eqb n x ne) in
        omega (arith, here, rest (omega (arith, l, ne)))

-- a set and the rest
pub number_rest : (a : ℕ → Bool) (n : ℕ) → number_below a n + number_below (λ k. not (a k)) n ≡ n
number_rest a n = sym (number_sum a (λ k. not (a k)) (λ k. true) n (λ k l. bits (a k))) ∙ number_all n
  where
    bits : (x : Bool) → 1 ≡ bit x + bit (not x)
    bits true = refl
    bits false = refl

-- a set without one number
abbrev without : (ℕ → Bool) → ℕ → ℕ → Bool
without a x k = a k && not (eqb k x)

abbrev only : (ℕ → Bool) → ℕ → ℕ → Bool
only a x k = a k && eqb k x

number_without : (a : ℕ → Bool) (n x : ℕ) → x < n → number_below (without a x) n + bit (a x) ≤ number_below a n
number_without a n x l = omega (arith, number_sum (without a x) (only a x) a n (λ k below. bits (a k) (eqb k x)), least (cases_Bool (a x)))
  where
    bits : (p q : Bool) → bit p ≡ bit (p && not q) + bit (p && q)
    bits true true = refl
    bits true false = refl
    bits false true = refl
    bits false false = refl

    least : (a x ≡ true) ⊎ (a x ≡ false) → bit (a x) ≤ number_below (only a x) n
    least (inl t) =
        let one : bit (a x) ≡ 1 = ap bit t in
        omega (arith, one, number_positive (only a x) n x l (and_from (a x) (eqb x x) t (eq-eqb x x refl)))
    least (inr f) =
        let none : bit (a x) ≡ 0 = ap bit f in
        omega (arith, none)

-- different numbers below n: no more of them are members than there are members
number_moved : (n m : ℕ) (f : ℕ → ℕ) → ((i : ℕ) → i < m → f i < n) → ((i j : ℕ) → i < j → j < m → ¬ (f i ≡ f j)) → (a : ℕ → Bool) → number_below (λ k. a (f k)) m ≤ number_below a n
number_moved n zero f inside apart a = omega arith
number_moved n (suc m) f inside apart a =
    let x : ℕ = f m in
    let same = number_same (λ k. a (f k)) (λ k. without a x (f k)) m (λ k l. kept (a (f k)) (eqb (f k) x) (ne_eqb (f k) x (apart k m l (omega arith)))) in
    omega (arith, same, number_moved n m f (λ i l. inside i (omega (arith, l))) (λ i j l k. apart i j l (omega (arith, k))) (without a x), number_without a n x (inside m (omega arith)))
  where
    kept : (p q : Bool) → q ≡ false → p ≡ (p && not q)
    kept true q e = sym (ap not e)
    kept false q e = refl

-- numbers that are permuted
pub number_permuted : (n : ℕ) (f : ℕ → ℕ) → ((i : ℕ) → i < n → f i < n) → ((i j : ℕ) → i < j → j < n → ¬ (f i ≡ f j)) → (a : ℕ → Bool) → number_below (λ k. a (f k)) n ≡ number_below a n
number_permuted n f inside apart a =
    let most = number_moved n n f inside apart a in
    let other = number_moved n n f inside apart (λ k. not (a k)) in
    omega (arith, most, other, number_rest a n, number_rest (λ k. a (f k)) n)

-- numbers that are exchanged in pairs
number_exchanged : (n : ℕ) (f : ℕ → ℕ) → ((i : ℕ) → i < n → f i < n) → ((i : ℕ) → i < n → f (f i) ≡ i) → (a : ℕ → Bool) → number_below (λ k. a (f k)) n ≡ number_below a n
number_exchanged n f inside twice a = number_permuted n f inside (λ i j l k e. omega (arith, l, sym (twice i (omega (arith, l, k))) ∙ ap f e ∙ twice j k)) a

-- one of each pair is a member
pub number_half : (n : ℕ) (f : ℕ → ℕ) → ((i : ℕ) → i < n → f i < n) → ((i : ℕ) → i < n → f (f i) ≡ i) → (a : ℕ → Bool) → ((i : ℕ) → i < n → a (f i) ≡ not (a i)) → 2 * number_below a n ≡ n
number_half n f inside twice a one =
    let rest = number_same (λ k. a (f k)) (λ k. not (a k)) n one in
    omega (arith, rest, number_exchanged n f inside twice a, number_rest a n)

-- ---- lists
-- the members below n
abbrev pub members : (ℕ → Bool) → ℕ → List ℕ
members a zero = []
members a (suc n) = cond (a n) (members a n ++ n ∷ []) (members a n)

pub listed_same : (P Q : ℕ → Type 0) (list : List ℕ) → ((k : ℕ) → P k ↔ Q k) → IsListOf P list → IsListOf Q list
listed_same P Q list same l = (l.0, λ k. (λ c. (same k).0 ((l.1 k).0 c), λ q. (l.1 k).1 ((same k).1 q)))

-- a list with one more number
pub listed_more : (P Q : ℕ → Type 0) (list : List ℕ) (x : ℕ) → ¬ (P x) → ((k : ℕ) → P k → Q k) → Q x → ((k : ℕ) → Q k → P k ⊎ (k ≡ x)) → IsListOf P list → IsListOf Q (list ++ x ∷ [])
listed_more P Q list x new keeps holds parts l = (distinct, λ k. (λ c. back k (Contains-push_cases list x k c), λ q. forth k (parts k q)))
  where
    back : (k : ℕ) → Contains list k ⊎ (x ≡ k) → Q k
    back k (inl c) = keeps k ((l.1 k).0 c)
    back k (inr e) = subst Q e holds

    forth : (k : ℕ) → P k ⊎ (k ≡ x) → Contains (list ++ x ∷ []) k
    forth k (inl p) = Contains-append_left list (x ∷ []) k ((l.1 k).1 p)
    forth k (inr e) = subst (Contains (list ++ x ∷ [])) (sym e) (Contains-push list x)

    distinct : IsDistinct (list ++ x ∷ [])
    distinct i j less below e = go (cases_lt j (length list))
      where
        long : length (list ++ x ∷ []) ≡ length list + 1
        long = length-append list (x ∷ [])

        go : (j < length list) ⊎ (length list ≤ j) → ⊥
        go (inl inside) =
            l.0 i j less inside (sym (get_or_append_left list (x ∷ []) 0 i (omega (arith, less, inside))) ∙ e ∙ get_or_append_left list (x ∷ []) 0 j inside)
        go (inr past) =
            let last : length list ≡ j = omega (arith, past, below, long) in
            let inside : i < length list = omega (arith, less, last) in
            let same : get_or list i 0 ≡ x = sym (get_or_append_left list (x ∷ []) 0 i inside) ∙ e ∙ get_or_push list x 0 j last in
            new ((l.1 x).0 (i, inside, get_or_default list i x 0 inside ∙ same))

pub members_listed : (a : ℕ → Bool) (n : ℕ) → IsListOf (λ k. (k < n) × IsTrue (a k)) (members a n)
members_listed a zero = (λ i j l k e. omega (arith, k), λ k. (λ c. absurd (omega (arith, c.1)), λ h. absurd (omega (arith, h.0))))
members_listed a (suc n) = go (cases_Bool (a n)) (members_listed a n)
  where
    go : (a n ≡ true) ⊎ (a n ≡ false) → IsListOf (λ k. (k < n) × IsTrue (a k)) (members a n) → IsListOf (λ k. (k < suc n) × IsTrue (a k)) (members a (suc n))
    go (inl t) listed = subst (IsListOf (λ k. (k < suc n) × IsTrue (a k))) (sym (ap (λ b. cond b (members a n ++ n ∷ []) (members a n)) t))
        (listed_more (λ k. (k < n) × IsTrue (a k)) (λ k. (k < suc n) × IsTrue (a k)) (members a n) n
        (λ h. omega (arith, h.0)) (λ k h. (omega (arith, h.0), h.1)) (omega arith, t)
        (λ k h. elim (cases_eq k n) [ inl e ↦ inr e | inr ne ↦ inl (omega (arith, h.0, ne), h.1) ]) listed)
    go (inr f) listed = subst (IsListOf (λ k. (k < suc n) × IsTrue (a k))) (sym (ap (λ b. cond b (members a n ++ n ∷ []) (members a n)) f))
        (listed_same (λ k. (k < n) × IsTrue (a k)) (λ k. (k < suc n) × IsTrue (a k)) (members a n) (λ k. (
          λ h. (omega (arith, h.0), h.1),
          λ h. elim (cases_eq k n) [ inl e ↦ clash (sym h.1 ∙ ap a e ∙ f) | inr ne ↦ (omega (arith, h.0, ne), h.1) ],
        )) listed)

pub members_number : (a : ℕ → Bool) (n : ℕ) → length (members a n) ≡ number_below a n
members_number a zero = refl
members_number a (suc n) = go (cases_Bool (a n)) (members_number a n)
  where
    go : (a n ≡ true) ⊎ (a n ≡ false) → length (members a n) ≡ number_below a n → length (members a (suc n)) ≡ number_below a (suc n)
    go (inl t) rest =
        let one : bit (a n) ≡ 1 = ap bit t in
        ap (λ b. length (cond b (members a n ++ n ∷ []) (members a n))) t ∙ omega (arith, length-append (members a n) (n ∷ []), rest, one)
    go (inr f) rest =
        let none : bit (a n) ≡ 0 = ap bit f in
        ap (λ b. length (cond b (members a n ++ n ∷ []) (members a n))) f ∙ omega (arith, rest, none)

-- there are as many numbers with a property as the count of a set that tells them
pub number_of : (P : ℕ → Type 0) (a : ℕ → Bool) (n : ℕ) → ((k : ℕ) → ((k < n) × IsTrue (a k)) ↔ P k) → IsNumberOf P (number_below a n)
number_of P a n tells = (members a n, listed_same (λ k. (k < n) × IsTrue (a k)) P (members a n) tells (members_listed a n), members_number a n)
