-- How many numbers below a bound pass a test, and how long a list of them is.
use Rattle.std.proofs.Common.{◌≡◌, ℕ, zero, suc, ◌<◌, Bool, true, false, cond, eqb, List, [], ◌∷◌, length, get_or, sym, ap, ◌∙◌, refl, arith}
use Rattle.std.specs.Prelude.{◌⊎◌, Contains}
use mathlib.Core.Logic.{inl, inr}
use Rattle.std.proofs.lemmas.Bool.{cases_eq, eq-eqb}
use Rattle.cone_points.specs.Vertices.{IsDistinct, IsNumberOf}
use Rattle.rings.proofs.Pigeonhole.{ne-eqb}

-- true or false
pub either : (b : Bool) → (b ≡ true) ⊎ (b ≡ false)
either true = inl refl
either false = inr refl

-- how many numbers below n pass the test
abbrev pub count : (ℕ → Bool) → ℕ → ℕ
count test zero = 0
count test (suc n) = cond (test n) (suc (count test n)) (count test n)

-- tests that agree below n
pub count_same : (test other : ℕ → Bool) (n : ℕ) → ((k : ℕ) → k < n → test k ≡ other k) → count test n ≡ count other n
count_same test other zero agree = refl
count_same test other (suc n) agree =
    ap (λ b. cond b (suc (count test n)) (count test n)) (agree n (omega arith))
    ∙ ap (λ m. cond (other n) (suc m) m) (count_same test other n (λ k h. agree k (omega (arith, h))))

-- tests that agree below n but at x
pub count_one_more : (test other : ℕ → Bool) (n x : ℕ) → x < n → test x ≡ true → other x ≡ false → ((k : ℕ) → k < n → ¬ (k ≡ x) → test k ≡ other k) → count test n ≡ suc (count other n)
count_one_more test other zero x inside passes fails agree = absurd (omega (arith, inside))
count_one_more test other (suc n) x inside passes fails agree = elim (cases_eq n x) [
  | inl e ↦
      ap (λ b. cond b (suc (count test n)) (count test n)) (ap test e ∙ passes)
      ∙ ap suc (count_same test other n (λ k h. agree k (omega (arith, h)) (λ z. omega (arith, z, h, e)))
      ∙ sym (ap (λ b. cond b (suc (count other n)) (count other n)) (ap other e ∙ fails)))
  | inr ne ↦
      let rest : count test n ≡ suc (count other n) =
      count_one_more test other n x (omega (arith, inside, ne)) passes fails (λ k h. agree k (omega (arith, h))) in
      ap (λ b. cond b (suc (count test n)) (count test n)) (agree n (omega arith) ne) ∙ ap (λ m. cond (other n) (suc m) m) rest ∙ out (other n) (count other n)
]
  where
    out : (b : Bool) (m : ℕ) → cond b (suc (suc m)) (suc m) ≡ suc (cond b (suc m) m)
    out true m = refl
    out false m = refl

-- a test that none passes
pub count_none : (test : ℕ → Bool) (n : ℕ) → ((k : ℕ) → k < n → test k ≡ false) → count test n ≡ 0
count_none test zero none = refl
count_none test (suc n) none = ap (λ b. cond b (suc (count test n)) (count test n)) (none n (omega arith)) ∙ count_none test n (λ k h. none k (omega (arith, h)))

-- whether a list holds a number
abbrev holds : List ℕ → ℕ → Bool
holds [] k = false
holds (x ∷ list) k = cond (eqb k x) true (holds list k)

first_apart : (x : ℕ) (list : List ℕ) → IsDistinct (x ∷ list) → holds list x ≡ false
first_apart x list distinct = go list (λ i h e. distinct 0 (suc i) (omega arith) (omega (arith, h)) (sym e))
  where
    go : (l : List ℕ) → ((i : ℕ) → i < length l → ¬ (get_or l i 0 ≡ x)) → holds l x ≡ false
    go [] h = refl
    go (y ∷ l) h =
        ap (λ b. cond b true (holds l x)) (ne-eqb x y (λ e. h 0 (omega arith) (sym e)))
        ∙ go l (λ i inside e. h (suc i) (omega (arith, inside)) e)

rest_distinct : (x : ℕ) (list : List ℕ) → IsDistinct (x ∷ list) → IsDistinct list
rest_distinct x list distinct = λ i j below inside. distinct (suc i) (suc j) (omega (arith, below)) (omega (arith, inside))

-- the numbers of a list without repetition
length_counted : (list : List ℕ) (n : ℕ) → IsDistinct list → ((i : ℕ) → i < length list → get_or list i 0 < n) → length list ≡ count (holds list) n
length_counted [] n distinct below = sym (count_none (holds []) n (λ k h. refl))
length_counted (x ∷ list) n distinct below =
    ap suc (length_counted list n (rest_distinct x list distinct) (λ i h. below (suc i) (omega (arith, h))))
    ∙ sym (count_one_more (holds (x ∷ list)) (holds list) n x (below 0 (omega arith))
    (ap (λ b. cond b true (holds list x)) (eq-eqb x x refl)) (first_apart x list distinct)
    (λ k h ne. ap (λ b. cond b true (holds list k)) (ne-eqb k x ne)))

held : (list : List ℕ) (k : ℕ) → holds list k ≡ true → Contains list k
held [] k h = absurd (cc)
held (x ∷ list) k h = elim (cases_eq k x) [
  | inl e ↦ (0, omega arith, sym e)
  | inr ne ↦
      let w = held list k (sym (ap (λ b. cond b true (holds list k)) (ne-eqb k x ne)) ∙ h) in
      (suc w.0, omega (arith, w.1), w.2)
]

holds_it : (list : List ℕ) (k i : ℕ) → i < length list → get_or list i k ≡ k → holds list k ≡ true
holds_it [] k i inside e = absurd (omega (arith, inside))
holds_it (x ∷ list) k zero inside e = ap (λ b. cond b true (holds list k)) (eq-eqb k x (sym e))
holds_it (x ∷ list) k (suc i) inside e = elim (either (eqb k x)) [
  | inl same ↦ ap (λ b. cond b true (holds list k)) same
  | inr apart ↦ ap (λ b. cond b true (holds list k)) apart ∙ holds_it list k i (omega (arith, inside)) e
]

-- a value of a list, whatever is read past its end
within : (list : List ℕ) (i a b : ℕ) → i < length list → get_or list i a ≡ get_or list i b
within [] i a b inside = absurd (omega (arith, inside))
within (x ∷ list) zero a b inside = refl
within (x ∷ list) (suc i) a b inside = within list i a b (omega (arith, inside))

-- what a test says of a property of numbers below n
pub record Tells (test : ℕ → Bool) (P : ℕ → Type 0) (n : ℕ) : Type 0 where
  pub below : (k : ℕ) → P k → k < n
  pub yes : (k : ℕ) → P k → test k ≡ true
  pub no : (k : ℕ) → k < n → test k ≡ true → P k

-- how many numbers have a property that a test tells
pub number_counted : (P : ℕ → Type 0) (test : ℕ → Bool) (n m : ℕ) → Tells test P n → IsNumberOf P m → m ≡ count test n
number_counted P test n m tells number =
    let list = number.0 in
    sym number.2 ∙ length_counted list n number.1.0 (λ i h. tells.below (get_or list i 0) ((number.1.1 (get_or list i 0)).0 (i, h, within list i (get_or list i 0) 0 h)))
    ∙ count_same (holds list) test n (λ k h. agree k h (either (holds list k)) (either (test k)))
  where
    agree : (k : ℕ) → k < n → (holds number.0 k ≡ true) ⊎ (holds number.0 k ≡ false) → (test k ≡ true) ⊎ (test k ≡ false) → holds number.0 k ≡ test k
    agree k h (inl a) (inl b) = a ∙ sym b
    agree k h (inr a) (inr b) = a ∙ sym b
    agree k h (inl a) (inr b) = a ∙ sym (tells.yes k ((number.1.1 k).0 (held number.0 k a)))
    agree k h (inr a) (inl b) = let w = (number.1.1 k).1 (tells.no k h b) in holds_it number.0 k w.0 w.1 w.2 ∙ sym b
