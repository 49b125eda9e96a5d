-- Breadth-first numberings: carried by bijections, and only one from each start.
use Rattle.std.proofs.Common.{◌≡◌, ℕ, zero, suc, ◌*◌, ◌%◌, ◌<◌, ◌≤◌, List, length, sym, ap, ◌∙◌, subst, inl, inr, arith}
use Rattle.std.proofs.lemmas.Bool.{cases_eq, cases_lt}
use Rattle.tri_core.specs.declared.half.Half.{Half}
use Rattle.tri_core.specs.HalfEdges.{twin_at, next_of}
use Rattle.tri_core.specs.Images.{AreInverse}
use Rattle.canon_code.specs.Numberings.{IsNumbering, IsFoundFrom}

-- what a numbering needs of half-edges: triples, and twins among them
pub record HasTwinsInside (halves : List Half) : Type 0 where
  pub triples : length halves % 3 ≡ 0
  pub inside : (k : ℕ) → k < length halves → twin_at halves k < length halves

-- a bijection of half-edges that keeps next and twin
pub record Keeps (from to : List Half) (forth back : ℕ → ℕ) : Type 0 where
  pub count : length to ≡ length from
  pub each_once : AreInverse (length from) forth back
  pub next : (k : ℕ) → k < length from → forth (next_of k) ≡ next_of (forth k)
  pub twin : (k : ℕ) → k < length from → forth (twin_at from k) ≡ twin_at to (forth k)

pub next_inside : (n k : ℕ) → n % 3 ≡ 0 → k < n → next_of k < n
next_inside n k e h = omega arith

module _ (from to : List Half) (forth back : ℕ → ℕ) (valid : HasTwinsInside from) (keeps : Keeps from to forth back) where
  -- a numbering is carried by such a bijection
  pub numbering_carried : (h : ℕ) (place number : ℕ → ℕ) → IsNumbering from h place number → IsNumbering to (forth h) (λ k. forth (place k)) (λ k. number (back k))
  numbering_carried h place number num = record {
    each_once = record {
      forth_inside = λ k below. subst (λ n. forth (place k) < n) (sym keeps.count) (keeps.each_once.forth_inside (place k) (num.each_once.forth_inside k (here k below)));
      back_inside = λ k below. subst (λ n. number (back k) < n) (sym keeps.count) (num.each_once.back_inside (back k) (keeps.each_once.back_inside k (here k below)));
      back_forth = λ k below. ap number (keeps.each_once.back_forth (place k) (num.each_once.forth_inside k (here k below))) ∙ num.each_once.back_forth k (here k below);
      forth_back = λ k below. ap forth (num.each_once.forth_back (back k) (keeps.each_once.back_inside k (here k below))) ∙ keeps.each_once.forth_back k (here k below);
    };
    start = ap forth num.start;
    next = λ k below. ap forth (num.next k (here k below)) ∙ keeps.next (place k) (num.each_once.forth_inside k (here k below));
    found = λ t positive below.
        let f : (k : ℕ) × IsFoundFrom from place number t k = num.found t positive (here (3 * t) below) in
        let inside : 3 * t < length from = here (3 * t) below in (
          f.0,
          record {
            before = f.1.before;
            twin = sym (keeps.twin (place f.0) (num.each_once.forth_inside f.0 (less f.0 (3 * t) f.1.before inside))) ∙ ap forth f.1.twin;
            first = λ j earlier.
                let own : place j < length from = num.each_once.forth_inside j (less j (3 * t) (less j f.0 earlier f.1.before) inside) in
                subst (λ n. n < 3 * t) (ap number (sym (keeps.each_once.back_forth (twin_at from (place j)) (valid.inside (place j) own)) ∙ ap back (keeps.twin (place j) own))) (f.1.first j earlier);
          },
        );
  }
    where
      here : (k : ℕ) → k < length to → k < length from
      here k below = subst (λ n. k < n) keeps.count below

      less : (a b : ℕ) {c : ℕ} → a < b → b < c → a < c
      less a b p q = omega arith

-- the numbers below 3t + 3 are those below 3t and the three of triangle t
last_three : (t k : ℕ) (P : ℕ → Type 0) → ((k : ℕ) → k < 3 * t → P k) → P (3 * t) → P (next_of (3 * t)) → P (next_of (next_of (3 * t))) → k < 3 * suc t → P k
last_three t k P before first second third below =
    elim (cases_lt k (3 * t)) [
      | inl less ↦ before k less
      | inr more ↦ elim (cases_eq k (3 * t)) [
        | inl same ↦ subst P (sym same) first
        | inr ne ↦ elim (cases_eq k (next_of (3 * t))) [
          | inl same ↦ subst P (sym same) second
          | inr other ↦ let same : next_of (next_of (3 * t)) ≡ k = omega arith in subst P same third
        ]
      ]
    ]

-- the first n half-edges of a numbering breadth first from h
pub record IsBeginning (halves : List Half) (h : ℕ) (place number : ℕ → ℕ) (n : ℕ) : Type 0 where
  pub triples : n % 3 ≡ 0
  pub start : 0 < n → place 0 ≡ h
  pub next : (k : ℕ) → k < n → place (next_of k) ≡ next_of (place k)
  pub inside : (k : ℕ) → k < n → place k < length halves
  pub back : (k : ℕ) → k < n → number (place k) ≡ k
  pub forth : (x : ℕ) → x < length halves → number x < n → place (number x) ≡ x
  pub found : (t : ℕ) → 0 < t → 3 * t < n → (k : ℕ) × IsFoundFrom halves place number t k

-- a numbering begins with its first n half-edges
pub beginning_of : (halves : List Half) (h : ℕ) (place number : ℕ → ℕ) (n : ℕ) → IsNumbering halves h place number → n % 3 ≡ 0 → n ≤ length halves → IsBeginning halves h place number n
beginning_of halves h place number n num triples few = record {
  triples = triples;
  start = λ some. num.start;
  next = λ k low. num.next k (omega (arith, low, few));
  inside = λ k low. num.each_once.forth_inside k (omega (arith, low, few));
  back = λ k low. num.each_once.back_forth k (omega (arith, low, few));
  forth = λ x inside low. num.each_once.forth_back x inside;
  found = λ t positive low. num.found t positive (omega (arith, low, few));
}

module _ (halves : List Half) (h : ℕ) (place number place' number' : ℕ → ℕ) (n : ℕ) (valid : HasTwinsInside halves)
    (one : IsBeginning halves h place number n) (two : IsBeginning halves h place' number' n) where
  -- where the places below 3t agree, triangle t is not found earlier by the second numbering
  not_earlier : (t k k' : ℕ) → 3 * t < n → ((j : ℕ) → j < 3 * t → j < n → place j ≡ place' j) → IsFoundFrom halves place number t k → IsFoundFrom halves place' number' t k' → k < k' → ⊥
  not_earlier t k k' inside same f g less =
      let own : k < n = omega (arith, f.before) in
      let i : ℕ = number' (twin_at halves (place' k)) in
      let low : i < 3 * t = g.first k less in
      let into : twin_at halves (place' k) < length halves = valid.inside (place' k) (two.inside k own) in
      let e : place i ≡ place (3 * t) =
      same i low (omega arith) ∙ two.forth (twin_at halves (place' k)) into (omega (arith, low, inside)) ∙ ap (twin_at halves) (sym (same k f.before own)) ∙ f.twin in
      let same_place : i ≡ 3 * t = sym (one.back i (omega arith)) ∙ ap number e ∙ one.back (3 * t) inside in
      omega (arith, same_place, low)

-- a start has one numbering: two that have begun agree as far as both have come
module _ (halves : List Half) (h : ℕ) (place number place' number' : ℕ → ℕ) (n : ℕ) (valid : HasTwinsInside halves)
    (one : IsBeginning halves h place number n) (two : IsBeginning halves h place' number' n) where
  -- the first half-edge of triangle t has one place
  first_agrees : (t : ℕ) → 3 * t < n → ((j : ℕ) → j < 3 * t → j < n → place j ≡ place' j) → place (3 * t) ≡ place' (3 * t)
  first_agrees zero inside same = one.start inside ∙ sym (two.start inside)
  first_agrees (suc t) inside same = go (one.found (suc t) (omega arith) inside) (two.found (suc t) (omega arith) inside)
    where
      go : (k : ℕ) × IsFoundFrom halves place number (suc t) k → (k : ℕ) × IsFoundFrom halves place' number' (suc t) k → place (3 * suc t) ≡ place' (3 * suc t)
      go f g = elim (cases_eq f.0 g.0) [
        | inl e ↦ sym f.1.twin ∙ ap (twin_at halves) (same f.0 f.1.before (omega (arith, f.1.before)) ∙ ap place' e) ∙ g.1.twin
        | inr ne ↦ elim (cases_lt f.0 g.0) [
          | inl less ↦ absurd (not_earlier halves h place number place' number' n valid one two (suc t) f.0 g.0 inside same f.1 g.1 less)
          | inr more ↦
              let less : g.0 < f.0 = omega arith in
              absurd (not_earlier halves h place' number' place number n valid two one (suc t) g.0 f.0 inside (λ j low below. sym (same j low below)) g.1 f.1 less)
        ]
      ]

  before_next : (m j : ℕ) → m % 3 ≡ 0 → next_of j < m → j < m
  before_next m j e less = omega arith

  -- and so have those behind it
  next_agrees : (j : ℕ) → (j < n → place j ≡ place' j) → next_of j < n → place (next_of j) ≡ place' (next_of j)
  next_agrees j same inside =
      let own : j < n = before_next n j one.triples inside in
      one.next j own ∙ ap next_of (same own) ∙ sym (two.next j own)

  agree_below : (t k : ℕ) → k < 3 * t → k < n → place k ≡ place' k
  agree_below zero k low below = absurd (omega (arith, low))
  agree_below (suc t) k low below =
      let first : 3 * t < n → place (3 * t) ≡ place' (3 * t) = λ inside. first_agrees t inside (agree_below t) in
      let second : next_of (3 * t) < n → place (next_of (3 * t)) ≡ place' (next_of (3 * t)) = next_agrees (3 * t) first in
      last_three t k (λ j. j < n → place j ≡ place' j) (agree_below t) first second (next_agrees (next_of (3 * t)) second) low below

  pub begun_place : (k : ℕ) → k < n → place k ≡ place' k
  begun_place k below = agree_below (suc k) k (omega arith) below

  pub begun_number : (x : ℕ) → x < length halves → number x < n → number x ≡ number' x
  begun_number x inside low = sym (two.back (number x) low) ∙ ap number' (sym (begun_place (number x) low) ∙ one.forth x inside low)

-- two whole ones agree
module _ (halves : List Half) (h : ℕ) (place number place' number' : ℕ → ℕ) (valid : HasTwinsInside halves)
    (one : IsNumbering halves h place number) (two : IsNumbering halves h place' number') where
  all_of : (f g : ℕ → ℕ) → IsNumbering halves h f g → IsBeginning halves h f g (length halves)
  all_of f g num = beginning_of halves h f g (length halves) num valid.triples (omega arith)

  pub one_place : (k : ℕ) → k < length halves → place k ≡ place' k
  one_place k below = begun_place halves h place number place' number' (length halves) valid (all_of place number one) (all_of place' number' two) k below

  pub one_number : (x : ℕ) → x < length halves → number x ≡ number' x
  one_number x below = begun_number halves h place number place' number' (length halves) valid (all_of place number one) (all_of place' number' two) x below (one.each_once.back_inside x below)
