-- The turns of the vertices in another order.
use Rattle.std.proofs.Common.{◌≡◌, ℕ, ◌+◌, ◌-◌, ◌*◌, ◌/◌, ◌<◌, ◌≤◌, Bool, List, [], ◌∷◌, length, get_or, sym, ap, ◌∙◌, refl, arith}
use Rattle.std.specs.Prelude.{◌⊎◌}
use Rattle.std.specs.List.{swap, sum, sum_by}
use Rattle.std.specs.List.Sorted.{IsPermutation, IsSortedByKey}
use Rattle.std.specs.Ordering.{nat_cmp}
use mathlib.Core.Logic.{inl, inr}
use mathlib.Core.Path.{subst₂}
use Rattle.std.proofs.lemmas.Bool.{cases_eq, cases_order}
use Rattle.std.proofs.lemmas.List.Edits.{Swapped, swapped_from_swap}
use Rattle.std.proofs.lemmas.List.Sorted.{IsPermutation-swap, IsPermutation-sym, IsPermutation-keeps, Contains-permutation, length_permutation, sum_by-IsPermutation, IsNonDecreasingBy-from_sort}
use Rattle.std.proofs.lemmas.List.Sums.{sum_by-cons}
use Rattle.tri_core.specs.declared.half.Half.{Half}
use Rattle.cone_points.specs.Vertices.{IsVertex, IsTurns, IsDistinct, IsNumberOf}
use Rattle.tri_core.specs.Triangulation.{IsTriangulation}
use Rattle.quad_field.specs.FieldNumber.{IsFieldNumber}
use Rattle.cone_points.specs.Angles.{AreTurns, IsGenus, sum_of}
use Rattle.cone_points.specs.Walks.{TellsUpper, rises_by, number_below, AreTurnsBelow}
use Rattle.cone_points.proofs.Numbers.{listed_same, number_rest}
use Rattle.cone_points.proofs.Totals.{genus_is}

-- where the element at k stood before a and b were exchanged
data Stood (a b k : ℕ) : ℕ → Type 0 where
  at_first : k ≡ a → Stood a b k b
  at_second : ¬ (k ≡ a) → k ≡ b → Stood a b k a
  at_other : ¬ (k ≡ a) → ¬ (k ≡ b) → Stood a b k k

-- it has a place
stood : (a b k : ℕ) → (m : ℕ) × Stood a b k m
stood a b k = go (cases_eq k a) (cases_eq k b)
  where
    go : (k ≡ a) ⊎ ¬ (k ≡ a) → (k ≡ b) ⊎ ¬ (k ≡ b) → (m : ℕ) × Stood a b k m
    go (inl e) _ = (b, at_first e)
    go (inr ne) (inl e) = (a, at_second ne e)
    go (inr ne) (inr nf) = (k, at_other ne nf)

stood_value : (xs ys : List ℕ) (a b k m : ℕ) → Stood a b k m → Swapped (λ i. get_or xs i 0) (λ i. get_or ys i 0) a b → get_or ys k 0 ≡ get_or xs m 0
stood_value xs ys a b k m (at_first e) s = ap (λ i. get_or ys i 0) e ∙ s.0
stood_value xs ys a b k m (at_second ne e) s = ap (λ i. get_or ys i 0) e ∙ s.1
stood_value xs ys a b k m (at_other ne nf) s = s.2 k ne nf

stood_inside : (a b k m n : ℕ) → Stood a b k m → a < n → b < n → k < n → m < n
stood_inside a b k m n (at_first e) p q r = q
stood_inside a b k m n (at_second ne e) p q r = p
stood_inside a b k m n (at_other ne nf) p q r = r

stood_apart : (a b i j m n : ℕ) → Stood a b i m → Stood a b j n → ¬ (i ≡ j) → ¬ (m ≡ n)
stood_apart a b i j m n (at_first e) (at_first f) ne same = omega (arith, e, f, ne)
stood_apart a b i j m n (at_first e) (at_second x f) ne same = omega (arith, e, f, ne, same)
stood_apart a b i j m n (at_first e) (at_other x y) ne same = omega (arith, x, y, same)
stood_apart a b i j m n (at_second z e) (at_first f) ne same = omega (arith, e, f, ne, same)
stood_apart a b i j m n (at_second z e) (at_second x f) ne same = omega (arith, e, f, ne)
stood_apart a b i j m n (at_second z e) (at_other x y) ne same = omega (arith, x, y, same)
stood_apart a b i j m n (at_other z w) (at_first f) ne same = omega (arith, z, w, same)
stood_apart a b i j m n (at_other z w) (at_second x f) ne same = omega (arith, z, w, same)
stood_apart a b i j m n (at_other z w) (at_other x y) ne same = ne same

distinct_swap : (xs ys : List ℕ) (a b : ℕ) → a < length xs → b < length xs → length ys ≡ length xs → Swapped (λ i. get_or xs i 0) (λ i. get_or ys i 0) a b → IsDistinct xs → IsDistinct ys
distinct_swap xs ys a b la lb e s distinct i j less below same =
    let p = stood a b i in
    let q = stood a b j in
    let ip = stood_inside a b i p.0 (length xs) p.1 la lb (omega (arith, less, below, e)) in
    let iq = stood_inside a b j q.0 (length xs) q.1 la lb (omega (arith, below, e)) in
    let equal : get_or xs p.0 0 ≡ get_or xs q.0 0 = sym (stood_value xs ys a b i p.0 p.1 s) ∙ same ∙ stood_value xs ys a b j q.0 q.1 s in
    let apart = stood_apart a b i j p.0 q.0 p.1 q.1 (λ f. omega (arith, less, f)) in
    elim (cases_order p.0 q.0) [
      | inl f ↦ apart f
      | inr o ↦ elim o [ inl l ↦ distinct p.0 q.0 l iq equal | inr g ↦ distinct q.0 p.0 g ip (sym equal) ]
    ]

module _ (d : ℕ) (halves : List Half) (bound : ℕ) where
  -- two turns exchanged, with their vertices
  swap_turns : (turns : List ℕ) (a b : ℕ) → a < length turns → b < length turns → AreTurnsBelow d halves bound turns → AreTurnsBelow d halves bound (swap turns a b)
  swap_turns turns a b la lb t =
      let va : a < length t.vertices = omega (arith, la, t.as_many) in
      let vb : b < length t.vertices = omega (arith, lb, t.as_many) in
      let moved = IsPermutation-swap t.vertices (swap t.vertices a b) a b va vb refl in
      let lv = length_permutation t.vertices (swap t.vertices a b) moved in
      let lt = length_permutation turns (swap turns a b) (IsPermutation-swap turns (swap turns a b) a b la lb refl) in
      let sv = swapped_from_swap t.vertices (swap t.vertices a b) a b 0 va vb refl in
      let st = swapped_from_swap turns (swap turns a b) a b 0 la lb refl in
      record {
        vertices = swap t.vertices a b;
        listed = (
          distinct_swap t.vertices (swap t.vertices a b) a b va vb lv sv t.listed.0,
          λ k. (
            λ c. (t.listed.1 k).0 (Contains-permutation (swap t.vertices a b) t.vertices k (IsPermutation-sym t.vertices (swap t.vertices a b) moved) c),
            λ p. Contains-permutation t.vertices (swap t.vertices a b) k moved ((t.listed.1 k).1 p),
          ),
        );
        as_many = omega (arith, lv, lt, t.as_many);
        each = λ k below.
            let p = stood a b k in
            subst₂ (IsTurns d halves) (sym (stood_value t.vertices (swap t.vertices a b) a b k p.0 p.1 sv)) (sym (stood_value turns (swap turns a b) a b k p.0 p.1 st))
            (t.each p.0 (stood_inside a b k p.0 (length turns) p.1 la lb (omega (arith, below, lt))));
      }

  pub turns_moved : (turns other : List ℕ) → IsPermutation turns other → AreTurnsBelow d halves bound turns → AreTurnsBelow d halves bound other
  turns_moved turns other moved t = IsPermutation-keeps turns (AreTurnsBelow d halves bound) t (λ l a b la lb p. swap_turns l a b la lb p) other moved

-- the turns of all vertices, sorted
pub turns_sorted : (d : ℕ) (halves : List Half) (turns other : List ℕ) → IsPermutation turns other → AreTurnsBelow d halves (length halves) turns → IsSortedByKey (λ (x : ℕ). x) nat_cmp other → AreTurns d halves other
turns_sorted d halves turns other moved t sorted =
    let s = turns_moved d halves (length halves) turns other moved t in
    record {
      vertices = s.vertices;
      listed = listed_same (λ v. (v < length halves) × IsVertex halves v) (IsVertex halves) s.vertices (λ k. (λ p. p.1, λ p. (p.0, p))) s.listed;
      as_many = s.as_many;
      each = s.each;
      ascending = λ i j less below. IsNonDecreasingBy-from_sort (λ (x : ℕ). x) other sorted i j 0 (omega (arith, less)) below;
    }

-- as many vertices as turns
pub vertices_number : (d : ℕ) (halves : List Half) (turns : List ℕ) → AreTurnsBelow d halves (length halves) turns → IsNumberOf (IsVertex halves) (length turns)
vertices_number d halves turns t =
    (t.vertices, listed_same (λ v. (v < length halves) × IsVertex halves v) (IsVertex halves) t.vertices (λ k. (λ p. p.1, λ p. (p.0, p))) t.listed, sym t.as_many)

sum_is : (list : List ℕ) → sum_of list ≡ sum_by (λ x. x) list
sum_is [] = refl
sum_is (n ∷ list) = ap (λ s. n + s) (sum_is list) ∙ sym (sum_by-cons (λ x. x) n list)

-- the sum is the same in every order
pub sum_moved : (turns other : List ℕ) → IsPermutation turns other → sum_of other ≡ sum_of turns
sum_moved turns other moved = sum_is other ∙ sum_by-IsPermutation (λ x. x) turns other moved ∙ sym (sum_is turns)

-- ---- what the turns say together
module _ (d : ℕ) (halves : List Half) (valid : IsTriangulation d halves) (number : IsFieldNumber d) (uppers : List Bool) (tells : TellsUpper d halves uppers) where
  pub genus_from_turns : (turns other : List ℕ) (g : ℕ) → AreTurnsBelow d halves (length halves) turns → sum_of turns ≡ number_below (rises_by halves uppers) (length halves) → length turns ≤ sum_of turns
      → g ≡ (sum_of turns + 2 - length turns) / 2 → IsPermutation turns other → (sum_of other + 2 ≡ 2 * g + length other) × IsGenus halves g
  genus_from_turns turns other g t sum positive is moved =
      let w = genus_is d halves valid number uppers tells (length turns) (sum_of turns) g (vertices_number d halves turns t) sum positive is in
      (omega (arith, w.0, sum_moved turns other moved, length_permutation turns other moved), w.1)

  pub few_rise : number_below (rises_by halves uppers) (length halves) ≤ 768
  few_rise = omega (arith, number_rest (rises_by halves uppers) (length halves), valid.count)
