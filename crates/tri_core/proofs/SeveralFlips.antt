-- Flips at all members of a set at once: where half-edges go, where each comes from, and that there is one result.
use Rattle.std.proofs.Common.{◌≡◌, ℕ, ◌<◌, Bool, true, false, List, length, sym, ap, ◌∙◌, subst, inl, inr, arith}
use Rattle.std.specs.Prelude.{if◌then◌else◌}
use Rattle.std.proofs.lemmas.Bool.{cases_Bool}
use Rattle.tri_core.specs.declared.half.Half.{Half}
use Rattle.tri_core.specs.HalfEdges.{vector_at, twin_at, next_of, previous_of}
use Rattle.tri_core.specs.Triangulation.{IsTriangulation}
use Rattle.tri_core.specs.SeveralFlips.{IsSpread, number_after_all, AreFlipped}
use Rattle.tri_core.proofs.Triangles.{next_next, previous_previous, next_previous}
use Rattle.tri_core.proofs.Unique.{same_halves}

-- ---- where half-edges move
module _ (halves : List Half) (set : ℕ → Bool) where
  pub number_following : (k : ℕ) → set (previous_of k) ≡ true → number_after_all halves set k ≡ next_of k
  number_following k e = ap (λ (b : Bool). if b then next_of k else if set (next_of k) then next_of (twin_at halves (next_of k)) else k) e

  pub number_preceding : (k : ℕ) → set (previous_of k) ≡ false → set (next_of k) ≡ true → number_after_all halves set k ≡ next_of (twin_at halves (next_of k))
  number_preceding k e f =
      ap (λ (b : Bool). if b then next_of k else if set (next_of k) then next_of (twin_at halves (next_of k)) else k) e
      ∙ ap (λ (b : Bool). if b then next_of (twin_at halves (next_of k)) else k) f

  pub number_staying : (k : ℕ) → set (previous_of k) ≡ false → set (next_of k) ≡ false → number_after_all halves set k ≡ k
  number_staying k e f =
      ap (λ (b : Bool). if b then next_of k else if set (next_of k) then next_of (twin_at halves (next_of k)) else k) e
      ∙ ap (λ (b : Bool). if b then next_of (twin_at halves (next_of k)) else k) f

-- ---- each half-edge comes from one
module _ (d : ℕ) (halves : List Half) (valid : IsTriangulation d halves) (set : ℕ → Bool) (spread : IsSpread halves set) where
  round_next : (k : ℕ) → k < length halves → next_of k < length halves
  round_next k below = let whole = valid.count.0 in omega arith

  round_previous : (k : ℕ) → k < length halves → previous_of k < length halves
  round_previous k below = let whole = valid.count.0 in omega arith

  -- k comes of j, which is no member where k is none
  pub record ComesFrom (k : ℕ) : Type 0 where
    pub origin : ℕ
    pub inside : origin < length halves
    pub goes : number_after_all halves set origin ≡ k
    pub outside : set k ≡ false → set origin ≡ false

  pub comes_from : (k : ℕ) → k < length halves → ComesFrom k
  comes_from k below = elim (cases_Bool (set (next_of k))) [
    | inl member ↦
        let n = next_of k in
        let j = previous_of k in
        let e : previous_of j ≡ n = previous_previous k in
        record {
          origin = j;
          inside = round_previous k below;
          goes = number_following halves set j (ap set e ∙ member) ∙ next_previous k;
          outside = λ none. ap set (sym (next_next k)) ∙ spread.after n (round_next k below) member;
        }
    | inr none ↦ elim (cases_Bool (set (previous_of k))) [
      | inl member ↦
          let h = previous_of k in
          let at = round_previous k below in
          let g = twin_at halves h in
          let paired = valid.paired h at in
          let twin_member : set g ≡ true = spread.twin h at ∙ member in
          let j = previous_of g in
          record {
            origin = j;
            inside = round_previous g paired.0;
            goes =
                number_preceding halves set j (ap set (previous_previous g) ∙ spread.after g paired.0 twin_member) (ap set (next_previous g) ∙ twin_member)
                ∙ ap (λ i. next_of (twin_at halves i)) (next_previous g) ∙ ap next_of paired.1 ∙ next_previous k;
            outside = λ free. spread.before g paired.0 twin_member;
          }
      | inr other ↦ record { origin = k; inside = below; goes = number_staying halves set k other none; outside = λ free. free }
    ]
  ]

-- ---- only one result
module _ (d : ℕ) (halves : List Half) (valid : IsTriangulation d halves) (set : ℕ → Bool) (spread : IsSpread halves set) where
  alike : (a b : List Half) → AreFlipped d halves set a → AreFlipped d halves set b → (k : ℕ) → k < length halves → (vector_at a k ≡ vector_at b k) × (twin_at a k ≡ twin_at b k)
  alike a b one two k below =
      let o = comes_from d halves valid set spread k below in (
        elim (cases_Bool (set k)) [
          | inl member ↦ one.diagonals k below member ∙ sym (two.diagonals k below member)
          | inr free ↦
              ap (vector_at a) (sym o.goes) ∙ one.vectors o.origin o.inside (o.outside free) ∙ sym (two.vectors o.origin o.inside (o.outside free)) ∙ ap (vector_at b) o.goes
        ],
        ap (twin_at a) (sym o.goes) ∙ one.twins o.origin o.inside ∙ sym (two.twins o.origin o.inside) ∙ ap (twin_at b) o.goes,
      )

  pub flipped_once : (a b : List Half) → AreFlipped d halves set a → AreFlipped d halves set b → a ≡ b
  flipped_once a b one two =
      let within : (k : ℕ) → k < length a → k < length halves = λ k. subst (λ (l : ℕ). k < l) one.count in
      same_halves a b (one.count ∙ sym two.count) (λ k below. (alike a b one two k (within k below)).0) (λ k below. (alike a b one two k (within k below)).1)
