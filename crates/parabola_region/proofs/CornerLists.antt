-- The list of corners, pair by pair.
use Rattle.std.proofs.Common.{◌≡◌, ℕ, ◌+◌, ◌<◌, ◌≤◌, List, [], ◌∷◌, ◌++◌, length, subst, sym, ap, refl, ◌∙◌, arith}
use mathlib.Core.Logic.{inl, inr}
use Rattle.std.specs.Prelude.{◌⊎◌, None}
use Rattle.std.proofs.lemmas.List.{get_or_append_left, get_or_push}
use Rattle.std.proofs.lemmas.Bool.{cases_eq}
use Rattle.tri_core.specs.declared.half.Half.{Half}
use Rattle.hinge_form.specs.Triples.{Triple}
use Rattle.parabola_region.specs.declared.corner.Corner.{Corner}
use Rattle.parabola_region.specs.WallLists.{PlainWall, form_of}
use Rattle.parabola_region.specs.Corners.{no_corner, corner_at, ComesBefore, IsCornerPoint, IsCornerAt, IsListed, IsCornerList}
use Rattle.parabola_region.specs.Spots.{IsEarlier, IsPair, IsCornersTo}
use Rattle.parabola_region.proofs.Lists.{length_more, push_cases, each_more}

module _ (d : ℕ) (halves : List Half) (walls : List PlainWall) where
  pub no_pairs : IsCornersTo d halves walls 0 1 []
  no_pairs = record {
    ascends = λ m n less under. absurd (omega arith);
    order = λ n under. absurd (omega arith);
    inside = λ n under. absurd (omega arith);
    each = λ n under. absurd (omega arith);
    before = λ n under. absurd (omega arith);
    every = λ a b less under earlier q c. absurd (none a b less earlier);
  }
    where
      none : (a b : ℕ) → a < b → IsEarlier a b 0 1 → ⊥
      none a b less (inl h) = omega arith
      none a b less (inr h) = omega (arith, h.0, h.1)

  module _ (i j : ℕ) (corners : List Corner) (are : IsCornersTo d halves walls i j corners) where
    later : (a b : ℕ) → IsEarlier a b i j → IsEarlier a b i (j + 1)
    later a b (inl h) = inl h
    later a b (inr h) = inr (h.0, omega (arith, h.1))

    -- the pair (i, j) or an earlier one
    split : (a b : ℕ) → IsEarlier a b i (j + 1) → IsEarlier a b i j ⊎ ((a ≡ i) × (b ≡ j))
    split a b (inl h) = inl (inl h)
    split a b (inr h) = go (cases_eq b j)
      where
        go : (b ≡ j) ⊎ ¬ (b ≡ j) → IsEarlier a b i j ⊎ ((a ≡ i) × (b ≡ j))
        go (inl e) = inr (h.0, e)
        go (inr n) = inl (inr (h.0, omega (arith, h.1)))

    pub pair_none : IsPair d halves walls i j None → IsCornersTo d halves walls i (j + 1) corners
    pair_none none = record {
      ascends = are.ascends;
      order = are.order;
      inside = are.inside;
      each = are.each;
      before = λ n under. later _ _ (are.before n under);
      every = λ a b less under earlier q c. go a b less under q c (split a b earlier);
    }
      where
        go : (a b : ℕ) → a < b → b < length walls → (q : Triple) → IsCornerPoint d halves (form_of walls a) (form_of walls b) q → IsEarlier a b i j ⊎ ((a ≡ i) × (b ≡ j)) → IsListed corners a b
        go a b less under q c (inl h) = are.every a b less under h q c
        go a b less under q c (inr h) = absurd (none q (subst (λ k. IsCornerPoint d halves (form_of walls i) (form_of walls k) q) h.1 (subst (λ k. IsCornerPoint d halves (form_of walls k) (form_of walls b) q) h.0 c)))

    module _ (less : i < j) (under : j < length walls) (c : Corner) (is : IsCornerAt d halves walls i j c) where
      comes : (n : ℕ) → IsEarlier (corner_at corners n).first (corner_at corners n).second i j → ComesBefore (corner_at corners n) c
      comes n (inl h) = inl (omega (arith, h, is.first))
      comes n (inr h) = inr (h.0 ∙ sym is.first, omega (arith, h.1, is.second))

      left : (n : ℕ) → n < length corners → corner_at (corners ++ c ∷ []) n ≡ corner_at corners n
      left n under = get_or_append_left corners (c ∷ []) no_corner n under

      last : corner_at (corners ++ c ∷ []) (length corners) ≡ c
      last = get_or_push corners c no_corner (length corners) refl

      kept : (a b : ℕ) → IsListed corners a b → IsListed (corners ++ c ∷ []) a b
      kept a b l = (l.0, omega (arith, length_more corners c, l.1), ap (λ (x : Corner). x.first) (left l.0 l.1) ∙ l.2, ap (λ (x : Corner). x.second) (left l.0 l.1) ∙ l.3)

      itself : IsCornerAt d halves walls c.first c.second c
      itself = subst (λ k. IsCornerAt d halves walls c.first k c) (sym is.second) (subst (λ k. IsCornerAt d halves walls k j c) (sym is.first) is)

      pub pair_some : IsCornersTo d halves walls i (j + 1) (corners ++ c ∷ [])
      pair_some = record {
        ascends = ascends;
        order = each_more (λ (x : Corner). x.first < x.second) corners c no_corner are.order (omega (arith, is.first, is.second));
        inside = each_more (λ (x : Corner). x.second < length walls) corners c no_corner are.inside (omega (arith, is.second));
        each = each_more (λ (x : Corner). IsCornerAt d halves walls x.first x.second x) corners c no_corner are.each itself;
        before = each_more (λ (x : Corner). IsEarlier x.first x.second i (j + 1)) corners c no_corner (λ n under. later _ _ (are.before n under)) (inr (is.first, omega (arith, is.second)));
        every = λ a b less under earlier q p. go a b less under q p (split a b earlier);
      }
        where
          ascends : (m n : ℕ) → m < n → n < length (corners ++ c ∷ []) → ComesBefore (corner_at (corners ++ c ∷ []) m) (corner_at (corners ++ c ∷ []) n)
          ascends m n less under = by (push_cases corners c no_corner n under)
            where
              by : ((n < length corners) × (corner_at (corners ++ c ∷ []) n ≡ corner_at corners n)) ⊎ ((n ≡ length corners) × (corner_at (corners ++ c ∷ []) n ≡ c))
                  → ComesBefore (corner_at (corners ++ c ∷ []) m) (corner_at (corners ++ c ∷ []) n)
              by (inl h) =
                  subst (λ (x : Corner). ComesBefore x (corner_at (corners ++ c ∷ []) n)) (sym (left m (omega (arith, h.0)))) (subst (λ (x : Corner). ComesBefore (corner_at corners m) x) (sym h.1) (are.ascends m n less h.0))
              by (inr h) =
                  subst (λ (x : Corner). ComesBefore x (corner_at (corners ++ c ∷ []) n)) (sym (left m (omega (arith, h.0))))
                  (subst (λ (x : Corner). ComesBefore (corner_at corners m) x) (sym h.1) (comes m (are.before m (omega (arith, h.0)))))

          go : (a b : ℕ) → a < b → b < length walls → (q : Triple) → IsCornerPoint d halves (form_of walls a) (form_of walls b) q → IsEarlier a b i j ⊎ ((a ≡ i) × (b ≡ j)) → IsListed (corners ++ c ∷ []) a b
          go a b less under q p (inl h) = kept a b (are.every a b less under h q p)
          go a b less under q p (inr h) =
              (length corners, omega (arith, length_more corners c), ap (λ (x : Corner). x.first) last ∙ is.first ∙ sym h.0, ap (λ (x : Corner). x.second) last ∙ is.second ∙ sym h.1)

  -- the end of a row, and of all rows
  module _ (i : ℕ) (corners : List Corner) where
    pub row_end : IsCornersTo d halves walls i (length walls) corners → IsCornersTo d halves walls (i + 1) (i + 1 + 1) corners
    row_end are = record {
      ascends = are.ascends;
      order = are.order;
      inside = are.inside;
      each = are.each;
      before = λ n under. inl (up (are.before n under));
      every = λ a b less under earlier q c. are.every a b less under (down a b less under earlier) q c;
    }
      where
        up : {a b : ℕ} → IsEarlier a b i (length walls) → a < i + 1
        up (inl h) = omega (arith, h)
        up (inr h) = omega (arith, h.0)

        down : (a b : ℕ) → a < b → b < length walls → IsEarlier a b (i + 1) (i + 1 + 1) → IsEarlier a b i (length walls)
        down a b less under (inl h) = go (cases_eq a i)
          where
            go : (a ≡ i) ⊎ ¬ (a ≡ i) → IsEarlier a b i (length walls)
            go (inl e) = inr (e, under)
            go (inr n) = inl (omega (arith, h))
        down a b less under (inr h) = absurd (omega (arith, h.0, h.1))

    pub all_pairs : length walls ≤ i → IsCornersTo d halves walls i (i + 1) corners → IsCornerList d halves walls corners
    all_pairs past are = record { ascends = are.ascends; order = are.order; inside = are.inside; each = are.each; every = λ a b less under q c. are.every a b less under (inl (omega arith)) q c }
