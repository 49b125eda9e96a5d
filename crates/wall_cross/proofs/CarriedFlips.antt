-- Flips of an image, at once at all members of a set and at one edge: what they leave is the image of what the first ones leave.
use Rattle.std.proofs.Common.{◌≡◌, ◌≢◌, ◌⊎◌, ℕ, ◌<◌, Bool, true, false, List, [], ◌∷◌, length, refl, sym, ap, ◌∙◌, subst, arith, inl, inr}
use Rattle.std.specs.Prelude.{pos, slice_index}
use Rattle.std.proofs.lemmas.Bool.{cases_Bool, false_from_ne_true}
use Rattle.rings.specs.Vectors.{vector_sum, multiple_vector}
use Rattle.rings.specs.Matrices.{Matrix, mapped}
use Rattle.rings.proofs.Matrices.{opposite_carried, sum_carried, turn_carried}
use Rattle.quad_field.specs.declared.quad.Quad.{Quad}
use Rattle.quad_field.specs.FieldNumber.{IsFieldNumber}
use Rattle.quad_field.specs.Quads.{quad_ops}
use Rattle.quad_field.proofs.CallerLemmas.{quad_ring, order_of, natural_positive}
use Rattle.tri_core.specs.declared.half.Half.{Half}
use Rattle.tri_core.specs.HalfEdges.{vector_at, twin_at, triangle_of, next_of, previous_of}
use Rattle.tri_core.specs.Triangulation.{IsTriangulation, TurnsInto}
use Rattle.tri_core.specs.Flips.{IsFlip, IsStrictlyConvex}
use Rattle.tri_core.specs.SeveralFlips.{is_among, IsSpread, number_after_all, AreFlipped}
use Rattle.tri_core.specs.Images.{AreInverse, IsImage}
use Rattle.tri_core.proofs.CallerLemmas.{side_next, side_previous, half_apart, next_inside, previous_inside, twin_inside, flip_from_twin}
use Rattle.tri_core.proofs.CallerLemmas.{number_following, number_preceding, number_staying, comes_from, bool_equal, among_cases, among_from, among_twin, all_first}
use Rattle.tri_core.proofs.CallerLemmas.{forth_inside, forth_injective, previous_kept, image_turns_left}

-- ---- flips at once
module _ (d : ℕ) (n : Matrix Quad) (m : ℕ) (from to : List Half) (forth back : ℕ → ℕ) (valid : IsTriangulation d from) (image : IsImage d n m from to forth back) (set set_to : ℕ → Bool)
    (same : (k : ℕ) → k < length from → set_to (forth k) ≡ set k) where
  abbrev c : Quad
  c = (quad_ops d).int (pos m)

  next_in : (k : ℕ) → k < length from → next_of k < length from
  next_in k below = next_inside d from k valid below

  previous_in : (k : ℕ) → k < length from → previous_of k < length from
  previous_in k below = previous_inside d from k valid below

  twin_in : (k : ℕ) → k < length from → twin_at from k < length from
  twin_in k below = twin_inside d from k valid below

  inside_to : (k : ℕ) → k < length from → forth k < length to
  inside_to k below = forth_inside d n m from to forth back image k below

  previous_goes : (k : ℕ) → k < length from → forth (previous_of k) ≡ previous_of (forth k)
  previous_goes k below = previous_kept d n m from to forth back image valid k below

  set_next : (k : ℕ) → k < length from → set_to (next_of (forth k)) ≡ set (next_of k)
  set_next k below = ap set_to (sym (image.next k below)) ∙ same (next_of k) (next_in k below)

  set_previous : (k : ℕ) → k < length from → set_to (previous_of (forth k)) ≡ set (previous_of k)
  set_previous k below = ap set_to (sym (previous_goes k below)) ∙ same (previous_of k) (previous_in k below)

  -- a half-edge's image goes where the image of what it goes to is
  number_kept : (k : ℕ) → k < length from → forth (number_after_all from set k) ≡ number_after_all to set_to (forth k)
  number_kept k below = elim (cases_Bool (set (previous_of k))) [
    | inl e ↦ ap forth (number_following from set k e) ∙ image.next k below ∙ sym (number_following to set_to (forth k) (set_previous k below ∙ e))
    | inr a ↦ elim (cases_Bool (set (next_of k))) [
      | inl e ↦
          ap forth (number_preceding from set k a e) ∙ image.next (twin_at from (next_of k)) (twin_in (next_of k) (next_in k below)) ∙ ap next_of (image.twin (next_of k) (next_in k below))
          ∙ ap (λ (i : ℕ). next_of (twin_at to i)) (image.next k below) ∙ sym (number_preceding to set_to (forth k) (set_previous k below ∙ a) (set_next k below ∙ e))
      | inr b ↦ ap forth (number_staying from set k a b) ∙ sym (number_staying to set_to (forth k) (set_previous k below ∙ a) (set_next k below ∙ b))
    ]
  ]

  module _ (spread : IsSpread from set) (later later_to : List Half) (flips : AreFlipped d from set later) (flips_to : AreFlipped d to set_to later_to) where
    diagonal_goes : (k : ℕ) → k < length from → set k ≡ true → multiple_vector (quad_ops d) ((quad_ops d).int (pos m)) (vector_at later_to (forth k)) ≡ mapped (quad_ops d) n (vector_at later k)
    diagonal_goes k below member =
        let O = quad_ops d in
        let g = twin_at from k in
        let at = twin_in k below in
        let r = previous_of g in
        let i = next_of k in
        let r_to : forth r ≡ previous_of (twin_at to (forth k)) = previous_goes g at ∙ ap previous_of (image.twin k below) in
        ap (multiple_vector O c) (flips_to.diagonals (forth k) (inside_to k below) (same k below ∙ member))
        ∙ opposite_carried O (quad_ring d) n c (vector_sum O (vector_at from r) (vector_at from i)) (vector_sum O (vector_at to (previous_of (twin_at to (forth k)))) (vector_at to (next_of (forth k))))
        (sum_carried O (quad_ring d) n c (vector_at from r) (vector_at from i) (vector_at to (previous_of (twin_at to (forth k)))) (vector_at to (next_of (forth k)))
        (ap (λ (j : ℕ). multiple_vector O c (vector_at to j)) (sym r_to) ∙ image.vectors r (previous_in g at))
        (ap (λ (j : ℕ). multiple_vector O c (vector_at to j)) (sym (image.next k below)) ∙ image.vectors i (next_in k below)))
        ∙ ap (mapped O n) (sym (flips.diagonals k below member))

    other_goes : (k : ℕ) → k < length from → set k ≡ false → multiple_vector (quad_ops d) ((quad_ops d).int (pos m)) (vector_at later_to (forth k)) ≡ mapped (quad_ops d) n (vector_at later k)
    other_goes k below free =
        let O = quad_ops d in
        let o = comes_from d from valid set spread k below in
        let i = o.origin in
        let out = o.outside free in
        let old : vector_at later k ≡ vector_at from i = ap (vector_at later) (sym o.goes) ∙ flips.vectors i o.inside out in
        let new : vector_at later_to (forth k) ≡ vector_at to (forth i) =
        ap (λ (j : ℕ). vector_at later_to (forth j)) (sym o.goes) ∙ ap (vector_at later_to) (number_kept i o.inside) ∙ flips_to.vectors (forth i) (inside_to i o.inside) (same i o.inside ∙ out) in
        ap (multiple_vector O c) new ∙ image.vectors i o.inside ∙ ap (mapped O n) (sym old)

    twin_goes : (k : ℕ) → k < length from → forth (twin_at later k) ≡ twin_at later_to (forth k)
    twin_goes k below =
        let o = comes_from d from valid set spread k below in
        let i = o.origin in
        ap (λ (j : ℕ). forth (twin_at later j)) (sym o.goes) ∙ ap forth (flips.twins i o.inside) ∙ number_kept (twin_at from i) (twin_in i o.inside)
        ∙ ap (number_after_all to set_to) (image.twin i o.inside) ∙ sym (flips_to.twins (forth i) (inside_to i o.inside)) ∙ ap (twin_at later_to) (sym (number_kept i o.inside))
        ∙ ap (λ (j : ℕ). twin_at later_to (forth j)) o.goes

    -- all flips of the image leave the image of what all flips leave
    pub all_flipped_image : IsImage d n m later later_to forth back
    all_flipped_image =
        let within : (k : ℕ) → k < length later → k < length from = λ k. subst (λ (l : ℕ). k < l) flips.count in
        record {
          denominator = image.denominator;
          count = flips_to.count ∙ image.count ∙ sym flips.count;
          each_once = subst (λ (l : ℕ). AreInverse l forth back) (sym flips.count) image.each_once;
          next = λ k inside. image.next k (within k inside);
          twin = λ k inside. twin_goes k (within k inside);
          vectors = λ k inside. elim (cases_Bool (set k)) [
            | inl member ↦ diagonal_goes k (within k inside) member
            | inr free ↦ other_goes k (within k inside) free
          ];
        }

-- ---- one flip is a flip at once, of one edge
module _ (d : ℕ) (halves : List Half) (valid : IsTriangulation d halves) (h : ℕ) (below : h < length halves) where
  abbrev pub single : ℕ → Bool
  single k = is_among halves (h ∷ []) 1 k

  pub single_cases : (k : ℕ) → is_among halves (h ∷ []) 1 k ≡ true → (k ≡ h) ⊎ (k ≡ twin_at halves h)
  single_cases k e = go (among_cases halves (h ∷ []) 1 k e)
    where
      go : (i : ℕ) × (i < 1) × ((k ≡ slice_index (h ∷ []) i) ⊎ (k ≡ twin_at halves (slice_index (h ∷ []) i))) → (k ≡ h) ⊎ (k ≡ twin_at halves h)
      go (i, less, is) =
          let first : i ≡ 0 = omega arith in
          subst (λ (j : ℕ). (k ≡ slice_index (h ∷ []) j) ⊎ (k ≡ twin_at halves (slice_index (h ∷ []) j))) first is

  pub single_from : (k : ℕ) → (k ≡ h) ⊎ (k ≡ twin_at halves h) → is_among halves (h ∷ []) 1 k ≡ true
  single_from k is = among_from halves (h ∷ []) 1 k 0 (omega arith) is

  -- neither the next half-edge nor the one before is one of the two
  single_lone : (j k : ℕ) → triangle_of j ≡ triangle_of k → j ≢ k → is_among halves (h ∷ []) 1 k ≡ true → is_among halves (h ∷ []) 1 j ≡ false
  single_lone j k near ne member =
      let apart = half_apart d halves h valid below in
      false_from_ne_true _ (λ e. elim (single_cases k member) [
        | inl at ↦ elim (single_cases j e) [ inl x ↦ ne (x ∙ sym at) | inr x ↦ apart.apart (ap triangle_of (sym at) ∙ sym near ∙ ap triangle_of x) ]
        | inr at ↦ elim (single_cases j e) [ inl x ↦ apart.apart (ap triangle_of (sym x) ∙ near ∙ ap triangle_of at) | inr x ↦ ne (x ∙ sym at) ]
      ])

  listed_inside : (i : ℕ) → i < length (h ∷ []) → slice_index (h ∷ []) i < length halves
  listed_inside i less = let first : 0 ≡ i = omega arith in subst (λ (j : ℕ). slice_index (h ∷ []) j < length halves) first below

  pub single_spread : IsSpread halves (is_among halves (h ∷ []) 1)
  single_spread = record {
    twin = λ k inside. among_twin d halves valid (h ∷ []) listed_inside 1 k (omega arith) inside;
    after = λ k inside e. single_lone (next_of k) k (side_next k) (turned k) e;
    before = λ k inside e. single_lone (previous_of k) k (side_previous k) (turned_back k) e;
  }
    where
      turned : (k : ℕ) → next_of k ≢ k
      turned k e = omega arith

      turned_back : (k : ℕ) → previous_of k ≢ k
      turned_back k e = omega arith

  pub single_flipped : (later : List Half) → IsFlip d halves h later → AreFlipped d halves (is_among halves (h ∷ []) 1) later
  single_flipped later flip = all_first d halves valid (h ∷ []) listed_inside fresh single_spread 1 later (omega arith) (halves, refl, flip)
    where
      fresh : (i : ℕ) → i < length (h ∷ []) → is_among halves (h ∷ []) i (slice_index (h ∷ []) i) ≡ false
      fresh i less = let first : 0 ≡ i = omega arith in subst (λ (j : ℕ). is_among halves (h ∷ []) j (slice_index (h ∷ []) j) ≡ false) first refl

  -- the flip at whichever of the two half-edges
  pub flip_from_either : (x : ℕ) (later : List Half) → (x ≡ h) ⊎ (x ≡ twin_at halves h) → IsFlip d halves x later → IsFlip d halves h later
  flip_from_either x later (inl e) flip = subst (λ (k : ℕ). IsFlip d halves k later) e flip
  flip_from_either x later (inr e) flip = flip_from_twin d halves valid h below later (subst (λ (k : ℕ). IsFlip d halves k later) e flip)

-- ---- the flip of an image
module _ (d : ℕ) (n : Matrix Quad) (m : ℕ) (from to : List Half) (forth back : ℕ → ℕ) (valid : IsTriangulation d from) (valid_to : IsTriangulation d to)
    (image : IsImage d n m from to forth back) (h : ℕ) (below : h < length from) where
  there : forth h < length to
  there = forth_inside d n m from to forth back image h below

  inside_g : twin_at from h < length from
  inside_g = twin_inside d from h valid below

  single_kept : (k : ℕ) → k < length from → is_among to (forth h ∷ []) 1 (forth k) ≡ is_among from (h ∷ []) 1 k
  single_kept k inside =
      bool_equal _ _
      (λ e. single_from d from valid h below k (elim (single_cases d to valid_to (forth h) there (forth k) e) [
        | inl x ↦ inl (forth_injective d n m from to forth back image k h inside below x)
        | inr x ↦ inr (forth_injective d n m from to forth back image k (twin_at from h) inside inside_g (x ∙ sym (image.twin h below)))
      ]))
      (λ e. single_from d to valid_to (forth h) there (forth k) (elim (single_cases d from valid h below k e) [
        | inl x ↦ inl (ap forth x)
        | inr x ↦ inr (ap forth x ∙ image.twin h below)
      ]))

  -- is the image of the flip
  pub flip_image : (later later_to : List Half) → IsFlip d from h later → IsFlip d to (forth h) later_to → IsImage d n m later later_to forth back
  flip_image later later_to flip flip_to =
      all_flipped_image d n m from to forth back valid image (is_among from (h ∷ []) 1) (is_among to (forth h ∷ []) 1) single_kept (single_spread d from valid h below) later later_to
      (single_flipped d from valid h below later flip) (single_flipped d to valid_to (forth h) there later_to flip_to)

  -- and can be made where the flip can
  pub convex_carried : IsFieldNumber d → IsStrictlyConvex d from h → IsStrictlyConvex d to (forth h)
  convex_carried field convex = record {
    first = turn (next_of h) (previous_of h) (next_of (forth h)) (previous_of (forth h)) n_in p_in next_goes before_goes convex.first;
    second = turn (previous_of h) (next_of g) (previous_of (forth h)) (next_of (twin_at to (forth h))) p_in q_in before_goes next_of_twin_goes convex.second;
    third = turn (next_of g) (previous_of g) (next_of (twin_at to (forth h))) (previous_of (twin_at to (forth h))) q_in r_in next_of_twin_goes before_twin_goes convex.third;
    fourth = turn (previous_of g) (next_of h) (previous_of (twin_at to (forth h))) (next_of (forth h)) r_in n_in before_twin_goes next_goes convex.fourth;
  }
    where
      g : ℕ
      g = twin_at from h

      n_in : next_of h < length from
      n_in = next_inside d from h valid below

      p_in : previous_of h < length from
      p_in = previous_inside d from h valid below

      q_in : next_of (twin_at from h) < length from
      q_in = next_inside d from (twin_at from h) valid inside_g

      r_in : previous_of (twin_at from h) < length from
      r_in = previous_inside d from (twin_at from h) valid inside_g

      next_goes : forth (next_of h) ≡ next_of (forth h)
      next_goes = image.next h below

      before_goes : forth (previous_of h) ≡ previous_of (forth h)
      before_goes = previous_kept d n m from to forth back image valid h below

      next_of_twin_goes : forth (next_of (twin_at from h)) ≡ next_of (twin_at to (forth h))
      next_of_twin_goes = image.next (twin_at from h) inside_g ∙ ap next_of (image.twin h below)

      before_twin_goes : forth (previous_of (twin_at from h)) ≡ previous_of (twin_at to (forth h))
      before_twin_goes = previous_kept d n m from to forth back image valid (twin_at from h) inside_g ∙ ap previous_of (image.twin h below)

      turn : (k i a b : ℕ) → k < length from → i < length from → forth k ≡ a → forth i ≡ b → TurnsInto d from k i → TurnsInto d to a b
      turn k i a b ik ii ek ei p =
          let O = quad_ops d in
          let C : Quad = O.int (pos m) in
          turn_carried O (quad_ring d) (order_of d field) n C (vector_at from k) (vector_at from i) (vector_at to a) (vector_at to b) (natural_positive d m image.denominator)
          (image_turns_left d n m from to forth back image valid field valid_to)
          (ap (λ (j : ℕ). multiple_vector O C (vector_at to j)) (sym ek) ∙ image.vectors k ik) (ap (λ (j : ℕ). multiple_vector O C (vector_at to j)) (sym ei) ∙ image.vectors i ii) p
