-- Lists of vectors in convex position: closed lists that turn once round through the upper half and then through the lower.
use Rattle.std.proofs.Common.{◌≡◌, List, [], ◌∷◌, ◌++◌, subst, sym, ap, ◌∙◌, refl}
use Rattle.std.specs.Prelude.{◌⊎◌}
use Rattle.std.specs.List.{AllByRecursion}
use mathlib.Core.Logic.{inl, inr}
use Rattle.std.proofs.lemmas.List.{append_assoc}
use Rattle.rings.specs.Ring.{Ops, IsRing, var, expr}
use Rattle.rings.specs.Order.{IsOrdered}
use Rattle.rings.specs.Forms.{det as determinant}
use Rattle.rings.specs.Vectors.{Vector, zero_vector, vector_sum, opposite_vector, IsUpper}
use Rattle.rings.proofs.Solver.{identity}
use Rattle.rings.proofs.Turning.{upper_or_lower, upper_once, det_closed_second, det_closed_third}
use Rattle.ear_cut.proofs.Splits.{meet, place}
use Rattle.ear_cut.proofs.Sorted as sorting
use Rattle.ear_cut.proofs.Sorted.{total_both, sorted_first, sorted_second, sorted_sums, turn_before, turn_after, upper_half, lower_half, upper_flips, lower_flips, chain_sorted}
open expr use {add as ◌+'◌}

infixl 60 ◌+'◌
module _ {R : Type 0} (O : Ops R) (L : IsRing O) {P : R → Type 0} (Q : IsOrdered O P) where
  open O use {add as ◌⊕◌}

  infixl 60 ◌⊕◌
  -- the determinant of two vectors
  abbrev det : Vector R → Vector R → R
  det u v = determinant O u v

  -- u + v
  abbrev both : Vector R → Vector R → Vector R
  both u v = vector_sum O u v

  -- the zero vector
  abbrev none : Vector R
  none = zero_vector O

  abbrev Upper : Vector R → Type 0
  Upper v = IsUpper O P v

  abbrev Lower : Vector R → Type 0
  Lower v = IsUpper O P (opposite_vector O v)

  -- zero or positive
  abbrev NN : R → Type 0
  NN a = sorting.NN O L Q a

  abbrev total : List (Vector R) → Vector R
  total l = sorting.total O L Q l

  abbrev Sorted : List (Vector R) → Type 0
  Sorted l = sorting.Sorted O L Q l

  abbrev Chain : (Vector R → Vector R → Type 0) → List (Vector R) → Type 0
  Chain E l = sorting.Chain O L Q E l

  -- two stretches of the list, one after the other, never turn to the right
  abbrev pub InConvexPosition : List (Vector R) → Type 0
  InConvexPosition l = (a x y b : List (Vector R)) → l ≡ a ++ (x ++ (y ++ b)) → NN (det (total x) (total y))

  -- the sums of four stretches
  total_four : (a x y b : List (Vector R)) → total (a ++ (x ++ (y ++ b))) ≡ both (total a) (both (total x) (both (total y) (total b)))
  total_four a x y b = total_both O L Q a (x ++ (y ++ b)) ∙ ap (both (total a)) (total_both O L Q x (y ++ b) ∙ ap (both (total x)) (total_both O L Q y b))

  -- in another order
  regroup : (a x y b : Vector R) → both (both x y) (both b a) ≡ both a (both x (both y b))
  regroup a x y b = λ i. (
    identity O L (a.0 ∷ x.0 ∷ y.0 ∷ b.0 ∷ []) (var 1 +' var 2 +' (var 3 +' var 0)) (var 0 +' (var 1 +' (var 2 +' var 3))) tt i,
    identity O L (a.1 ∷ x.1 ∷ y.1 ∷ b.1 ∷ []) (var 1 +' var 2 +' (var 3 +' var 0)) (var 0 +' (var 1 +' (var 2 +' var 3))) tt i,
  )

  -- two stretches and the rest of a closed list sum to zero
  pub closed_four : (l a x y b : List (Vector R)) → l ≡ a ++ (x ++ (y ++ b)) → total l ≡ none → both (both (total x) (total y)) (both (total b) (total a)) ≡ none
  closed_four l a x y b e closed = regroup (total a) (total x) (total y) (total b) ∙ sym (total_four a x y b) ∙ ap total (sym e) ∙ closed

  -- a closed list that turns through the upper half and then through the lower is in convex position
  pub halves_convex : (U W : List (Vector R)) → AllByRecursion Upper U → Sorted U → AllByRecursion Lower W → Sorted W → total (U ++ W) ≡ none → InConvexPosition (U ++ W)
  halves_convex U W all sorted all' sorted' closed a x y b e = elim (meet U W a (x ++ (y ++ b)) e) [
    | inl h ↦ inner_second W h.0 (subst Sorted h.2 sorted')
    | inr h ↦ elim (meet h.0 W x (y ++ b) (sym h.2)) [
      | inl k ↦
          subst (λ v. NN (det v (total y))) (sym (ap total k.1 ∙ total_both O L Q h.0 k.0))
          (turn_before O L Q Upper Lower (upper_half O L Q) (lower_half O L Q) (lower_flips O L Q) a h.0 k.0 y b
          (subst (AllByRecursion Upper) h.1 all) (subst Sorted h.1 sorted)
          (subst (AllByRecursion Lower) k.2 all') (subst Sorted k.2 sorted')
          (ap (λ v. both (both v (total y)) (both (total b) (total a))) (sym (ap total k.1 ∙ total_both O L Q h.0 k.0)) ∙ closed_four (U ++ W) a x y b e closed))
      | inr k ↦ elim (meet k.0 W y b (sym k.2)) [
        | inl j ↦
            subst (λ v. NN (det (total x) v)) (sym (ap total j.1 ∙ total_both O L Q k.0 j.0))
            (turn_after O L Q Upper Lower (upper_half O L Q) (lower_half O L Q) (upper_flips O L Q) a x k.0 j.0 b
            (subst (AllByRecursion Upper) (h.1 ∙ ap (λ z. a ++ z) k.1) all) (subst Sorted (h.1 ∙ ap (λ z. a ++ z) k.1) sorted)
            (subst (AllByRecursion Lower) j.2 all') (subst Sorted j.2 sorted')
            (ap (λ v. both (both (total x) v) (both (total b) (total a))) (sym (ap total j.1 ∙ total_both O L Q k.0 j.0)) ∙ closed_four (U ++ W) a x y b e closed))
        | inr j ↦
            inner_first j.0 (subst Sorted (h.1 ∙ ap (λ z. a ++ z) (k.1 ∙ ap (λ z. x ++ z) j.1)) sorted)
      ]
    ]
  ]
    where
      prefix : (c d e' : List (Vector R)) → Sorted (c ++ (d ++ e')) → Sorted (c ++ d)
      prefix c d e' h = sorted_first O L Q (c ++ d) e' (subst Sorted (sym (append_assoc c d e')) h)

      inner_second : (W m : List (Vector R)) → Sorted (m ++ (x ++ (y ++ b))) → NN (det (total x) (total y))
      inner_second W m h = sorted_sums O L Q x y (prefix x y b (sorted_second O L Q m (x ++ (y ++ b)) h))

      inner_first : (j : List (Vector R)) → Sorted (a ++ (x ++ (y ++ j))) → NN (det (total x) (total y))
      inner_first j h = sorted_sums O L Q x y (prefix x y j (sorted_second O L Q a (x ++ (y ++ j)) h))

  -- a sum doesn't depend on the order of its parts
  pub total_turned : (p q : List (Vector R)) → total (q ++ p) ≡ total (p ++ q)
  total_turned p q = total_both O L Q q p ∙ (λ i. (
    identity O L ((total p).0 ∷ (total q).0 ∷ []) (var 1 +' var 0) (var 0 +' var 1) tt i,
    identity O L ((total p).1 ∷ (total q).1 ∷ []) (var 1 +' var 0) (var 0 +' var 1) tt i,
  )) ∙ sym (total_both O L Q p q)

  -- a closed list in convex position that begins elsewhere
  pub convex_turned : (p q : List (Vector R)) → total (p ++ q) ≡ none → InConvexPosition (p ++ q) → InConvexPosition (q ++ p)
  convex_turned p q closed convex a x y b e = elim (meet q p a (x ++ (y ++ b)) e) [
    | inl h ↦ convex h.0 x y (b ++ q) (ap (λ z. z ++ q) h.2 ∙ move h.0)
    | inr h ↦ elim (meet h.0 p x (y ++ b) (sym h.2)) [
      | inl k ↦
          -- the boundary lies in x
          subst NN (det_closed_second O L (total x) (total y) (both (total b) (total a)) (closed_four (q ++ p) a x y b e closed'))
          (subst (λ v. NN (det (total y) v)) (total_both O L Q b a)
          (convex k.0 y (b ++ a) h.0 (
          ap (λ z. p ++ z) h.1 ∙ ap (λ z. z ++ (a ++ h.0)) k.2 ∙ append_assoc k.0 (y ++ b) (a ++ h.0) ∙ ap (λ z. k.0 ++ z) (append_assoc y b (a ++ h.0) ∙ ap (λ z. y ++ z) (sym (append_assoc b a h.0)))
          )))
      | inr k ↦ elim (meet k.0 p y b (sym k.2)) [
        | inl j ↦
            -- the boundary lies in y
            subst NN (det_closed_third O L (total x) (total y) (both (total b) (total a)) (closed_four (q ++ p) a x y b e closed'))
            (subst (λ v. NN (det v (total x))) (total_both O L Q b a)
            (convex j.0 (b ++ a) x k.0 (
            ap (λ z. p ++ z) (h.1 ∙ ap (λ z. a ++ z) k.1) ∙ ap (λ z. z ++ (a ++ (x ++ k.0))) j.2 ∙ append_assoc j.0 b (a ++ (x ++ k.0))
            ∙ ap (λ z. j.0 ++ z) (sym (append_assoc b a (x ++ k.0)))
            )))
        | inr j ↦
            convex (p ++ a) x y j.0 (
            ap (λ z. p ++ z) (h.1 ∙ ap (λ z. a ++ z) (k.1 ∙ ap (λ z. x ++ z) j.1)) ∙ sym (append_assoc p a (x ++ (y ++ j.0)))
            )
      ]
    ]
  ]
    where
      closed' : total (q ++ p) ≡ none
      closed' = total_turned p q ∙ closed

      move : (m : List (Vector R)) → (m ++ (x ++ (y ++ b))) ++ q ≡ m ++ (x ++ (y ++ (b ++ q)))
      move m = append_assoc m (x ++ (y ++ b)) q ∙ ap (λ z. m ++ z) (append_assoc x (y ++ b) q ∙ ap (λ z. x ++ z) (append_assoc y b q))

  -- two vectors in a list replaced by their sum
  pub total_merged : (p q : List (Vector R)) (u v : Vector R) → total (p ++ (u ∷ v ∷ q)) ≡ total (p ++ (both u v ∷ q))
  total_merged p q u v = total_both O L Q p (u ∷ v ∷ q) ∙ ap (both (total p)) (λ i. (
    identity O L (u.0 ∷ v.0 ∷ (total q).0 ∷ []) (var 0 +' (var 1 +' var 2)) (var 0 +' var 1 +' var 2) tt i,
    identity O L (u.1 ∷ v.1 ∷ (total q).1 ∷ []) (var 0 +' (var 1 +' var 2)) (var 0 +' var 1 +' var 2) tt i,
  )) ∙ sym (total_both O L Q p (both u v ∷ q))

  pub convex_merged : (p q : List (Vector R)) (u v : Vector R) → InConvexPosition (p ++ (u ∷ v ∷ q)) → InConvexPosition (p ++ (both u v ∷ q))
  convex_merged p q u v convex a x y b e = elim (place p (both u v) q a (x ++ (y ++ b)) e) [
    | inl h ↦ convex (p ++ (u ∷ v ∷ h.0)) x y b (ap (λ z. p ++ (u ∷ v ∷ z)) h.2 ∙ sym (append_assoc p (u ∷ v ∷ h.0) (x ++ (y ++ b))))
    | inr h ↦ elim (place h.0 (both u v) q x (y ++ b) (sym h.2)) [
      | inl k ↦
          subst (λ w. NN (det w (total y))) (total_merged h.0 k.0 u v ∙ ap total (sym k.1))
          (convex a (h.0 ++ (u ∷ v ∷ k.0)) y b (
          ap (λ z. z ++ (u ∷ v ∷ q)) h.1 ∙ append_assoc a h.0 (u ∷ v ∷ q)
          ∙ ap (λ z. a ++ z) (ap (λ z. h.0 ++ (u ∷ v ∷ z)) k.2 ∙ sym (append_assoc h.0 (u ∷ v ∷ k.0) (y ++ b)))
          ))
      | inr k ↦ elim (place k.0 (both u v) q y b (sym k.2)) [
        | inl j ↦
            subst (λ w. NN (det (total x) w)) (total_merged k.0 j.0 u v ∙ ap total (sym j.1))
            (convex a x (k.0 ++ (u ∷ v ∷ j.0)) b (
            ap (λ z. z ++ (u ∷ v ∷ q)) (h.1 ∙ ap (λ z. a ++ z) k.1) ∙ append_assoc a (x ++ k.0) (u ∷ v ∷ q)
            ∙ ap (λ z. a ++ z) (append_assoc x k.0 (u ∷ v ∷ q) ∙ ap (λ z. x ++ z) (ap (λ z. k.0 ++ (u ∷ v ∷ z)) j.2 ∙ sym (append_assoc k.0 (u ∷ v ∷ j.0) b)))
            ))
        | inr j ↦
            convex a x y (j.0 ++ (u ∷ v ∷ q)) (
            ap (λ z. z ++ (u ∷ v ∷ q)) (h.1 ∙ ap (λ z. a ++ z) (k.1 ∙ ap (λ z. x ++ z) j.1)) ∙ append_assoc a (x ++ (y ++ j.0)) (u ∷ v ∷ q)
            ∙ ap (λ z. a ++ z) (append_assoc x (y ++ j.0) (u ∷ v ∷ q) ∙ ap (λ z. x ++ z) (append_assoc y j.0 (u ∷ v ∷ q)))
            )
      ]
    ]
  ]

  -- ---- a list that rises once, at its seam
  -- from u to v there is no turn to the right, and no rise from the lower half to the upper
  abbrev pub Goes : Vector R → Vector R → Type 0
  Goes u v = NN (det u v) × ¬ ((¬ (Upper u)) × Upper v)

  -- what stands behind a lower vector is lower
  all_lower : (v : Vector R) (l : List (Vector R)) → Lower v → AllByRecursion (λ w. ¬ (w ≡ none)) l → Chain Goes (v ∷ l) → AllByRecursion Lower l
  all_lower v [] low nonzero chain = tt
  all_lower v (w ∷ l) low nonzero chain = go (upper_or_lower O L Q w nonzero.0) (λ h. all_lower w l h nonzero.1 chain.1)
    where
      go : Upper w ⊎ Lower w → (Lower w → AllByRecursion Lower l) → AllByRecursion Lower (w ∷ l)
      go (inl h) rest = absurd (chain.0.1 ((λ up. upper_once O L Q v up low), h))
      go (inr h) rest = (h, rest h)

  -- a list of upper vectors, and then of lower ones
  pub record Halves (l : List (Vector R)) : Type 0 where
    pub U : List (Vector R)
    pub W : List (Vector R)
    pub parts : l ≡ U ++ W
    pub upper : AllByRecursion Upper U
    pub lower : AllByRecursion Lower W

  pub halves_of : (u : Vector R) (l : List (Vector R)) → Upper u → AllByRecursion (λ w. ¬ (w ≡ none)) l → Chain Goes (u ∷ l) → Halves (u ∷ l)
  halves_of u [] up nonzero chain = record { U = u ∷ []; W = []; parts = refl; upper = (up, tt); lower = tt }
  halves_of u (v ∷ l) up nonzero chain = go (upper_or_lower O L Q v nonzero.0) (λ h. halves_of v l h nonzero.1 chain.1)
    where
      go : Upper v ⊎ Lower v → (Upper v → Halves (v ∷ l)) → Halves (u ∷ v ∷ l)
      go (inl h) rest =
          let r = rest h in
          record { U = u ∷ r.U; W = r.W; parts = ap (λ z. u ∷ z) r.parts; upper = (up, r.upper); lower = r.lower }
      go (inr h) rest = record { U = u ∷ []; W = v ∷ l; parts = refl; upper = (up, tt); lower = (h, all_lower v l h nonzero.1 chain.1) }

  -- ---- chains
  pub chain_second : (E : Vector R → Vector R → Type 0) (x y : List (Vector R)) → Chain E (x ++ y) → Chain E y
  chain_second E [] y h = h
  chain_second E (u ∷ []) [] h = tt
  chain_second E (u ∷ []) (v ∷ y) h = h.1
  chain_second E (u ∷ v ∷ x) y h = chain_second E (v ∷ x) y h.1

  pub chain_first : (E : Vector R → Vector R → Type 0) (x y : List (Vector R)) → Chain E (x ++ y) → Chain E x
  chain_first E [] y h = tt
  chain_first E (u ∷ []) y h = tt
  chain_first E (u ∷ v ∷ x) y h = (h.0, chain_first E (v ∷ x) y h.1)

  pub chain_map : (E F : Vector R → Vector R → Type 0) → ((u v : Vector R) → E u v → F u v) → (l : List (Vector R)) → Chain E l → Chain F l
  chain_map E F f [] h = tt
  chain_map E F f (u ∷ []) h = tt
  chain_map E F f (u ∷ v ∷ l) h = (f u v h.0, chain_map E F f (v ∷ l) h.1)

  -- where each vector of a list and the next one are related, wherever they stand
  pub chain_of : (E : Vector R → Vector R → Type 0) (l : List (Vector R)) → ((a : List (Vector R)) (u v : Vector R) (b : List (Vector R)) → l ≡ a ++ (u ∷ v ∷ b) → E u v) → Chain E l
  chain_of E [] f = tt
  chain_of E (u ∷ []) f = tt
  chain_of E (u ∷ v ∷ l) f = (f [] u v l refl, chain_of E (v ∷ l) (λ a x y b e. f (u ∷ a) x y b (ap (λ z. u ∷ z) e)))

  -- a closed list of nonzero vectors that begins in the upper half, never turns to the right and never rises is in convex position
  pub rising_convex : (u : Vector R) (l : List (Vector R)) → Upper u → AllByRecursion (λ w. ¬ (w ≡ none)) l → Chain Goes (u ∷ l) → total (u ∷ l) ≡ none → InConvexPosition (u ∷ l)
  rising_convex u l up nonzero chain closed =
      let h : Halves (u ∷ l) = halves_of u l up nonzero chain in
      let turns : Chain (λ a b. NN (det a b)) (h.U ++ h.W) =
      subst (Chain (λ a b. NN (det a b))) h.parts (chain_map Goes (λ a b. NN (det a b)) (λ a b g. g.0) (u ∷ l) chain) in
      subst InConvexPosition (sym h.parts)
      (halves_convex h.U h.W
      h.upper (chain_sorted O L Q Upper (upper_half O L Q) h.U h.upper (chain_first (λ a b. NN (det a b)) h.U h.W turns))
      h.lower (chain_sorted O L Q Lower (lower_half O L Q) h.W h.lower (chain_second (λ a b. NN (det a b)) h.U h.W turns))
      (ap total (sym h.parts) ∙ closed))
