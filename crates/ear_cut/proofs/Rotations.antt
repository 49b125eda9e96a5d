-- Lists that are begun at another place, round the end, and what one element in the place of two leaves of them.
use Rattle.std.proofs.Common.{◌≡◌, ℕ, zero, suc, ◌+◌, ◌-◌, ◌%◌, ◌<◌, ◌≤◌, List, [], ◌∷◌, ◌++◌, length, get_or, set, take, drop, refl, ap, sym, ◌∙◌, subst, arith, inl, inr}
use Rattle.std.specs.Prelude.{remove}
use Rattle.std.specs.List.{AllByRecursion}
use Rattle.std.proofs.lemmas.Bool.{cases_lt}
use Rattle.std.proofs.lemmas.List.{length-append, get_or_append_left, get_or-append-add, take-append-drop, drop_more, drop_all, length-take-le}
use Rattle.std.proofs.lemmas.List.Edits.{remove-append_right}
use Rattle.std.proofs.Math.Nat.{mod-eq_of_lt, mod_self, add-mod_left}
use Rattle.std.proofs.Math.Seq.{set-append_seam}
use Rattle.ear_cut.specs.Cuttings.{replaced}
use Rattle.ear_cut.proofs.Splits.{all_both, all_first, all_second}

module _ {X : Type 0} where
  -- m is the list l, begun at another place
  pub record IsRotated (l m : List X) : Type 0 where
    pub front : List X
    pub behind : List X
    pub parts : l ≡ front ++ behind
    pub turned : m ≡ behind ++ front

  -- and l is m, begun at another place
  pub rotated_back : (l m : List X) → IsRotated l m → IsRotated m l
  rotated_back l m r = record { front = r.behind; behind = r.front; parts = r.turned; turned = r.parts }

  pub rotated-length : (l m : List X) → IsRotated l m → length m ≡ length l
  rotated-length l m r =
      omega (arith, ap length r.parts, ap length r.turned, length-append r.front r.behind, length-append r.behind r.front)

  -- what holds of each element holds of each, wherever the list begins
  pub rotated_all : (F : X → Type 0) (l m : List X) → IsRotated l m → AllByRecursion F l → AllByRecursion F m
  rotated_all F l m r all =
      let whole = subst (AllByRecursion F) r.parts all in
      subst (AllByRecursion F) (sym r.turned) (all_both F r.behind r.front (all_second F r.front r.behind whole) (all_first F r.front r.behind whole))

  -- element k of a list that is begun elsewhere
  pub rotated_at : (l m : List X) (r : IsRotated l m) (k : ℕ) (d : X) → k < length l → get_or m k d ≡ get_or l ((length r.front + k) % length l) d
  rotated_at l m r k d below =
      let long : length l ≡ length r.front + length r.behind = ap length r.parts ∙ length-append r.front r.behind in
      ap (λ xs. get_or xs k d) r.turned ∙ elim (cases_lt k (length r.behind)) [
        | inl inside ↦
            let place : (length r.front + k) % length l ≡ length r.front + k = mod-eq_of_lt (omega arith) in
            get_or_append_left r.behind r.front d k inside
            ∙ sym (ap (λ n. get_or l n d) place ∙ ap (λ xs. get_or xs (length r.front + k) d) r.parts ∙ get_or-append-add r.front r.behind k d)
        | inr outside ↦
            let j = k - length r.behind in
            let here : k ≡ length r.behind + j = omega arith in
            let round : length r.front + k ≡ length l + j = omega arith in
            let under : j < length r.front = omega arith in
            let place : (length r.front + k) % length l ≡ j = ap (λ n. n % length l) round ∙ add-mod_left (length l) j ∙ mod-eq_of_lt (omega arith) in
            ap (λ n. get_or (r.behind ++ r.front) n d) here ∙ get_or-append-add r.behind r.front j d
            ∙ sym (ap (λ n. get_or l n d) place ∙ ap (λ xs. get_or xs j d) r.parts ∙ get_or_append_left r.front r.behind d j under)
      ]

  -- ---- one element in the place of two
  -- x stands in ys in the place of a, and b, which stood after it round the end, is gone; begun there, the lists go on alike
  pub record IsReplaced (xs : List X) (a b x : X) (ys : List X) : Type 0 where
    pub rest : List X
    pub whole : IsRotated xs (a ∷ b ∷ rest)
    pub left : IsRotated ys (x ∷ rest)

  replaced_inner : (p q : List X) (u v w : X) → replaced (p ++ (u ∷ v ∷ q)) (length p) w ≡ p ++ (w ∷ q)
  replaced_inner p q u v w =
      let xs = p ++ (w ∷ v ∷ q) in
      let place : (length p + 1) % length (p ++ (u ∷ v ∷ q)) ≡ length p + 1 = mod-eq_of_lt (omega (arith, length-append p (u ∷ v ∷ q))) in
      let one : length p + 1 - length p ≡ 1 = omega arith in
      ap (λ n. remove (set (p ++ (u ∷ v ∷ q)) (length p) w) n) place
      ∙ ap (λ ys. remove ys (length p + 1)) (set-append_seam p u (v ∷ q) w)
      ∙ remove-append_right p (w ∷ v ∷ q) (length p) (length p + 1) refl (omega arith)
      ∙ ap (λ n. p ++ remove (w ∷ v ∷ q) n) one

  replaced_seam : (m : List X) (u v w : X) → replaced (v ∷ (m ++ (u ∷ []))) (suc (length m)) w ≡ m ++ (w ∷ [])
  replaced_seam m u v w =
      let whole : suc (length m) + 1 ≡ length (v ∷ (m ++ (u ∷ []))) = omega (arith, length-append m (u ∷ [])) in
      let place : (suc (length m) + 1) % length (v ∷ (m ++ (u ∷ []))) ≡ 0 =
      ap (λ n. n % length (v ∷ (m ++ (u ∷ [])))) whole ∙ mod_self (length (v ∷ (m ++ (u ∷ [])))) in
      ap (λ n. remove (set (v ∷ (m ++ (u ∷ []))) (suc (length m)) w) n) place ∙ set-append_seam m u [] w

  -- a list, split at two of its elements, or at its last and its first
  split_one : (xs : List X) (i : ℕ) (d : X) → i < length xs → xs ≡ take i xs ++ get_or xs i d ∷ drop (i + 1) xs
  split_one xs i d below = sym (take-append-drop i xs) ∙ ap (λ rest. take i xs ++ rest) (drop_more xs i d below)

  split_two : (xs : List X) (i : ℕ) (d : X) → i + 1 < length xs → xs ≡ take i xs ++ get_or xs i d ∷ get_or xs (i + 1) d ∷ drop (i + 2) xs
  split_two xs i d below =
      let more : drop (i + 1) xs ≡ get_or xs (i + 1) d ∷ drop (i + 1 + 1) xs = drop_more xs (i + 1) d below in
      let same : i + 1 + 1 ≡ i + 2 = omega arith in
      split_one xs i d (omega arith) ∙ ap (λ rest. take i xs ++ get_or xs i d ∷ rest) (more ∙ ap (λ n. get_or xs (i + 1) d ∷ drop n xs) same)

  split_ends : (xs : List X) (i : ℕ) (d : X) → length xs ≡ suc i → 1 ≤ i → xs ≡ get_or xs 0 d ∷ (drop 1 (take i xs) ++ get_or xs i d ∷ [])
  split_ends [] i d long some = absurd (omega arith)
  split_ends (x ∷ xs) zero d long some = absurd (omega arith)
  split_ends (x ∷ xs) (suc j) d long some =
      ap (λ rest. x ∷ rest) (split_one xs j d (omega arith) ∙ ap (λ rest. take j xs ++ get_or xs j d ∷ rest) (drop_all (j + 1) xs (omega arith)))

  -- the two lists, begun at place i
  pub record IsReplacedAt (xs : List X) (i : ℕ) (a b x : X) (ys : List X) : Type 0 where
    pub parts : IsReplaced xs a b x ys
    pub place : length parts.whole.front ≡ i

  at_inner : (p q : List X) (u v w : X) (xs : List X) (i : ℕ) → xs ≡ p ++ (u ∷ v ∷ q) → length p ≡ i → IsReplacedAt xs i u v w (replaced xs i w)
  at_inner p q u v w xs i e long = record {
    parts = record {
      rest = q ++ p;
      whole = record { front = p; behind = u ∷ v ∷ q; parts = e; turned = refl };
      left = record { front = p; behind = w ∷ q; parts = ap (λ zs. replaced zs i w) e ∙ ap (λ n. replaced (p ++ (u ∷ v ∷ q)) n w) (sym long) ∙ replaced_inner p q u v w; turned = refl };
    };
    place = long;
  }

  at_seam : (m : List X) (u v w : X) (xs : List X) (i : ℕ) → xs ≡ v ∷ (m ++ (u ∷ [])) → suc (length m) ≡ i → IsReplacedAt xs i u v w (replaced xs i w)
  at_seam m u v w xs i e long = record {
    parts = record {
      rest = m;
      whole = record { front = v ∷ m; behind = u ∷ []; parts = e; turned = refl };
      left = record { front = m; behind = w ∷ []; parts = ap (λ zs. replaced zs i w) e ∙ ap (λ n. replaced (v ∷ (m ++ (u ∷ []))) n w) (sym long) ∙ replaced_seam m u v w; turned = refl };
    };
    place = long;
  }

  pub replaced_at : (xs : List X) (i : ℕ) (d x : X) → i < length xs → 2 ≤ length xs → IsReplacedAt xs i (get_or xs i d) (get_or xs ((i + 1) % length xs) d) x (replaced xs i x)
  replaced_at xs i d x below long =
      elim (cases_lt (i + 1) (length xs)) [
        | inl less ↦
            let place : (i + 1) % length xs ≡ i + 1 = mod-eq_of_lt less in
            subst (λ n. IsReplacedAt xs i (get_or xs i d) (get_or xs n d) x (replaced xs i x)) (sym place)
            (at_inner (take i xs) (drop (i + 2) xs) (get_or xs i d) (get_or xs (i + 1) d) x xs i (split_two xs i d less) (length-take-le i xs (omega arith)))
        | inr last ↦
            let whole : i + 1 ≡ length xs = omega arith in
            let place : (i + 1) % length xs ≡ 0 = ap (λ n. n % length xs) whole ∙ mod_self (length xs) in
            let split = split_ends xs i d (omega arith) (omega arith) in
            let middle = drop 1 (take i xs) in
            subst (λ n. IsReplacedAt xs i (get_or xs i d) (get_or xs n d) x (replaced xs i x)) (sym place)
            (at_seam middle (get_or xs i d) (get_or xs 0 d) x xs i split (omega (arith, ap length split, length-append middle (get_or xs i d ∷ []))))
      ]
