-- What a list with one element in the place of two keeps: lengths, sums of weights, and what holds of each element.
use Rattle.std.proofs.Common.{◌≡◌, ℕ, zero, suc, ◌+◌, ◌%◌, ◌<◌, ◌≤◌, List, [], ◌∷◌, ◌++◌, length, get_or, set, take, drop, map, ap, ap₂, sym, ◌∙◌, arith}
use Rattle.std.specs.Prelude.{remove}
use Rattle.std.specs.List.{AllByRecursion}
use Rattle.std.proofs.lemmas.List.{map-append, map-set, length-map, length-set, take-map, drop-map, get_or-set_other}
use Rattle.std.proofs.lemmas.List.Edits.{get_or-remove_below, get_or-remove_above}
use Rattle.std.proofs.Math.Nat.{mod-eq_of_lt}
use Rattle.ear_cut.specs.Cuttings.{replaced}
use Rattle.ear_cut.specs.Steps.{total}
use Rattle.ear_cut.proofs.Rotations.{IsRotated, rotated_back, rotated-length, rotated_all, IsReplaced, replaced_at}

pub replaced_cases : {X : Type 0} (xs : List X) (i : ℕ) (d x : X) → i < length xs → 2 ≤ length xs → IsReplaced xs (get_or xs i d) (get_or xs ((i + 1) % length xs) d) x (replaced xs i x)
replaced_cases xs i d x below long = (replaced_at xs i d x below long).parts

remove-map : {X Y : Type 0} (f : X → Y) (xs : List X) (i : ℕ) → map f (remove xs i) ≡ remove (map f xs) i
remove-map f xs i = map-append f (take i xs) (drop (suc i) xs) ∙ ap₂ (λ front rest. front ++ rest) (sym (take-map f i xs)) (sym (drop-map f (suc i) xs))

pub replaced-map : {X Y : Type 0} (f : X → Y) (xs : List X) (i : ℕ) (x : X) → map f (replaced xs i x) ≡ replaced (map f xs) i (f x)
replaced-map f xs i x =
    remove-map f (set xs i x) ((i + 1) % length xs)
    ∙ ap₂ (λ ys n. remove ys ((i + 1) % n)) (map-set f xs i x) (sym (length-map xs f))

-- what stands before the new element, and behind the one that is gone, where both stand inside the list
pub replaced_before : {X : Type 0} (xs : List X) (i : ℕ) (x : X) (k : ℕ) (d : X) → i + 1 < length xs → k < i → get_or (replaced xs i x) k d ≡ get_or xs k d
replaced_before xs i x k d inside below =
    let place : (i + 1) % length xs ≡ i + 1 = mod-eq_of_lt inside in
    let other : ¬ (k ≡ i) = λ e. omega arith in
    ap (λ n. get_or (remove (set xs i x) n) k d) place
    ∙ get_or-remove_below (set xs i x) (i + 1) d k (omega arith) (omega (arith, length-set xs i x))
    ∙ get_or-set_other xs i k x d other

pub replaced_behind : {X : Type 0} (xs : List X) (i : ℕ) (x : X) (k : ℕ) (d : X) → i + 1 < length xs → i < k → get_or (replaced xs i x) k d ≡ get_or xs (k + 1) d
replaced_behind xs i x k d inside above =
    let place : (i + 1) % length xs ≡ i + 1 = mod-eq_of_lt inside in
    let other : ¬ (k + 1 ≡ i) = λ e. omega arith in
    ap (λ n. get_or (remove (set xs i x) n) k d) place
    ∙ get_or-remove_above (set xs i x) (i + 1) d k (omega arith) (omega (arith, length-set xs i x))
    ∙ get_or-set_other xs i (k + 1) x d other

-- weights
pub total-append : {X : Type 0} (w : X → ℕ) (xs ys : List X) → total w (xs ++ ys) ≡ total w xs + total w ys
total-append w [] ys = omega arith
total-append w (x ∷ xs) ys = omega (arith, total-append w xs ys)

total-rotated : {X : Type 0} (w : X → ℕ) (l m : List X) → IsRotated l m → total w m ≡ total w l
total-rotated w l m r = omega (arith, ap (total w) r.parts, ap (total w) r.turned, total-append w r.front r.behind, total-append w r.behind r.front)

pub replaced-total : {X : Type 0} (w : X → ℕ) (xs : List X) (a b x : X) (ys : List X) → IsReplaced xs a b x ys → total w ys + (w a + w b) ≡ total w xs + w x
replaced-total w xs a b x ys r = omega (arith, total-rotated w xs (a ∷ b ∷ r.rest) r.whole, total-rotated w ys (x ∷ r.rest) r.left)

-- the new element weighs no more than the list that is left
pub new_kept : {X : Type 0} (w : X → ℕ) (xs : List X) (a b x : X) (ys : List X) → IsReplaced xs a b x ys → w x ≤ total w ys
new_kept w xs a b x ys r = omega (arith, total-rotated w ys (x ∷ r.rest) r.left)

pub replaced-length : {X : Type 0} (xs : List X) (a b x : X) (ys : List X) → IsReplaced xs a b x ys → length ys + 1 ≡ length xs
replaced-length xs a b x ys r = omega (arith, rotated-length xs (a ∷ b ∷ r.rest) r.whole, rotated-length ys (x ∷ r.rest) r.left)

-- what holds of each element
pub each-append : {X : Type 0} (P : X → Type 0) (xs ys : List X) → AllByRecursion P xs → AllByRecursion P ys → AllByRecursion P (xs ++ ys)
each-append P [] ys p q = q
each-append P (x ∷ xs) ys p q = (p.0, each-append P xs ys p.1 q)

pub each-left : {X : Type 0} (P : X → Type 0) (xs ys : List X) → AllByRecursion P (xs ++ ys) → AllByRecursion P xs
each-left P [] ys p = tt
each-left P (x ∷ xs) ys p = (p.0, each-left P xs ys p.1)

pub each-right : {X : Type 0} (P : X → Type 0) (xs ys : List X) → AllByRecursion P (xs ++ ys) → AllByRecursion P ys
each-right P [] ys p = p
each-right P (x ∷ xs) ys p = each-right P xs ys p.1

pub each_at : {X : Type 0} (P : X → Type 0) (xs : List X) (i : ℕ) (d : X) → AllByRecursion P xs → i < length xs → P (get_or xs i d)
each_at P [] i d p below = absurd (omega arith)
each_at P (x ∷ xs) zero d p below = p.0
each_at P (x ∷ xs) (suc i) d p below = each_at P xs i d p.1 (omega arith)

pub each_from : {X : Type 0} (P : X → Type 0) (xs : List X) (d : X) → ((i : ℕ) → i < length xs → P (get_or xs i d)) → AllByRecursion P xs
each_from P [] d p = tt
each_from P (x ∷ xs) d p = (p 0 (omega arith), each_from P xs d (λ i below. p (suc i) (omega arith)))

-- of both, of the two that are replaced, and of the list that is left
pub record EachReplaced {X : Type 0} (P : X → Type 0) (a b : X) (ys : List X) : Type 0 where
  pub first : P a
  pub second : P b
  pub left : AllByRecursion P ys

pub each-replaced : {X : Type 0} (P : X → Type 0) (xs : List X) (a b x : X) (ys : List X) → IsReplaced xs a b x ys → AllByRecursion P xs → P x → EachReplaced P a b ys
each-replaced P xs a b x ys r p q =
    let all = rotated_all P xs (a ∷ b ∷ r.rest) r.whole p in
    record { first = all.0; second = all.1.0; left = rotated_all P (x ∷ r.rest) ys (rotated_back ys (x ∷ r.rest) r.left) (q, all.1.1) }

-- and back
pub each-whole : {X : Type 0} (P : X → Type 0) (xs : List X) (a b x : X) (ys : List X) → IsReplaced xs a b x ys → AllByRecursion P ys → P a → P b → AllByRecursion P xs
each-whole P xs a b x ys r p q s =
    let all = rotated_all P ys (x ∷ r.rest) r.left p in
    rotated_all P (a ∷ b ∷ r.rest) xs (rotated_back xs (a ∷ b ∷ r.rest) r.whole) (q, (s, all.1))

-- the new element is left
pub each-new : {X : Type 0} (P : X → Type 0) (xs : List X) (a b x : X) (ys : List X) → IsReplaced xs a b x ys → AllByRecursion P ys → P x
each-new P xs a b x ys r p = (rotated_all P ys (x ∷ r.rest) r.left p).0
