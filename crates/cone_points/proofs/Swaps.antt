-- A permutation followed by an exchange of two numbers has one orbit more or one less.
use Rattle.std.proofs.Common.{◌≡◌, ℕ, zero, suc, ◌-◌, ◌<◌, ◌≤◌, subst, sym, ap, ◌∙◌, refl, arith}
use Rattle.std.specs.Prelude.{◌⊎◌, ◌↔◌}
use mathlib.Core.Logic.{inl, inr}
use Rattle.std.proofs.lemmas.Bool.{cases_eq}
use Rattle.rings.proofs.Pigeonhole.{first_below}
use Rattle.cone_points.proofs.Orbits.{IsPermutation, often, Reaches, IsLeast, reaches_trans, often_below, often_sum, reaches_sym, Period, period, Leader, leader}

-- g is f, and then a and b exchanged
pub record AreSwapped (n : ℕ) (f g : ℕ → ℕ) (a b : ℕ) : Type 0 where
  pub first : (x : ℕ) → x < n → f x ≡ a → g x ≡ b
  pub second : (x : ℕ) → x < n → f x ≡ b → g x ≡ a
  pub others : (x : ℕ) → x < n → ¬ (f x ≡ a) → ¬ (f x ≡ b) → g x ≡ f x

-- the same with the names of a and b exchanged
pub swapped_turned : (n : ℕ) (f g : ℕ → ℕ) (a b : ℕ) → AreSwapped n f g a b → AreSwapped n f g b a
swapped_turned n f g a b h = record { first = h.second; second = h.first; others = λ x inside na nb. h.others x inside nb na }

-- and f is g, and then a and b exchanged
pub swapped_back : (n : ℕ) (f g : ℕ → ℕ) (a b : ℕ) → ¬ (a ≡ b) → AreSwapped n f g a b → AreSwapped n g f a b
swapped_back n f g a b apart h = record { first = first; second = second; others = others }
  where
    first : (x : ℕ) → x < n → g x ≡ a → f x ≡ b
    first x inside e = elim (cases_eq (f x) b) [
      | inl k ↦ k
      | inr nb ↦ elim (cases_eq (f x) a) [
        | inl k ↦ absurd (apart (sym e ∙ h.first x inside k))
        | inr na ↦ absurd (na (sym (h.others x inside na nb) ∙ e))
      ]
    ]

    second : (x : ℕ) → x < n → g x ≡ b → f x ≡ a
    second x inside e = elim (cases_eq (f x) a) [
      | inl k ↦ k
      | inr na ↦ elim (cases_eq (f x) b) [
        | inl k ↦ absurd (apart (sym (h.second x inside k) ∙ e))
        | inr nb ↦ absurd (nb (sym (h.others x inside na nb) ∙ e))
      ]
    ]

    others : (x : ℕ) → x < n → ¬ (g x ≡ a) → ¬ (g x ≡ b) → f x ≡ g x
    others x inside na nb = elim (cases_eq (f x) a) [
      | inl k ↦ absurd (nb (h.first x inside k))
      | inr na' ↦ elim (cases_eq (f x) b) [
        | inl k ↦ absurd (na (h.second x inside k))
        | inr nb' ↦ sym (h.others x inside na' nb')
      ]
    ]

-- ---- a and b in different orbits of f
module _ (n : ℕ) (f g : ℕ → ℕ) (perm : IsPermutation n f) (other : IsPermutation n g) (a b : ℕ) (a_below : a < n) (b_below : b < n) (swapped : AreSwapped n f g a b)
    (apart : ¬ (Reaches f a b)) where
  never_from_b : ¬ (Reaches f b a)
  never_from_b h = apart (reaches_sym n f perm b a b_below h)

  -- the orbit of b leads to a by g
  b_to_a : Reaches g b a
  b_to_a = reach (period n f perm b b_below)
    where
      same : (p : ℕ) → ((k : ℕ) → 1 ≤ k → k < p → ¬ (often f k b ≡ b)) → (i : ℕ) → i < p → often g i b ≡ often f i b
      same p least zero inside = refl
      same p least (suc i) inside =
          ap g (same p least i (omega (arith, inside)))
          ∙ swapped.others (often f i b) (often_below n f perm i b b_below) (λ e. never_from_b (suc i, e)) (least (suc i) (omega arith) inside)

      reach : Period n f perm b → Reaches g b a
      reach w = last w.0 w.1 w.3 w.4
        where
          last : (p : ℕ) → 1 ≤ p → often f p b ≡ b → ((k : ℕ) → 1 ≤ k → k < p → ¬ (often f k b ≡ b)) → Reaches g b a
          last zero one e least = absurd (omega (arith, one))
          last (suc i) one e least = (suc i, ap g (same (suc i) least i (omega arith)) ∙ swapped.second (often f i b) (often_below n f perm i b b_below) e)

  a_to_b : Reaches g a b
  a_to_b = reaches_sym n g other b a b_below b_to_a

  -- a step of f is made by g
  step : (x : ℕ) → x < n → Reaches g x (f x)
  step x inside = elim (cases_eq (f x) a) [
    | inl e ↦ subst (Reaches g x) (sym e) (reaches_trans g x b a (1, swapped.first x inside e) b_to_a)
    | inr na ↦ elim (cases_eq (f x) b) [
      | inl e ↦ subst (Reaches g x) (sym e) (reaches_trans g x a b (1, swapped.second x inside e) a_to_b)
      | inr nb ↦ (1, swapped.others x inside na nb)
    ]
  ]

  -- what f reaches, g reaches
  pub reached_too : (x y : ℕ) → x < n → Reaches f x y → Reaches g x y
  reached_too x y inside h = subst (Reaches g x) h.1 (go h.0)
    where
      go : (m : ℕ) → Reaches g x (often f m x)
      go zero = (0, refl)
      go (suc m) = reaches_trans g x (often f m x) (f (often f m x)) (go m) (step (often f m x) (often_below n f perm m x inside))

  -- the least numbers of both orbits
  abbrev pub A : Leader n f perm a
  A = leader n f perm a a_below

  abbrev pub B : Leader n f perm b
  B = leader n f perm b b_below

  -- the orbits that g joins
  abbrev OfEither : ℕ → Type 0
  OfEither x = Reaches f x a ⊎ Reaches f x b

  -- what g reaches, f reaches, or both numbers are of the joined orbits
  pub reached_within : (x y : ℕ) → x < n → Reaches g x y → Reaches f x y ⊎ (OfEither x × OfEither y)
  reached_within x y inside h = subst (λ k. Reaches f x k ⊎ (OfEither x × OfEither k)) h.1 (go h.0)
    where
      next : (z : ℕ) → z < n → Reaches f x z ⊎ (OfEither x × OfEither z) → (f z ≡ a) ⊎ ¬ (f z ≡ a) → (f z ≡ b) ⊎ ¬ (f z ≡ b) → Reaches f x (g z) ⊎ (OfEither x × OfEither (g z))
      next z zn (inl r) (inl e) _ =
          inr (inl (reaches_trans f x z a r (1, e)), subst OfEither (sym (swapped.first z zn e)) (inr (0, refl)))
      next z zn (inl r) (inr na) (inl e) =
          inr (inr (reaches_trans f x z b r (1, e)), subst OfEither (sym (swapped.second z zn e)) (inl (0, refl)))
      next z zn (inl r) (inr na) (inr nb) = inl (subst (Reaches f x) (sym (swapped.others z zn na nb)) (reaches_trans f x z (f z) r (1, refl)))
      next z zn (inr r) (inl e) _ = inr (r.0, subst OfEither (sym (swapped.first z zn e)) (inr (0, refl)))
      next z zn (inr r) (inr na) (inl e) = inr (r.0, subst OfEither (sym (swapped.second z zn e)) (inl (0, refl)))
      next z zn (inr r) (inr na) (inr nb) = inr (r.0, subst OfEither (sym (swapped.others z zn na nb)) (onward r.1))
        where
          back : Reaches f (f z) z
          back = reaches_sym n f perm z (f z) zn (1, refl)

          onward : OfEither z → OfEither (f z)
          onward (inl h) = inl (reaches_trans f (f z) z a back h)
          onward (inr h) = inr (reaches_trans f (f z) z b back h)

      go : (m : ℕ) → Reaches f x (often g m x) ⊎ (OfEither x × OfEither (often g m x))
      go zero = inl (0, refl)
      go (suc m) =
          let z = often g m x in
          next z (often_below n g other m x inside) (go m) (cases_eq (f z) a) (cases_eq (f z) b)

  -- where the orbit of a has the lesser least number: g's orbits have the same least numbers as f's, but for that of b's orbit
  pub one_less : A.v < B.v → (x : ℕ) → x < n → IsLeast g x ↔ (IsLeast f x × ¬ (x ≡ B.v))
  one_less lesser x inside = (to, from)
    where
      to : IsLeast g x → IsLeast f x × ¬ (x ≡ B.v)
      to h = (λ k r. h k (reached_too x k inside r), λ e. omega (arith, e, lesser, h A.v (joined e)))
        where
          joined : x ≡ B.v → Reaches g x A.v
          joined e =
              reaches_trans g x b A.v (reached_too x b inside (subst (λ k. Reaches f k b) (sym e) (reaches_sym n f perm b B.v b_below B.reached)))
              (reaches_trans g b a A.v b_to_a (reached_too a A.v a_below A.reached))

      -- the least number of the joined orbits is that of a's
      lower : IsLeast f x → ¬ (x ≡ B.v) → OfEither x → (y : ℕ) → OfEither y → y < n → x ≤ y
      lower h other (inr r) y _ _ = absurd (other (omega (arith, h B.v (reaches_trans f x b B.v r B.reached), B.least x (reaches_sym n f perm x b inside r))))
      lower h other (inl r) y (inl s) yn = omega (arith, h A.v (reaches_trans f x a A.v r A.reached), A.least y (reaches_sym n f perm y a yn s))
      lower h other (inl r) y (inr s) yn = omega (arith, h A.v (reaches_trans f x a A.v r A.reached), B.least y (reaches_sym n f perm y b yn s), lesser)

      from : IsLeast f x × ¬ (x ≡ B.v) → IsLeast g x
      from h y r = elim (reached_within x y inside r) [
        | inl s ↦ h.0 y s
        | inr s ↦ lower h.0 h.1 s.0 y s.1 (subst (λ k. k < n) r.1 (often_below n g other r.0 x inside))
      ]

  -- the least number of b's orbit is one of f's
  pub lead_is_least : IsLeast f B.v
  lead_is_least k r = B.least k (reaches_trans f b B.v k B.reached r)

  pub leads_differ : ¬ (A.v ≡ B.v)
  leads_differ e =
      apart (reaches_trans f a A.v b A.reached (subst (λ k. Reaches f k b) (sym e) (reaches_sym n f perm b B.v b_below B.reached)))

-- ---- a and b in one orbit of f
-- the least number of steps from a to b
abbrev Steps : (ℕ → ℕ) → ℕ → ℕ → Type 0
Steps f a b = (k : ℕ) × (often f k a ≡ b) × ((i : ℕ) → i < k → ¬ (often f i a ≡ b))

least_steps : (f : ℕ → ℕ) (a b : ℕ) → Reaches f a b → Steps f a b
least_steps f a b reach = elim (first_below (λ k. often f k a ≡ b) (λ k. cases_eq (often f k a) b) (suc reach.0)) [
  | inl w ↦ (w.0, w.2, w.3)
  | inr none ↦ absurd (none reach.0 (omega arith) reach.1)
]

-- then they are in different orbits of g
pub split : (n : ℕ) (f g : ℕ → ℕ) → IsPermutation n f → (a b : ℕ) → a < n → ¬ (a ≡ b) → AreSwapped n f g a b → Reaches f a b → ¬ (Reaches g a b)
split n f g perm a b a_below apart swapped reach back = never w.0 w.1 w.2 back.0 back.1
  where
    w : Steps f a b
    w = least_steps f a b reach

    never : (k : ℕ) → often f k a ≡ b → ((i : ℕ) → i < k → ¬ (often f i a ≡ b)) → (i : ℕ) → often g i a ≡ b → ⊥
    never k e least i h = let s = go i in least s.0 s.1 (sym s.2 ∙ h)
      where
        positive : ¬ (k ≡ 0)
        positive z = apart (sym (ap (λ j. often f j a) z) ∙ e)

        never_back : (j : ℕ) → suc j < k → ¬ (often f (suc j) a ≡ a)
        never_back j below h =
            least (k - suc j) (omega (arith, below))
            (ap (often f (k - suc j)) (sym h) ∙ sym (often_sum f (k - suc j) (suc j) a) ∙ ap (λ m. often f m a) (omega (arith, below)) ∙ e)

        next : (z : ℕ) → (j : ℕ) × (j < k) × (z ≡ often f j a) → (j : ℕ) × (j < k) × (g z ≡ often f j a)
        next z s =
            let zn : z < n = subst (λ m. m < n) (sym s.2) (often_below n f perm s.0 a a_below) in
            elim (cases_eq (suc s.0) k) [
              | inl last ↦ (0, omega (arith, positive), swapped.second z zn (ap f s.2 ∙ ap (λ m. often f m a) last ∙ e))
              | inr more ↦
                  let below : suc s.0 < k = omega (arith, s.1, more) in
                  (suc s.0, below, swapped.others z zn (λ h. never_back s.0 below (sym (ap f s.2) ∙ h)) (λ h. least (suc s.0) below (sym (ap f s.2) ∙ h)) ∙ ap f s.2)
            ]

        go : (m : ℕ) → (j : ℕ) × (j < k) × (often g m a ≡ often f j a)
        go zero = (0, omega (arith, positive), refl)
        go (suc m) = next (often g m a) (go m)
