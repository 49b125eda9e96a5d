-- The matrices of a spanning tree's leads and of turns generate exactly the returning ones.
use Rattle.std.proofs.Common.{◌⊎◌, subst, inl, inr}
use mathlib.Core.Logic.{∥∥₁_elim, ∥∥₁_map, ∥∥₁_prop}
use Rattle.terrain.specs.Reach.{Path}
use Rattle.terrain.specs.Reach.Path.{start, on}
use Rattle.returning.proofs.Groups.{IsGroup, IsWord, empty, longer, divided, Returns, HasImages, HasClasses, InTree, at_root, found, IsList}

module _ {M : Type 0} {Same : M → M → Type 0} {mul : M → M → M} {one : M} {inv : M → M} (G : IsGroup Same mul one inv) where
  open G use {same_self, same_back, same_on, same_mul, assoc, one-mul, mul-one, inv-mul, mul-inv}

  -- (a·b)·b⁻¹ = a
  cancel_last : (a b : M) → Same (mul (mul a b) (inv b)) a
  cancel_last a b = same_on (assoc a b (inv b)) (same_on (same_mul (same_self a) (mul-inv b)) (mul-one a))

  -- a·(a⁻¹·b) = b
  cancel_first : (a b : M) → Same (mul a (mul (inv a) b)) b
  cancel_first a b = same_on (same_back (assoc a (inv a) b)) (same_on (same_mul (mul-inv a) (same_self b)) (one-mul b))

  -- a·c = b·c gives a = b
  pub cancel_right : (a b c : M) → Same (mul a c) (mul b c) → Same a b
  cancel_right a b c e = same_on (same_back (cancel_last a c)) (same_on (same_mul e (same_self (inv c))) (cancel_last b c))

  -- (a⁻¹)⁻¹ = a
  inverse_inverse : (a : M) → Same (inv (inv a)) a
  inverse_inverse a = cancel_right (inv (inv a)) a (inv a) (same_on (inv-mul (inv a)) (same_back (mul-inv a)))

  -- x·h = c·g gives (a·x)·h = (a·c)·g
  behind : (a x h c g : M) → Same (mul x h) (mul c g) → Same (mul (mul a x) h) (mul (mul a c) g)
  behind a x h c g e = same_on (assoc a x h) (same_on (same_mul (same_self a) e) (same_back (assoc a c g)))

  -- what is the same as a word is one
  word_same : (Member : M → Type 0) (a b : M) → IsWord Same mul one Member a → Same a b → IsWord Same mul one Member b
  word_same Member a b (empty _ e) s = empty b (same_on (same_back s) e)
  word_same Member a b (longer c g _ p m e) s = longer c g b p m (same_on e s)
  word_same Member a b (divided _ g c p m e) s = divided b g c p m (same_on (same_mul (same_back s) (same_self g)) e)

  -- a word times a member, or the identity, is a word
  word_member : (Member : M → Type 0) (a x : M) → IsWord Same mul one Member a → Member x ⊎ Same x one → IsWord Same mul one Member (mul a x)
  word_member Member a x p (inl m) = longer a x (mul a x) p m (same_self (mul a x))
  word_member Member a x p (inr e) = word_same Member a (mul a x) p (same_back (same_on (same_mul (same_self a) e) (mul-one a)))

  module _ {S : Type 0} {Image : M → S → S → Type 0} {Cross : S → S → Type 0} (I : HasImages Same mul one inv Image Cross) where
    -- what has an image is an image of itself
    image_self : {a : M} {s t : S} → Image a s t → Image one s s
    image_self {a = a} i = I.same (inv-mul a) (I.compose i (I.back i))

    -- s = b·r and t = (a·b)·r give t = a·s
    image_between : (a b : M) (r s t : S) → Image b r s → Image (mul a b) r t → Image a s t
    image_between a b r s t i j = I.same (cancel_last a b) (I.compose (I.back i) j)

    -- a path after a path
    join : {s t u : S} → Path Cross s t → Path Cross t u → Path Cross s u
    join p start = p
    join p (on q c) = on (join p q) c

    -- the image of a path is a path
    carry : {a : M} {s s' t : S} → Image a s s' → Path Cross s t → (t' : S) × Path Cross s' t' × Image a t t'
    carry {s' = s'} i start = (s', start, i)
    carry i (on p c) =
        let q = carry i p in
        let r = I.crossed q.2 c in
        (r.0, on q.1 r.1, r.2)

    -- from the end of a path a path leads back to a copy of its start
    back_path : {s t : S} → Image one s s → Path Cross s t → (s' : S) × Path Cross t s' × Image one s s'
    back_path {s = s} i start = (s, start, i)
    back_path {s = s} i (on p c) =
        let q = I.cross_back (image_self ((carry i p).2)) c in
        let r = back_path i p in
        let z = carry q.2 r.1 in
        (z.0, join (on start q.1) z.1, I.same (one-mul one) (I.compose r.2 z.2))

    module _ (base : S) (whole : Image one base base) where
      -- a matrix that takes one end of a path from the base to another returns
      transfer : (a : M) (s t : S) → Path Cross base s → Path Cross base t → Image a s t → Returns Image Cross base a
      transfer a s t p q i =
          let b = back_path whole p in
          let z = carry i b.1 in
          (z.0, join q z.1, I.same (mul-one a) (I.compose b.2 z.2))

      -- products of returning matrices return, and so do inverses
      returning_product : (a b : M) → Returns Image Cross base a → Returns Image Cross base b → Returns Image Cross base (mul a b)
      returning_product a b (s, p, i) (t, q, j) = let z = carry i q in (z.0, join p z.1, I.compose j z.2)

      returning_inverse : (a : M) → Returns Image Cross base a → Returns Image Cross base (inv a)
      returning_inverse a (s, p, i) = transfer (inv a) s base p start (I.back i)

      returning_same : (a b : M) → Same a b → Returns Image Cross base a → Returns Image Cross base b
      returning_same a b e (s, p, i) = (s, p, I.same e i)

      -- words in returning matrices return
      words_return : (Member : M → Type 0) → ((x : M) → Member x → ∥ Returns Image Cross base x ∥₁) → (a : M) → IsWord Same mul one Member a → ∥ Returns Image Cross base a ∥₁
      words_return Member each a (empty _ e) = ∣ returning_same one a (same_back e) (base, start, whole) ∣₁
      words_return Member each b (longer a g _ p m e) =
          ∥∥₁_elim (words_return Member each a p) ∥∥₁_prop (λ (r : Returns Image Cross base a).
          ∥∥₁_map (each g m) (λ (s : Returns Image Cross base g). returning_same (mul a g) b e (returning_product a g r s)))
      words_return Member each a (divided _ g b p m e) =
          ∥∥₁_elim (words_return Member each b p) ∥∥₁_prop (λ (r : Returns Image Cross base b).
          ∥∥₁_map (each g m) (λ (s : Returns Image Cross base g).
          returning_same (mul b (inv g)) a (same_on (same_mul (same_back e) (same_self (inv g))) (cancel_last a g))
          (returning_product b (inv g) r (returning_inverse g s))))

      module _ {Place : Type 0} {Known : Place → Type 0} {model : Place → S} {Lead : Place → Place → M → Type 0} {Turn : Place → M → Type 0}
          (K : HasClasses Same Image Cross Place Known model Lead Turn) (tree : Place → M) (root : Place) (known : Known root) (framed : Image (tree root) (model root) base)
        where
          -- an end of a path that is the image of the model of a place
          abbrev Ends : M → Place → Type 0
          Ends a c = (s : S) × Path Cross base s × Image a (model c) s

          -- an image of a model is crossed along a lead, and each crossing of it goes along a lead
          crossed_along : {a g : M} {c e : Place} {s : S} → Image a (model c) s → Lead c e g → ∥ ((t : S) × Cross s t × Image (mul a g) (model e) t) ∥₁
          crossed_along {g = g} {c = c} {e = e} i lead =
              ∥∥₁_map (K.lead_is lead) (λ (t : (t : S) × Cross (model c) t × Image g (model e) t).
              let u = I.crossed i t.1 in
              (u.0, u.1, I.compose t.2 u.2))

          each_crossing : {a : M} {c : Place} {s t : S} → Known c → Image a (model c) s → Cross s t → ∥ ((e : Place) × (g : M) × Lead c e g × Image (mul a g) (model e) t) ∥₁
          each_crossing {a = a} {c = c} k i cross =
              let u = I.crossed (I.back i) cross in
              ∥∥₁_map (K.each_lead k u.1) (λ (l : (e : Place) × (g : M) × Lead c e g × Image g (model e) u.0).
              (l.0, l.1, l.2, I.same (same_mul (inverse_inverse a) (same_self l.1)) (I.compose l.3 (I.back u.2))))

          -- for each place of the tree there is an end of a path that is its model's image by its matrix
          tree_ends : {c : Place} → InTree Same mul Lead tree root c → ∥ Ends (tree c) c ∥₁
          tree_ends at_root = ∣ (base, start, framed) ∣₁
          tree_ends (found {c = c} {d = e} {g = g} p lead same) =
              ∥∥₁_elim (tree_ends p) ∥∥₁_prop (λ (q : Ends (tree c) c).
              ∥∥₁_map (crossed_along q.2 lead) (λ (r : (t : S) × Cross q.0 t × Image (mul (tree c) g) (model e) t). (r.0, on q.1 r.1, I.same same r.2)))

          module _ (all : (c : Place) → Known c → InTree Same mul Lead tree root c) {Member : M → Type 0} (list : IsList Same mul one Place Lead Turn tree Member) where
            -- each member returns
            pub members_return : (x : M) → Member x → ∥ Returns Image Cross base x ∥₁
            members_return x m = go (list.only m)
              where
                go : ((c : Place) × (d : Place) × (g : M) × Lead c d g × Same (mul x (tree d)) (mul (tree c) g))
                    ⊎ ((c : Place) × (f : M) × Turn c f × Same (mul x (tree c)) (mul (tree c) f)) → ∥ Returns Image Cross base x ∥₁
                go (inl (c, d, g, lead, e)) =
                    ∥∥₁_elim (tree_ends (all c (K.lead_known lead).0)) ∥∥₁_prop (λ (from : Ends (tree c) c).
                    ∥∥₁_elim (tree_ends (all d (K.lead_known lead).1)) ∥∥₁_prop (λ (to : Ends (tree d) d).
                    ∥∥₁_map (crossed_along from.2 lead) (λ (r : (t : S) × Cross from.0 t × Image (mul (tree c) g) (model d) t).
                    transfer x to.0 r.0 to.1 (on from.1 r.1) (image_between x (tree d) (model d) to.0 r.0 to.2 (I.same (same_back e) r.2)))))
                go (inr (c, f, turn, e)) =
                    ∥∥₁_elim (tree_ends (all c (K.turn_known turn))) ∥∥₁_prop (λ (at : Ends (tree c) c).
                    ∥∥₁_map (K.turn_is turn) (λ (own : Image f (model c) (model c)).
                    transfer x at.0 at.0 at.1 at.1 (image_between x (tree c) (model c) at.0 at.0 at.2 (I.same (same_back e) (I.compose own at.2)))))

            -- the end of a path is, by a word and its place's matrix, the image of some place's model
            abbrev IsWordEnd : S → Type 0
            IsWordEnd s = (c : Place) × (a : M) × IsWord Same mul one Member a × Image (mul a (tree c)) (model c) s × Known c

            ends_are_words : {s : S} → Path Cross base s → ∥ IsWordEnd s ∥₁
            ends_are_words start = ∣ (root, one, empty one (same_self one), I.same (same_back (one-mul (tree root))) framed, known) ∣₁
            ends_are_words (on {k = k} {d = s} p cross) =
                ∥∥₁_elim (ends_are_words p) ∥∥₁_prop (λ (q : IsWordEnd k).
                ∥∥₁_map (each_crossing q.4 q.3 cross) (λ (r : (e : Place) × (g : M) × Lead q.0 e g × Image (mul (mul q.1 (tree q.0)) g) (model e) s).
                let l = list.lead r.2 in (
                  r.0,
                  mul q.1 l.0,
                  word_member Member q.1 l.0 q.2 l.1,
                  I.same (same_back (behind q.1 l.0 (tree r.0) (tree q.0) r.1 l.2)) r.3,
                  (K.lead_known r.2).1,
                )))

            -- and each returning matrix is a word
            pub returning_words : (a : M) → Returns Image Cross base a → ∥ IsWord Same mul one Member a ∥₁
            returning_words a (s, p, i) =
                ∥∥₁_elim (ends_are_words p) ∥∥₁_prop (λ (q : IsWordEnd s).
                let j : Image (mul a (tree root)) (model root) s = I.compose framed i in
                let z : Image (mul q.1 (tree root)) (model root) s = subst (λ c. Image (mul q.1 (tree c)) (model c) s) (K.one_place q.4 known q.3 j) q.3 in
                ∥∥₁_map (K.each_turn known (I.compose j (I.back z))) (λ (t : (f : M) × Turn root f × Same f (mul (inv (mul q.1 (tree root))) (mul a (tree root)))).
                let l = list.turn t.1 in
                word_same Member (mul q.1 l.0) a (word_member Member q.1 l.0 q.2 l.1)
                (cancel_right (mul q.1 l.0) a (tree root)
                (same_on (behind q.1 l.0 (tree root) (tree root) t.0 l.2)
                (same_on (same_mul (same_self (mul q.1 (tree root))) t.2) (cancel_first (mul q.1 (tree root)) (mul a (tree root))))))))

            -- the words are exactly the returning matrices
            pub generation : (a : M) → (IsWord Same mul one Member a → ∥ Returns Image Cross base a ∥₁) × (Returns Image Cross base a → ∥ IsWord Same mul one Member a ∥₁)
            generation a = (words_return Member members_return a, returning_words a)
