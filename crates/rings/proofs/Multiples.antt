-- Positive multiples of a form, and what is left of places whose common factor is taken out; in every ordered ring.
use Rattle.std.proofs.Common.{◌≡◌, [], ◌∷◌, subst, sym, ap, ◌∙◌}
use Rattle.std.specs.Prelude.{pos}
use Rattle.rings.specs.Ring.{Ops, IsRing, var, expr}
use Rattle.rings.specs.Order.{IsOrdered, Sign, is_zero, is_positive, is_negative, IsNotNegative}
use Rattle.rings.specs.Forms.{inner_value, value_at}
use Rattle.rings.proofs.Solver.{identity}
use Rattle.rings.proofs.Ordered.{factor, factor_zero, square, square_zero, sum_zero, sum_not_negative, squares_zero, not_both_signs}
use Rattle.rings.proofs.Signs.{never_below, product_zero_second}
use Rattle.rings.specs.Lines.{Triple, crossing_point, zero_triple, multiple, opposite_triple, IsOn, IsInside, IsPositiveMultiple, HasPositiveFactor}
use Rattle.rings.proofs.Lines.{meet_first, meet_second, meet_third}
open expr use {add as ◌+'◌, sub as ◌-'◌, mul as ◌*'◌, neg as neg', int as int'}

infixl 60 ◌+'◌
infixl 60 ◌-'◌
infixl 70 ◌*'◌
module _ {R : Type 0} (O : Ops R) (L : IsRing O) where
  open O use {add as ◌⊕◌, sub as ◌⊖◌, mul as ◌⊗◌, neg as minus, int as num_of}

  infixl 60 ◌⊕◌
  infixl 60 ◌⊖◌
  infixl 70 ◌⊗◌
  pub triples_equal : (l k : Triple R) → l.0 ≡ k.0 → l.1 ≡ k.1 → l.2 ≡ k.2 → l ≡ k
  triples_equal l k e f g i = (e i, f i, g i)

  -- a form is known by its values
  pub form_by_values : (l k : Triple R) → ((q : Triple R) → value_at O l q ≡ value_at O k q) → l ≡ k
  form_by_values l k same = triples_equal l k (sym (first l) ∙ same (one, zero, zero) ∙ first k) (sym (second l) ∙ same (zero, one, zero) ∙ second k) (sym (third l) ∙ same (zero, zero, one) ∙ third k)
    where
      one : R
      one = num_of (pos 1)

      zero : R
      zero = num_of (pos 0)

      first : (l : Triple R) → value_at O l (num_of (pos 1), num_of (pos 0), num_of (pos 0)) ≡ l.0
      first l = identity O L (l.0 ∷ l.1 ∷ l.2 ∷ []) (value_at expr (var 0, var 1, var 2) (int' (pos 1), int' (pos 0), int' (pos 0))) (var 0) tt

      second : (l : Triple R) → value_at O l (num_of (pos 0), num_of (pos 1), num_of (pos 0)) ≡ l.1
      second l = identity O L (l.0 ∷ l.1 ∷ l.2 ∷ []) (value_at expr (var 0, var 1, var 2) (int' (pos 0), int' (pos 1), int' (pos 0))) (var 1) tt

      third : (l : Triple R) → value_at O l (num_of (pos 0), num_of (pos 0), num_of (pos 1)) ≡ l.2
      third l = identity O L (l.0 ∷ l.1 ∷ l.2 ∷ []) (value_at expr (var 0, var 1, var 2) (int' (pos 0), int' (pos 0), int' (pos 1))) (var 2) tt

  -- the value of a multiple, and at a multiple
  pub multiple_value : (m : R) (k q : Triple R) → value_at O (multiple O m k) q ≡ m ⊗ value_at O k q
  multiple_value m k q =
      identity O L (m ∷ k.0 ∷ k.1 ∷ k.2 ∷ q.0 ∷ q.1 ∷ q.2 ∷ [])
      (value_at expr (multiple expr (var 0) (var 1, var 2, var 3)) (var 4, var 5, var 6)) (var 0 *' value_at expr (var 1, var 2, var 3) (var 4, var 5, var 6)) tt

  pub value_at_multiple : (m : R) (k q : Triple R) → value_at O k (multiple O m q) ≡ m ⊗ value_at O k q
  value_at_multiple m k q =
      identity O L (m ∷ k.0 ∷ k.1 ∷ k.2 ∷ q.0 ∷ q.1 ∷ q.2 ∷ [])
      (value_at expr (var 1, var 2, var 3) (multiple expr (var 0) (var 4, var 5, var 6))) (var 0 *' value_at expr (var 1, var 2, var 3) (var 4, var 5, var 6)) tt

  pub inner_of_multiple : (m : R) (q : Triple R) → inner_value O (multiple O m q) ≡ (m ⊗ m) ⊗ inner_value O q
  inner_of_multiple m q =
      identity O L (m ∷ q.0 ∷ q.1 ∷ q.2 ∷ []) (inner_value expr (multiple expr (var 0) (var 1, var 2, var 3))) ((var 0 *' var 0) *' inner_value expr (var 1, var 2, var 3)) tt

  pub multiple_twice : (m n : R) (k : Triple R) → multiple O m (multiple O n k) ≡ multiple O (m ⊗ n) k
  multiple_twice m n k = let one = λ (x : R). sym (L.mul_assoc m n x) in triples_equal _ _ (one k.0) (one k.1) (one k.2)

  pub multiple_swap : (m n : R) (k : Triple R) → multiple O (m ⊗ n) k ≡ multiple O (n ⊗ m) k
  multiple_swap m n k = ap (λ (x : R). multiple O x k) (L.mul_comm m n)

  pub dot_swap : (l k : Triple R) → value_at O l k ≡ value_at O k l
  dot_swap l k =
      identity O L (l.0 ∷ l.1 ∷ l.2 ∷ k.0 ∷ k.1 ∷ k.2 ∷ []) (value_at expr (var 0, var 1, var 2) (var 3, var 4, var 5)) (value_at expr (var 3, var 4, var 5) (var 0, var 1, var 2)) tt

  pub opposite_value : (k q : Triple R) → value_at O (opposite_triple O k) q ≡ minus (value_at O k q)
  opposite_value k q =
      identity O L (k.0 ∷ k.1 ∷ k.2 ∷ q.0 ∷ q.1 ∷ q.2 ∷ []) (value_at expr (opposite_triple expr (var 0, var 1, var 2)) (var 3, var 4, var 5)) (neg' (value_at expr (var 0, var 1, var 2) (var 3, var 4, var 5))) tt

  pub value_at_opposite : (k q : Triple R) → value_at O k (opposite_triple O q) ≡ minus (value_at O k q)
  value_at_opposite k q =
      identity O L (k.0 ∷ k.1 ∷ k.2 ∷ q.0 ∷ q.1 ∷ q.2 ∷ []) (value_at expr (var 0, var 1, var 2) (opposite_triple expr (var 3, var 4, var 5))) (neg' (value_at expr (var 0, var 1, var 2) (var 3, var 4, var 5))) tt

  pub opposite_twice : (l : Triple R) → opposite_triple O (opposite_triple O l) ≡ l
  opposite_twice l = triples_equal _ _ (one l.0) (one l.1) (one l.2)
    where
      one : (a : R) → minus (minus a) ≡ a
      one a = identity O L (a ∷ []) (neg' (neg' (var 0))) (var 0) tt

  pub opposite_of_multiple : (m : R) (l : Triple R) → opposite_triple O (multiple O m l) ≡ multiple O m (opposite_triple O l)
  opposite_of_multiple m l = triples_equal _ _ (one l.0) (one l.1) (one l.2)
    where
      one : (a : R) → minus (m ⊗ a) ≡ m ⊗ minus a
      one a = identity O L (m ∷ a ∷ []) (neg' (var 0 *' var 1)) (var 0 *' neg' (var 1)) tt

  pub inner_of_opposite : (q : Triple R) → inner_value O (opposite_triple O q) ≡ inner_value O q
  inner_of_opposite q = identity O L (q.0 ∷ q.1 ∷ q.2 ∷ []) (inner_value expr (opposite_triple expr (var 0, var 1, var 2))) (inner_value expr (var 0, var 1, var 2)) tt

  pub crossing_of_opposite : (l k : Triple R) → crossing_point O l (opposite_triple O k) ≡ opposite_triple O (crossing_point O l k)
  crossing_of_opposite l k = triples_equal _ _ (one l.1 k.2 l.2 k.1) (one l.2 k.0 l.0 k.2) (one l.0 k.1 l.1 k.0)
    where
      one : (a b c d : R) → a ⊗ minus b ⊖ c ⊗ minus d ≡ minus (a ⊗ b ⊖ c ⊗ d)
      one a b c d = identity O L (a ∷ b ∷ c ∷ d ∷ []) (var 0 *' neg' (var 1) -' var 2 *' neg' (var 3)) (neg' (var 0 *' var 1 -' var 2 *' var 3)) tt

  pub crossing_turned : (l k : Triple R) → crossing_point O k l ≡ opposite_triple O (crossing_point O l k)
  crossing_turned l k = triples_equal _ _ (one l.1 k.2 l.2 k.1) (one l.2 k.0 l.0 k.2) (one l.0 k.1 l.1 k.0)
    where
      one : (a b c d : R) → d ⊗ c ⊖ b ⊗ a ≡ minus (a ⊗ b ⊖ c ⊗ d)
      one a b c d = identity O L (a ∷ b ∷ c ∷ d ∷ []) (var 3 *' var 2 -' var 1 *' var 0) (neg' (var 0 *' var 1 -' var 2 *' var 3)) tt

  -- l × (l × k) = 0 where the lines are parallel: (l·l)·k = (l·k)·l
  pub parallel_multiple : (l k : Triple R) → crossing_point O l k ≡ zero_triple O → multiple O (value_at O l l) k ≡ multiple O (value_at O l k) l
  parallel_multiple l k none = triples_equal _ _
      (one l.0 k.0 (sym (meet_first O L l k l) ∙ (λ i. l.1 ⊗ (none i).2 ⊖ l.2 ⊗ (none i).1) ∙ zero l.1 l.2))
      (one l.1 k.1 (sym (meet_second O L l k l) ∙ (λ i. l.2 ⊗ (none i).0 ⊖ l.0 ⊗ (none i).2) ∙ zero l.2 l.0))
      (one l.2 k.2 (sym (meet_third O L l k l) ∙ (λ i. l.0 ⊗ (none i).1 ⊖ l.1 ⊗ (none i).0) ∙ zero l.0 l.1))
    where
      zero : (a b : R) → a ⊗ num_of (pos 0) ⊖ b ⊗ num_of (pos 0) ≡ num_of (pos 0)
      zero a b = identity O L (a ∷ b ∷ []) (var 0 *' int' (pos 0) -' var 1 *' int' (pos 0)) (int' (pos 0)) tt

      one : (a b : R) → value_at O k l ⊗ a ⊖ value_at O l l ⊗ b ≡ num_of (pos 0) → value_at O l l ⊗ b ≡ value_at O l k ⊗ a
      one a b e =
          identity O L (value_at O k l ⊗ a ∷ value_at O l l ⊗ b ∷ []) (var 1) (var 0 -' (var 0 -' var 1)) tt ∙ ap (λ x. value_at O k l ⊗ a ⊖ x) e
          ∙ identity O L (value_at O k l ⊗ a ∷ []) (var 0 -' int' (pos 0)) (var 0) tt ∙ ap (λ x. x ⊗ a) (dot_swap k l)

module _ {R : Type 0} (O : Ops R) (L : IsRing O) {P : R → Type 0} (Q : IsOrdered O P) where
  open O use {add as ◌⊕◌, sub as ◌⊖◌, mul as ◌⊗◌, neg as minus, int as num_of}

  infixl 60 ◌⊕◌
  infixl 60 ◌⊖◌
  infixl 70 ◌⊗◌
  abbrev Z : R
  Z = num_of (pos 0)

  -- l·l > 0
  pub square_some : (l : Triple R) → ¬ (l ≡ zero_triple O) → P (value_at O l l)
  square_some l some = go (Q.sign (value_at O l l))
    where
      two : IsNotNegative O P (l.0 ⊗ l.0 ⊕ l.1 ⊗ l.1)
      two = sum_not_negative O L Q _ _ (square O L Q l.0) (square O L Q l.1)

      go : Sign O P (value_at O l l) → P (value_at O l l)
      go (is_zero e) =
          let both = sum_zero O L Q (l.0 ⊗ l.0 ⊕ l.1 ⊗ l.1) (l.2 ⊗ l.2) two (square O L Q l.2) e in
          let first = squares_zero O L Q l.0 l.1 both.0 in
          absurd (some (triples_equal O L l (zero_triple O) first.0 first.1 (square_zero O L Q l.2 both.1)))
      go (is_positive p) = p
      go (is_negative p) = never_below O L Q (value_at O l l) (sum_not_negative O L Q _ _ two (square O L Q l.2)) p

  -- of a parallel form: the value at each place of the line
  pub parallel_value : (l k q : Triple R) → ¬ (l ≡ zero_triple O) → crossing_point O l k ≡ zero_triple O → IsOn O l q → value_at O k q ≡ Z
  parallel_value l k q some none on =
      factor_zero O L Q (value_at O k q) (value_at O l l)
      (L.mul_comm _ _ ∙ sym (multiple_value O L (value_at O l l) k q) ∙ ap (λ (m : Triple R). value_at O m q) (parallel_multiple O L l k none)
      ∙ multiple_value O L (value_at O l k) l q ∙ ap (λ x. value_at O l k ⊗ x) on ∙ identity O L (value_at O l k ∷ []) (var 0 *' int' (pos 0)) (int' (pos 0)) tt)
      (square_some l some)

  -- a positive multiple by its crossing point and its direction
  pub multiple_from : (l k : Triple R) → ¬ (l ≡ zero_triple O) → crossing_point O l k ≡ zero_triple O → P (value_at O l k) → IsPositiveMultiple O P l k
  multiple_from l k some none p = (value_at O l l, value_at O l k, square_some l some, p, parallel_multiple O L l k none)

  -- and back
  pub multiple_crossing : (l k : Triple R) → IsPositiveMultiple O P l k → crossing_point O l k ≡ zero_triple O
  multiple_crossing l k h = triples_equal O L _ _ (one l.1 k.2 l.2 k.1 (ap (λ (x : Triple R). x.2) e) (ap (λ (x : Triple R). x.1) e))
      (one l.2 k.0 l.0 k.2 (ap (λ (x : Triple R). x.0) e) (ap (λ (x : Triple R). x.2) e))
      (one l.0 k.1 l.1 k.0 (ap (λ (x : Triple R). x.1) e) (ap (λ (x : Triple R). x.0) e))
    where
      e : multiple O h.0 k ≡ multiple O h.1 l
      e = h.4

      -- a, c are components of l, and b, d the same of k, the other way round
      one : (a b c d : R) → h.0 ⊗ b ≡ h.1 ⊗ c → h.0 ⊗ d ≡ h.1 ⊗ a → a ⊗ b ⊖ c ⊗ d ≡ Z
      one a b c d f g =
          factor_zero O L Q (a ⊗ b ⊖ c ⊗ d) h.0
          (identity O L (a ∷ b ∷ c ∷ d ∷ h.0 ∷ []) ((var 0 *' var 1 -' var 2 *' var 3) *' var 4) (var 0 *' (var 4 *' var 1) -' var 2 *' (var 4 *' var 3)) tt
          ∙ (λ i. a ⊗ f i ⊖ c ⊗ g i) ∙ identity O L (a ∷ c ∷ h.1 ∷ []) (var 0 *' (var 2 *' var 1) -' var 1 *' (var 2 *' var 0)) (int' (pos 0)) tt) h.2

  pub multiple_direction : (l k : Triple R) → ¬ (l ≡ zero_triple O) → IsPositiveMultiple O P l k → P (value_at O l k)
  multiple_direction l k some h =
      factor O L Q (value_at O l k) h.0
      (subst P (sym (multiple_value O L h.1 l l) ∙ dot_swap O L (multiple O h.1 l) l ∙ ap (λ (m : Triple R). value_at O l m) (sym h.4) ∙ value_at_multiple O L h.0 l k ∙ L.mul_comm _ _)
      (Q.product _ _ h.3 (square_some l some))) h.2

  -- its values have one sign with the form's, at each place
  pub multiple_zero : (l k q : Triple R) → IsPositiveMultiple O P l k → IsOn O l q → value_at O k q ≡ Z
  multiple_zero l k q h on =
      factor_zero O L Q (value_at O k q) h.0
      (L.mul_comm _ _ ∙ sym (multiple_value O L h.0 k q) ∙ ap (λ (m : Triple R). value_at O m q) h.4 ∙ multiple_value O L h.1 l q ∙ ap (λ x. h.1 ⊗ x) on
      ∙ identity O L (h.1 ∷ []) (var 0 *' int' (pos 0)) (int' (pos 0)) tt) h.2

  -- positive multiples are an equivalence, where some value is positive
  pub multiple_swapped : (l k : Triple R) → IsPositiveMultiple O P l k → IsPositiveMultiple O P k l
  multiple_swapped l k h = (h.1, h.0, h.3, h.2, sym h.4)

  pub multiple_through : (l k j : Triple R) → IsPositiveMultiple O P l k → IsPositiveMultiple O P k j → IsPositiveMultiple O P l j
  multiple_through l k j h g = (
    h.0 ⊗ g.0,
    g.1 ⊗ h.1,
    Q.product _ _ h.2 g.2,
    Q.product _ _ g.3 h.3,
    sym (multiple_twice O L h.0 g.0 j) ∙ ap (multiple O h.0) g.4 ∙ multiple_twice O L h.0 g.1 k ∙ multiple_swap O L h.0 g.1 k ∙ sym (multiple_twice O L g.1 h.0 k)
        ∙ ap (multiple O g.1) h.4 ∙ multiple_twice O L g.1 h.1 l,
  )

  -- a form is a positive multiple of itself, where some value is positive
  pub multiple_itself : (some : R) → P some → (l : Triple R) → IsPositiveMultiple O P l l
  multiple_itself some p l = (some, some, p, p, λ i. multiple O some l)

  -- a negative multiple isn't a positive one
  pub opposite_not_multiple : (l k : Triple R) → ¬ (l ≡ zero_triple O) → IsPositiveMultiple O P l (opposite_triple O k) → ¬ (IsPositiveMultiple O P l k)
  opposite_not_multiple l k some h g =
      not_both_signs O L Q (value_at O l k) (multiple_direction l k some g) (subst P (value_at_opposite O L l k) (multiple_direction l (opposite_triple O k) some h))

  -- ---- a triple and the same without a positive factor
  module _ (full x : Triple R) (f : HasPositiveFactor O P full x) where
    pub factor_multiple : IsPositiveMultiple O P x full
    factor_multiple = (f.factor, f.factor ⊗ f.factor, f.positive, Q.product _ _ f.positive f.positive, ap (multiple O f.factor) f.out ∙ multiple_twice O L f.factor f.factor x)

    pub some_out : ¬ (full ≡ zero_triple O) → ¬ (x ≡ zero_triple O)
    some_out some z = some (f.out ∙ ap (multiple O f.factor) z ∙ (let none = product_zero_second O L Q f.factor Z (λ i. Z) in λ i. (none i, none i, none i)))

    -- as forms
    pub value_of_factor : (q : Triple R) → value_at O full q ≡ f.factor ⊗ value_at O x q
    value_of_factor q = ap (λ (l : Triple R). value_at O l q) f.out ∙ multiple_value O L f.factor x q

    pub form_out : (q : Triple R) → P (value_at O full q) → P (value_at O x q)
    form_out q p = factor O L Q (value_at O x q) f.factor (subst P (value_of_factor q ∙ L.mul_comm _ _) p) f.positive

    pub form_in : (q : Triple R) → P (value_at O x q) → P (value_at O full q)
    form_in q p = subst P (sym (value_of_factor q)) (Q.product _ _ f.positive p)

    -- as places
    pub value_at_factor : (k : Triple R) → value_at O k full ≡ f.factor ⊗ value_at O k x
    value_at_factor k = ap (λ (q : Triple R). value_at O k q) f.out ∙ value_at_multiple O L f.factor k x

    pub inner_of_factor : inner_value O full ≡ (f.factor ⊗ f.factor) ⊗ inner_value O x
    inner_of_factor = ap (inner_value O) f.out ∙ inner_of_multiple O L f.factor x

    pub on_out : (k : Triple R) → IsOn O k full → IsOn O k x
    on_out k e = factor_zero O L Q (value_at O k x) f.factor (L.mul_comm _ _ ∙ sym (value_at_factor k) ∙ e) f.positive

    pub inner_out : P (inner_value O full) → P (inner_value O x)
    inner_out h = factor O L Q (inner_value O x) (f.factor ⊗ f.factor) (subst P (inner_of_factor ∙ L.mul_comm _ _) h) (Q.product _ _ f.positive f.positive)

    pub inside_out : IsInside O P full → IsInside O P x
    inside_out h = (factor O L Q x.0 f.factor (subst P (ap (λ (z : Triple R). z.0) f.out ∙ L.mul_comm _ _) h.0) f.positive, inner_out h.1)
