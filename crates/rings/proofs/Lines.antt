-- Identities of lines, crossing points and places, in every commutative ring.
use Rattle.std.proofs.Common.{◌≡◌, [], ◌∷◌, List}
use Rattle.std.specs.Prelude.{pos}
use Rattle.rings.specs.Ring.{Ops, IsRing, Expr, var, expr}
use Rattle.rings.specs.Forms.{inner_value, value_at, discriminant}
use Rattle.rings.proofs.Solver.{identity}
use Rattle.rings.specs.Lines.{Triple, crossing_point}
open expr use {add as ◌+'◌, sub as ◌-'◌, mul as ◌*'◌, neg as neg', int as int'}

infixl 60 ◌+'◌
infixl 60 ◌-'◌
infixl 70 ◌*'◌
-- the triples of the first variables
abbrev l' : Triple Expr
l' = (var 0, var 1, var 2)

abbrev k' : Triple Expr
k' = (var 3, var 4, var 5)

abbrev m' : Triple Expr
m' = (var 6, var 7, var 8)

abbrev q' : Triple Expr
q' = (var 9, var 10, var 11)

-- a number more
abbrev n' : Expr
n' = var 12

module _ {R : Type 0} (O : Ops R) (L : IsRing O) where
  open O use {add as ◌⊕◌, sub as ◌⊖◌, mul as ◌⊗◌, neg as minus, int as num_of}

  infixl 60 ◌⊕◌
  infixl 60 ◌⊖◌
  infixl 70 ◌⊗◌
  -- the values of the variables
  abbrev values : Triple R → Triple R → Triple R → Triple R → R → List R
  values l k m q n = l.0 ∷ l.1 ∷ l.2 ∷ k.0 ∷ k.1 ∷ k.2 ∷ m.0 ∷ m.1 ∷ m.2 ∷ q.0 ∷ q.1 ∷ q.2 ∷ n ∷ []

  -- w²·(β² - 4αγ) = (βw + 2γx)² + 4γ²·(wy - x²) - 4γw·(αw + βx + γy)
  pub line_square : (l q : Triple R) → (q.0 ⊗ q.0) ⊗ discriminant O l
      ≡ ((l.1 ⊗ q.0 ⊕ (num_of (pos 2) ⊗ l.2) ⊗ q.1) ⊗ (l.1 ⊗ q.0 ⊕ (num_of (pos 2) ⊗ l.2) ⊗ q.1) ⊕ ((num_of (pos 2) ⊗ l.2) ⊗ (num_of (pos 2) ⊗ l.2)) ⊗ inner_value O q)
      ⊖ (num_of (pos 4) ⊗ l.2 ⊗ q.0) ⊗ value_at O l q
  line_square l q =
      let s = l'.1 *' q'.0 +' (int' (pos 2) *' l'.2) *' q'.1 in
      identity O L (values l l l q l.0) ((q'.0 *' q'.0) *' discriminant expr l')
      ((s *' s +' ((int' (pos 2) *' l'.2) *' (int' (pos 2) *' l'.2)) *' inner_value expr q') -' (int' (pos 4) *' l'.2 *' q'.0) *' value_at expr l' q') tt

  -- both lines go through their crossing point
  pub crossing_on_first : (l k : Triple R) → value_at O l (crossing_point O l k) ≡ num_of (pos 0)
  crossing_on_first l k = identity O L (values l k l l l.0) (value_at expr l' (crossing_point expr l' k')) (int' (pos 0)) tt

  pub crossing_on_second : (l k : Triple R) → value_at O k (crossing_point O l k) ≡ num_of (pos 0)
  crossing_on_second l k = identity O L (values l k l l l.0) (value_at expr k' (crossing_point expr l' k')) (int' (pos 0)) tt

  -- the value at the crossing point changes its sign with the two forms
  pub crossing_swap : (l k m : Triple R) → value_at O k (crossing_point O l m) ≡ minus (value_at O m (crossing_point O l k))
  crossing_swap l k m = identity O L (values l k m l l.0) (value_at expr k' (crossing_point expr l' m')) (neg' (value_at expr m' (crossing_point expr l' k'))) tt

  -- k(q)·w(l,m) - m(q)·w(l,k) = k(l×m)·q.w - l(q)·w(m,k)
  pub chord_key : (l k m q : Triple R) → value_at O k q ⊗ (crossing_point O l m).0 ⊖ value_at O m q ⊗ (crossing_point O l k).0
      ≡ value_at O k (crossing_point O l m) ⊗ q.0 ⊖ value_at O l q ⊗ (crossing_point O m k).0
  chord_key l k m q =
      identity O L (values l k m q l.0)
      (value_at expr k' q' *' (crossing_point expr l' m').0 -' value_at expr m' q' *' (crossing_point expr l' k').0)
      (value_at expr k' (crossing_point expr l' m') *' q'.0 -' value_at expr l' q' *' (crossing_point expr m' k').0) tt

  -- q × (l × k) = k(q)·l - l(q)·k
  pub meet_first : (l k q : Triple R) → (crossing_point O q (crossing_point O l k)).0 ≡ value_at O k q ⊗ l.0 ⊖ value_at O l q ⊗ k.0
  meet_first l k q =
      identity O L (values l k l q l.0) (crossing_point expr q' (crossing_point expr l' k')).0 (value_at expr k' q' *' l'.0 -' value_at expr l' q' *' k'.0) tt

  pub meet_second : (l k q : Triple R) → (crossing_point O q (crossing_point O l k)).1 ≡ value_at O k q ⊗ l.1 ⊖ value_at O l q ⊗ k.1
  meet_second l k q =
      identity O L (values l k l q l.0) (crossing_point expr q' (crossing_point expr l' k')).1 (value_at expr k' q' *' l'.1 -' value_at expr l' q' *' k'.1) tt

  pub meet_third : (l k q : Triple R) → (crossing_point O q (crossing_point O l k)).2 ≡ value_at O k q ⊗ l.2 ⊖ value_at O l q ⊗ k.2
  meet_third l k q =
      identity O L (values l k l q l.0) (crossing_point expr q' (crossing_point expr l' k')).2 (value_at expr k' q' *' l'.2 -' value_at expr l' q' *' k'.2) tt

  -- q.w²·inner(x) - x.w²·inner(q), by the components of q × x
  pub inner_of_multiples : (q x : Triple R) → (q.0 ⊗ q.0) ⊗ inner_value O x
      ≡ (x.0 ⊗ x.0) ⊗ inner_value O q ⊕ ((crossing_point O q x).2 ⊗ (minus (q.0 ⊗ x.1) ⊖ q.1 ⊗ x.0) ⊖ (crossing_point O q x).1 ⊗ (q.0 ⊗ x.0))
  inner_of_multiples q x =
      let a = q' in
      let b = k' in
      identity O L (values x x x q x.0) ((a.0 *' a.0) *' inner_value expr b)
      ((b.0 *' b.0) *' inner_value expr a +' ((crossing_point expr a b).2 *' (neg' (a.0 *' b.1) -' a.1 *' b.0) -' (crossing_point expr a b).1 *' (a.0 *' b.0))) tt

  -- the value at n·q + v
  pub value_moved : (k q v : Triple R) (n : R) → value_at O k (n ⊗ q.0 ⊕ v.0, n ⊗ q.1 ⊕ v.1, n ⊗ q.2 ⊕ v.2) ≡ n ⊗ value_at O k q ⊕ value_at O k v
  value_moved k q v n =
      identity O L (values v k v q n) (value_at expr k' (n' *' q'.0 +' l'.0, n' *' q'.1 +' l'.1, n' *' q'.2 +' l'.2)) (n' *' value_at expr k' q' +' value_at expr k' l') tt

  -- the polar of w·y - x²
  abbrev pub mixed_value : Triple R → Triple R → R
  mixed_value q r = (q.0 ⊗ r.2 ⊕ q.2 ⊗ r.0) ⊖ (num_of (pos 2) ⊗ q.1) ⊗ r.1

  -- the inner value of m·q + n·r
  pub inner_mixed : (q r : Triple R) (m n : R) → inner_value O (m ⊗ q.0 ⊕ n ⊗ r.0, m ⊗ q.1 ⊕ n ⊗ r.1, m ⊗ q.2 ⊕ n ⊗ r.2)
      ≡ ((m ⊗ m) ⊗ inner_value O q ⊕ (n ⊗ n) ⊗ inner_value O r) ⊕ (m ⊗ n) ⊗ mixed_value q r
  inner_mixed q r m n =
      let a = var 0 in
      let mix = (q'.0 *' k'.2 +' q'.2 *' k'.0) -' (int' (pos 2) *' q'.1) *' k'.1 in
      identity O L (values (m, m, m) r r q n) (inner_value expr (a *' q'.0 +' n' *' k'.0, a *' q'.1 +' n' *' k'.1, a *' q'.2 +' n' *' k'.2))
      (((a *' a) *' inner_value expr q' +' (n' *' n') *' inner_value expr k') +' (a *' n') *' mix) tt

  -- q.w·r.w times the polar is a sum of squares and positive multiples of the inner values
  pub mixed_square : (q r : Triple R) → (q.0 ⊗ r.0) ⊗ mixed_value q r
      ≡ ((q.0 ⊗ q.0) ⊗ inner_value O r ⊕ (r.0 ⊗ r.0) ⊗ inner_value O q) ⊕ (q.0 ⊗ r.1 ⊖ r.0 ⊗ q.1) ⊗ (q.0 ⊗ r.1 ⊖ r.0 ⊗ q.1)
  mixed_square q r =
      let mix = (q'.0 *' k'.2 +' q'.2 *' k'.0) -' (int' (pos 2) *' q'.1) *' k'.1 in
      let s = q'.0 *' k'.1 -' k'.0 *' q'.1 in
      identity O L (values r r r q q.0) ((q'.0 *' k'.0) *' mix)
      (((q'.0 *' q'.0) *' inner_value expr k' +' (k'.0 *' k'.0) *' inner_value expr q') +' s *' s) tt

  -- the inner value of n·q + v
  pub inner_moved : (q v : Triple R) (n : R) → inner_value O (n ⊗ q.0 ⊕ v.0, n ⊗ q.1 ⊕ v.1, n ⊗ q.2 ⊕ v.2)
      ≡ n ⊗ (n ⊗ inner_value O q ⊕ mixed_value q v) ⊕ inner_value O v
  inner_moved q v n =
      let mix = (q'.0 *' k'.2 +' q'.2 *' k'.0) -' (int' (pos 2) *' q'.1) *' k'.1 in
      identity O L (values v v v q n) (inner_value expr (n' *' q'.0 +' k'.0, n' *' q'.1 +' k'.1, n' *' q'.2 +' k'.2))
      (n' *' (n' *' inner_value expr q' +' mix) +' inner_value expr k') tt

  -- the direction of a line lies on it, and the value of a form there is the first component of the crossing point
  abbrev pub direction : Triple R → Triple R
  direction l = (num_of (pos 0), minus l.2, l.1)

  pub direction_value : (l k : Triple R) → value_at O k (direction l) ≡ (crossing_point O l k).0
  direction_value l k = identity O L (values l k l l l.0) (value_at expr k' (int' (pos 0), neg' l'.2, l'.1)) (crossing_point expr l' k').0 tt

  -- β·(p.w·k(q) - q.w·k(p)) for two places, and the same with γ
  pub rise_by_second : (l k p q : Triple R) → l.1 ⊗ (p.0 ⊗ value_at O k q ⊖ q.0 ⊗ value_at O k p)
      ≡ k.1 ⊗ (p.0 ⊗ value_at O l q ⊖ q.0 ⊗ value_at O l p) ⊕ (crossing_point O l k).0 ⊗ (p.0 ⊗ q.2 ⊖ q.0 ⊗ p.2)
  rise_by_second l k p q =
      identity O L (values l k p q l.0) (l'.1 *' (m'.0 *' value_at expr k' q' -' q'.0 *' value_at expr k' m'))
      (k'.1 *' (m'.0 *' value_at expr l' q' -' q'.0 *' value_at expr l' m') +' (crossing_point expr l' k').0 *' (m'.0 *' q'.2 -' q'.0 *' m'.2)) tt

  pub rise_by_third : (l k p q : Triple R) → l.2 ⊗ (p.0 ⊗ value_at O k q ⊖ q.0 ⊗ value_at O k p)
      ≡ k.2 ⊗ (p.0 ⊗ value_at O l q ⊖ q.0 ⊗ value_at O l p) ⊖ (crossing_point O l k).0 ⊗ (p.0 ⊗ q.1 ⊖ q.0 ⊗ p.1)
  rise_by_third l k p q =
      identity O L (values l k p q l.0) (l'.2 *' (m'.0 *' value_at expr k' q' -' q'.0 *' value_at expr k' m'))
      (k'.2 *' (m'.0 *' value_at expr l' q' -' q'.0 *' value_at expr l' m') -' (crossing_point expr l' k').0 *' (m'.0 *' q'.1 -' q'.0 *' m'.1)) tt
