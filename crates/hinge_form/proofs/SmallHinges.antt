-- The short way's arithmetic in 64 bits and in 128, and triples and values of whole numbers.
use Rattle.std.proofs.Common.{◌≡◌, ℕ, ◌+◌, ◌*◌, ◌^◌, ◌<◌, ◌≤◌, to_z, of_z, arith, ap, sym, subst, ◌∙◌}
use Rattle.std.specs.Prelude.{ℤ, pos, ◌+ℤ◌, ◌-ℤ◌, ◌*ℤ◌, unsigned_abs, FitsSigned}
use Rattle.std.specs.Int.{w64, w128}
use Rattle.std.proofs.lemmas.Int.{ints, to_z-of_z}
use Rattle.rings.specs.Ring.{Expr, var, expr, whole_ops}
use Rattle.rings.specs.Forms.{difference_of_products, turn_times, weighted_triple, hinge_triple, value_at}
use Rattle.quad_field.specs.declared.quad.Quad.{Quad}
use Rattle.quad_field.specs.Quads.{quad, quad_ops}
use Rattle.quad_field.specs.Width.{term_ops, StepsFit}
use Rattle.plane.specs.Vectors.{Vector}
use Rattle.hinge_form.specs.Triples.{Triple, leaves, AllThreeFit}
use Rattle.hinge_form.specs.Hinges.{vector_leaves}
use Rattle.hinge_form.specs.Small.{IsWithin, IsWhole, IsWholeTriple, whole_vector, whole_triple}
use Rattle.hinge_form.proofs.WholeTerms.{whole_value, reach, steps, times_size, six, six_small}

-- ---- what is read back of numbers of 64 bits
abbrev pub read : ℤ → ℤ
read n = to_z w64 (of_z w64 n)

pub read_small : (n : ℤ) (r : ℕ) → unsigned_abs n ≤ r → r ≤ 2 ^ 62 → read n ≡ n
read_small n r s h = to_z-of_z w64 n (omega (arith, ints))

pub fits_small : (n : ℤ) (r : ℕ) → unsigned_abs n ≤ r → r ≤ 2 ^ 62 → FitsSigned w64 n
fits_small n r s h = omega (arith, ints)

pub times_read : (m n : ℤ) (a b : ℕ) → unsigned_abs m ≤ a → unsigned_abs n ≤ b → a ≤ 2 ^ 62 → b ≤ 2 ^ 62 → a * b ≤ 2 ^ 62 → read (read m *ℤ read n) ≡ m *ℤ n
times_read m n a b s t small_a small_b small =
    ap read (λ i. read_small m a s small_a i *ℤ read_small n b t small_b i) ∙ read_small (m *ℤ n) (a * b) (times_size m n a b s t) small

-- what is so of a number of the code that stands for n, which is of at most size r
pub record Stands (code n : ℤ) (r : ℕ) : Type 0 where
  pub fits : FitsSigned w64 code
  pub exact : read code ≡ n
  pub within : unsigned_abs (read code) ≤ r

pub stands : (code n : ℤ) (r : ℕ) → code ≡ n → unsigned_abs n ≤ r → r ≤ 2 ^ 62 → Stands code n r
stands code n r e s h =
    let exact = ap read e ∙ read_small n r s h in
    record { fits = subst (FitsSigned w64) (sym e) (fits_small n r s h); exact = exact; within = subst (λ z. unsigned_abs z ≤ r) (sym exact) s }

difference_size : (m n : ℤ) (a b : ℕ) → unsigned_abs m ≤ a → unsigned_abs n ≤ b → unsigned_abs (m -ℤ n) ≤ a + b
difference_size m n a b s t = omega (arith, ints)

three_size : (k m n : ℤ) (r : ℕ) → unsigned_abs k ≤ r → unsigned_abs m ≤ r → unsigned_abs n ≤ r → unsigned_abs ((k +ℤ m) +ℤ n) ≤ 3 * r
three_size k m n r s t u = omega (arith, ints)

-- a determinant of small whole numbers
pub turn_stands : (a b c e : ℤ) → IsWithin (2 ^ 14) a → IsWithin (2 ^ 14) b → IsWithin (2 ^ 14) c → IsWithin (2 ^ 14) e
    → Stands (read (read a *ℤ read b) -ℤ read (read c *ℤ read e)) (a *ℤ b -ℤ c *ℤ e) (2 ^ 29)
turn_stands a b c e p q r s =
    let first = times_read a b (2 ^ 14) (2 ^ 14) p q (omega arith) (omega arith) (omega arith) in
    let second = times_read c e (2 ^ 14) (2 ^ 14) r s (omega arith) (omega arith) (omega arith) in
    let size = difference_size (a *ℤ b) (c *ℤ e) (2 ^ 14 * 2 ^ 14) (2 ^ 14 * 2 ^ 14) (times_size a b (2 ^ 14) (2 ^ 14) p q) (times_size c e (2 ^ 14) (2 ^ 14) r s) in
    stands _ (a *ℤ b -ℤ c *ℤ e) (2 ^ 29) (λ i. first i -ℤ second i) size (omega arith)

-- a determinant times a coordinate
pub weight_stands : (m n : ℤ) → IsWithin (2 ^ 29) m → IsWithin (2 ^ 14) n → Stands (read m *ℤ read n) (m *ℤ n) (2 ^ 43)
weight_stands m n s t =
    stands _ (m *ℤ n) (2 ^ 43) (λ i. read_small m (2 ^ 29) s (omega arith) i *ℤ read_small n (2 ^ 14) t (omega arith) i)
    (times_size m n (2 ^ 29) (2 ^ 14) s t) (omega arith)

module _ (p u q v r w : ℤ) (sp : IsWithin (2 ^ 43) p) (sq : IsWithin (2 ^ 43) q) (sr : IsWithin (2 ^ 43) r) (su : IsWithin (2 ^ 14) u) (sv : IsWithin (2 ^ 14) v) (sw : IsWithin (2 ^ 14) w) where
  product_stands : (m n : ℤ) → IsWithin (2 ^ 43) m → IsWithin (2 ^ 14) n → Stands (read m *ℤ read n) (m *ℤ n) (2 ^ 57)
  product_stands m n s t =
      stands _ (m *ℤ n) (2 ^ 57) (λ i. read_small m (2 ^ 43) s (omega arith) i *ℤ read_small n (2 ^ 14) t (omega arith) i)
      (times_size m n (2 ^ 43) (2 ^ 14) s t) (omega arith)

  pub third_stands : Stands (read r *ℤ read w) (r *ℤ w) (2 ^ 57)
  third_stands = product_stands r w sr sw

  -- p·u - q·v
  pub two_stand : Stands (read (read p *ℤ read u) -ℤ read (read q *ℤ read v)) (p *ℤ u -ℤ q *ℤ v) (2 ^ 58)
  two_stand =
      let first = (product_stands p u sp su).exact in
      let second = (product_stands q v sq sv).exact in
      stands _ (p *ℤ u -ℤ q *ℤ v) (2 ^ 58) (λ i. first i -ℤ second i)
      (difference_size (p *ℤ u) (q *ℤ v) (2 ^ 57) (2 ^ 57) (times_size p u (2 ^ 43) (2 ^ 14) sp su) (times_size q v (2 ^ 43) (2 ^ 14) sq sv)) (omega arith)

  -- (p·u - q·v) - r·w
  pub three_stand : Stands (read (read (read p *ℤ read u) -ℤ read (read q *ℤ read v)) -ℤ read (read r *ℤ read w)) (difference_of_products whole_ops p u q v r w) (2 ^ 59)
  three_stand =
      let size = difference_size (p *ℤ u) (q *ℤ v) (2 ^ 57) (2 ^ 57) (times_size p u (2 ^ 43) (2 ^ 14) sp su) (times_size q v (2 ^ 43) (2 ^ 14) sq sv) in
      stands _ (p *ℤ u -ℤ q *ℤ v -ℤ r *ℤ w) (2 ^ 59) (λ i. two_stand.exact i -ℤ third_stands.exact i)
      (omega (arith, difference_size (p *ℤ u -ℤ q *ℤ v) (r *ℤ w) (2 ^ 57 + 2 ^ 57) (2 ^ 57) size (times_size r w (2 ^ 43) (2 ^ 14) sr sw))) (omega arith)

-- a vector of numbers of at most so much in size, read back
pub vector_read : (u : Vector ℤ) (r : ℕ) → unsigned_abs u.0 ≤ r × unsigned_abs u.1 ≤ r → r ≤ 2 ^ 62 → (read u.0, read u.1) ≡ u
vector_read u r s h = λ i. (read_small u.0 r s.0 h i, read_small u.1 r s.1 h i)

-- twice a number
twice_read : (n : ℤ) → IsWithin (2 ^ 59) n → read (pos 2 *ℤ read n) ≡ pos 2 *ℤ n
twice_read n s = ap (λ (m : ℤ). read (pos 2 *ℤ m)) (read_small n (2 ^ 59) s (omega arith)) ∙ read_small (pos 2 *ℤ n) (2 * 2 ^ 59) (times_size (pos 2) n 2 (2 ^ 59) (omega arith) s) (omega arith)

-- the triple by its parts
module _ (a c d x y z : Vector ℤ) (p q r : ℤ) (ex : x ≡ turn_times whole_ops a c d) (ey : y ≡ turn_times whole_ops d c a) (ez : z ≡ turn_times whole_ops a d c)
    (ep : p ≡ difference_of_products whole_ops x.0 d.0 y.0 a.0 z.0 c.0) (eq : q ≡ difference_of_products whole_ops x.0 d.1 y.0 a.1 z.0 c.1)
    (er : r ≡ difference_of_products whole_ops x.1 d.1 y.1 a.1 z.1 c.1) where
  pub triple_is : whole_triple (p, pos 2 *ℤ q, r) ≡ whole_triple (hinge_triple whole_ops a c d)
  triple_is = (λ i. whole_triple (ep i, pos 2 *ℤ eq i, er i)) ∙ λ i. whole_triple (weighted_triple whole_ops (ex i) (ey i) (ez i) a c d)

-- and by what is read of them
abbrev pub difference_read : Vector ℤ → Vector ℤ → Vector ℤ → Vector ℤ → Vector ℤ → Vector ℤ → ℤ × ℤ × ℤ
difference_read x y z a c d = (
  difference_of_products whole_ops x.0 d.0 y.0 a.0 z.0 c.0,
  difference_of_products whole_ops x.0 d.1 y.0 a.1 z.0 c.1,
  difference_of_products whole_ops x.1 d.1 y.1 a.1 z.1 c.1,
)

abbrev pub read_vector : Vector ℤ → Vector ℤ
read_vector u = (read u.0, read u.1)

module _ (a c d x y z : Vector ℤ) (sa : IsWithin (2 ^ 14) a.0 × IsWithin (2 ^ 14) a.1) (sc : IsWithin (2 ^ 14) c.0 × IsWithin (2 ^ 14) c.1) (sd : IsWithin (2 ^ 14) d.0 × IsWithin (2 ^ 14) d.1)
    (sx : IsWithin (2 ^ 43) x.0 × IsWithin (2 ^ 43) x.1) (sy : IsWithin (2 ^ 43) y.0 × IsWithin (2 ^ 43) y.1) (sz : IsWithin (2 ^ 43) z.0 × IsWithin (2 ^ 43) z.1) where
  read_all : difference_read (read_vector x) (read_vector y) (read_vector z) (read_vector a) (read_vector c) (read_vector d) ≡ difference_read x y z a c d
  read_all = λ i. difference_read
      (vector_read x (2 ^ 43) sx (omega arith) i) (vector_read y (2 ^ 43) sy (omega arith) i) (vector_read z (2 ^ 43) sz (omega arith) i)
      (vector_read a (2 ^ 14) sa (omega arith) i) (vector_read c (2 ^ 14) sc (omega arith) i) (vector_read d (2 ^ 14) sd (omega arith) i)

  module _ (p q r : ℤ) (sp : IsWithin (2 ^ 59) p) (sq : IsWithin (2 ^ 59) q) (sr : IsWithin (2 ^ 59) r)
      (ex : x ≡ turn_times whole_ops a c d) (ey : y ≡ turn_times whole_ops d c a) (ez : z ≡ turn_times whole_ops a d c)
      (ep : p ≡ (difference_read (read_vector x) (read_vector y) (read_vector z) (read_vector a) (read_vector c) (read_vector d)).0)
      (eq : q ≡ (difference_read (read_vector x) (read_vector y) (read_vector z) (read_vector a) (read_vector c) (read_vector d)).1)
      (er : r ≡ (difference_read (read_vector x) (read_vector y) (read_vector z) (read_vector a) (read_vector c) (read_vector d)).2)
      (k l m : Quad) (ek : k ≡ quad (read p) (pos 0)) (el : l ≡ quad (read (pos 2 *ℤ read q)) (pos 0)) (em : m ≡ quad (read r) (pos 0)) where
    pub triple_of_parts : (k, l, m) ≡ whole_triple (hinge_triple whole_ops a c d)
    triple_of_parts =
        (λ i. (ek i, el i, em i))
        ∙ (λ i. (quad (read_small p (2 ^ 59) sp (omega arith) i) (pos 0), quad (twice_read q sq i) (pos 0), quad (read_small r (2 ^ 59) sr (omega arith) i) (pos 0)))
        ∙ triple_is a c d x y z p q r ex ey ez (ep ∙ ap (λ (t : ℤ × ℤ × ℤ). t.0) read_all) (eq ∙ ap (λ (t : ℤ × ℤ × ℤ). t.1) read_all) (er ∙ ap (λ (t : ℤ × ℤ × ℤ). t.2) read_all)

-- ---- in every field
module _ (n : ℕ) (a c d : Vector ℤ) (sa : IsWithin (2 ^ 14) a.0 × IsWithin (2 ^ 14) a.1) (sc : IsWithin (2 ^ 14) c.0 × IsWithin (2 ^ 14) c.1) (sd : IsWithin (2 ^ 14) d.0 × IsWithin (2 ^ 14) d.1) where
  -- the six coordinates
  abbrev v : ℕ → ℤ
  v = six (2 ^ 14) a.0 a.1 c.0 c.1 d.0 d.1 sa.0 sa.1 sc.0 sc.1 sd.0 sd.1

  v_small : (i : ℕ) → unsigned_abs (v i) ≤ 2 ^ 14
  v_small = six_small (2 ^ 14) a.0 a.1 c.0 c.1 d.0 d.1 sa.0 sa.1 sc.0 sc.1 sd.0 sd.1

  abbrev formula : Expr × Expr × Expr
  formula = hinge_triple expr (var 0, var 1) (var 2, var 3) (var 4, var 5)

  pub triple_in_field : whole_triple (hinge_triple whole_ops a c d) ≡ hinge_triple (quad_ops n) (whole_vector a) (whole_vector c) (whole_vector d)
  triple_in_field = λ i. (sym (whole_value n v formula.0) i, sym (whole_value n v formula.1) i, sym (whole_value n v formula.2) i)

  pub triple_fits : AllThreeFit n (hinge_triple term_ops (vector_leaves (whole_vector a)) (vector_leaves (whole_vector c)) (vector_leaves (whole_vector d)))
  triple_fits =
      let first : reach (2 ^ 14) formula.0 < 2 ^ 127 = omega arith in
      let second : reach (2 ^ 14) formula.1 < 2 ^ 127 = omega arith in
      let third : reach (2 ^ 14) formula.2 < 2 ^ 127 = omega arith in
      (steps (2 ^ 14) (omega arith) n v v_small formula.0 first, steps (2 ^ 14) (omega arith) n v v_small formula.1 second, steps (2 ^ 14) (omega arith) n v v_small formula.2 third)

module _ (n : ℕ) (l q : ℤ × ℤ × ℤ)
    (sl : IsWithin (2 ^ 62) l.0 × IsWithin (2 ^ 62) l.1 × IsWithin (2 ^ 62) l.2) (sq : IsWithin (2 ^ 62) q.0 × IsWithin (2 ^ 62) q.1 × IsWithin (2 ^ 62) q.2) where
  -- the six numbers of a form and a place
  abbrev w : ℕ → ℤ
  w = six (2 ^ 62) l.0 l.1 l.2 q.0 q.1 q.2 sl.0 sl.1 sl.2 sq.0 sq.1 sq.2

  w_small : (i : ℕ) → unsigned_abs (w i) ≤ 2 ^ 62
  w_small = six_small (2 ^ 62) l.0 l.1 l.2 q.0 q.1 q.2 sl.0 sl.1 sl.2 sq.0 sq.1 sq.2

  abbrev value : Expr
  value = value_at expr (var 0, var 1, var 2) (var 3, var 4, var 5)

  pub value_in_field : quad (value_at whole_ops l q) (pos 0) ≡ value_at (quad_ops n) (whole_triple l) (whole_triple q)
  value_in_field = sym (whole_value n w value)

  pub value_fits : StepsFit n (value_at term_ops (leaves (whole_triple l)) (leaves (whole_triple q)))
  value_fits =
      let low : reach (2 ^ 62) value < 2 ^ 127 = omega arith in
      steps (2 ^ 62) (omega arith) n w w_small value low

-- ---- at K-integers whose root parts are zero
-- a number whose root part is zero
named : (x : Quad) → x.b ≡ pos 0 → x ≡ quad x.a (pos 0)
named x e i = quad x.a (e i)

vector_named : (u : Vector Quad) (r : ℕ) → IsWhole r u.0 × IsWhole r u.1 → u ≡ whole_vector (u.0.a, u.1.a)
vector_named u r s = λ i. (named u.0 s.0.0 i, named u.1 s.1.0 i)

triple_named : (l : Triple) (r : ℕ) → IsWholeTriple r l → l ≡ whole_triple (l.0.a, l.1.a, l.2.a)
triple_named l r s = λ i. (named l.0 s.0.0 i, named l.1 s.1.0 i, named l.2 s.2.0 i)

pub small_fits : (n : ℕ) (a c d : Vector Quad) → IsWhole (2 ^ 14) a.0 × IsWhole (2 ^ 14) a.1 → IsWhole (2 ^ 14) c.0 × IsWhole (2 ^ 14) c.1 → IsWhole (2 ^ 14) d.0 × IsWhole (2 ^ 14) d.1
    → AllThreeFit n (hinge_triple term_ops (vector_leaves a) (vector_leaves c) (vector_leaves d))
small_fits n a c d sa sc sd =
    let whole : Vector Quad → Vector ℤ = λ u. (u.0.a, u.1.a) in
    let fits = triple_fits n (whole a) (whole c) (whole d) (sa.0.1, sa.1.1) (sc.0.1, sc.1.1) (sd.0.1, sd.1.1) in
    subst (λ (t : Vector Quad × Vector Quad × Vector Quad). AllThreeFit n (hinge_triple term_ops (vector_leaves t.0) (vector_leaves t.1) (vector_leaves t.2)))
    (λ i. (sym (vector_named a (2 ^ 14) sa) i, sym (vector_named c (2 ^ 14) sc) i, sym (vector_named d (2 ^ 14) sd) i)) fits

module _ (n : ℕ) (l q : Triple) (sl : IsWholeTriple (2 ^ 62) l) (sq : IsWholeTriple (2 ^ 62) q) where
  abbrev parts : Triple → ℤ × ℤ × ℤ
  parts t = (t.0.a, t.1.a, t.2.a)

  pub medium_fits : StepsFit n (value_at term_ops (leaves l) (leaves q))
  medium_fits =
      subst (λ (t : Triple × Triple). StepsFit n (value_at term_ops (leaves t.0) (leaves t.1)))
      (λ i. (sym (triple_named l (2 ^ 62) sl) i, sym (triple_named q (2 ^ 62) sq) i))
      (value_fits n (parts l) (parts q) (sl.0.1, sl.1.1, sl.2.1) (sq.0.1, sq.1.1, sq.2.1))

  medium_value : quad (value_at whole_ops (parts l) (parts q)) (pos 0) ≡ value_at (quad_ops n) l q
  medium_value =
      value_in_field n (parts l) (parts q) (sl.0.1, sl.1.1, sl.2.1) (sq.0.1, sq.1.1, sq.2.1)
      ∙ λ i. value_at (quad_ops n) (sym (triple_named l (2 ^ 62) sl) i) (sym (triple_named q (2 ^ 62) sq) i)

-- ---- what is read back of numbers of 128 bits
abbrev pub read_128 : ℤ → ℤ
read_128 n = to_z w128 (of_z w128 n)

pub read_wide : (n : ℤ) (r : ℕ) → unsigned_abs n ≤ r → r ≤ 2 ^ 126 → read_128 n ≡ n
read_wide n r s h = to_z-of_z w128 n (omega (arith, ints))

-- the product of two numbers of medium size, by one multiplication of 64 bits
product_read : (m n k l p : ℤ) → IsWithin (2 ^ 62) m → IsWithin (2 ^ 62) n → k ≡ read_128 m → l ≡ read_128 n → p ≡ read k *ℤ read l → p ≡ m *ℤ n
product_read m n k l p s t ek el ep =
    ep ∙ λ i. (ap read (ek ∙ read_wide m (2 ^ 62) s (omega arith)) ∙ read_small m (2 ^ 62) s (omega arith)) i *ℤ (ap read (el ∙ read_wide n (2 ^ 62) t (omega arith)) ∙ read_small n (2 ^ 62) t (omega arith)) i

product_within : (m n p : ℤ) → IsWithin (2 ^ 62) m → IsWithin (2 ^ 62) n → p ≡ m *ℤ n → IsWithin (2 ^ 124) (read_128 p)
product_within m n p s t e =
    let size = times_size m n (2 ^ 62) (2 ^ 62) s t in
    subst (IsWithin (2 ^ 124)) (sym (ap read_128 e ∙ read_wide (m *ℤ n) (2 ^ 124) size (omega arith))) size

module _ (l q : Triple) (sl : IsWholeTriple (2 ^ 62) l) (sq : IsWholeTriple (2 ^ 62) q) (a b c d e f : ℤ)
    (ea : a ≡ read_128 l.0.a) (eb : b ≡ read_128 q.0.a) (ec : c ≡ read_128 l.1.a) (ed : d ≡ read_128 q.1.a) (ee : e ≡ read_128 l.2.a) (ef : f ≡ read_128 q.2.a)
    (x y z : ℤ) (ex : x ≡ read a *ℤ read b) (ey : y ≡ read c *ℤ read d) (ez : z ≡ read e *ℤ read f) where
  first_is : x ≡ l.0.a *ℤ q.0.a
  first_is = product_read l.0.a q.0.a a b x sl.0.1 sq.0.1 ea eb ex

  second_is : y ≡ l.1.a *ℤ q.1.a
  second_is = product_read l.1.a q.1.a c d y sl.1.1 sq.1.1 ec ed ey

  third_is : z ≡ l.2.a *ℤ q.2.a
  third_is = product_read l.2.a q.2.a e f z sl.2.1 sq.2.1 ee ef ez

  pub products_small : IsWithin (2 ^ 124) (read_128 x) × IsWithin (2 ^ 124) (read_128 y) × IsWithin (2 ^ 124) (read_128 z)
  products_small = (
    product_within l.0.a q.0.a x sl.0.1 sq.0.1 first_is,
    product_within l.1.a q.1.a y sl.1.1 sq.1.1 second_is,
    product_within l.2.a q.2.a z sl.2.1 sq.2.1 third_is,
  )

-- the value by its products
module _ (n : ℕ) (l q : Triple) (sl : IsWholeTriple (2 ^ 62) l) (sq : IsWholeTriple (2 ^ 62) q) (a b c d e f : ℤ)
    (ea : a ≡ read_128 l.0.a) (eb : b ≡ read_128 q.0.a) (ec : c ≡ read_128 l.1.a) (ed : d ≡ read_128 q.1.a) (ee : e ≡ read_128 l.2.a) (ef : f ≡ read_128 q.2.a)
    (x y z : ℤ) (ex : x ≡ read a *ℤ read b) (ey : y ≡ read c *ℤ read d) (ez : z ≡ read e *ℤ read f) where
  pub value_read : (s : ℤ) → s ≡ (read_128 x +ℤ read_128 y) +ℤ read_128 z → quad (read_128 s) (pos 0) ≡ value_at (quad_ops n) l q
  value_read s es =
      let P = l.0.a *ℤ q.0.a in
      let Q = l.1.a *ℤ q.1.a in
      let R = l.2.a *ℤ q.2.a in
      let p = times_size l.0.a q.0.a (2 ^ 62) (2 ^ 62) sl.0.1 sq.0.1 in
      let r = times_size l.1.a q.1.a (2 ^ 62) (2 ^ 62) sl.1.1 sq.1.1 in
      let t = times_size l.2.a q.2.a (2 ^ 62) (2 ^ 62) sl.2.1 sq.2.1 in
      let one = product_read l.0.a q.0.a a b x sl.0.1 sq.0.1 ea eb ex in
      let two = product_read l.1.a q.1.a c d y sl.1.1 sq.1.1 ec ed ey in
      let three = product_read l.2.a q.2.a e f z sl.2.1 sq.2.1 ee ef ez in
      let all : s ≡ (P +ℤ Q) +ℤ R = es ∙ λ i. ((ap read_128 one ∙ read_wide P (2 ^ 124) p (omega arith)) i +ℤ (ap read_128 two ∙ read_wide Q (2 ^ 124) r (omega arith)) i)
      +ℤ (ap read_128 three ∙ read_wide R (2 ^ 124) t (omega arith)) i in
      ap (λ (m : ℤ). quad m (pos 0)) (ap read_128 all ∙ read_wide ((P +ℤ Q) +ℤ R) (3 * 2 ^ 124) (three_size P Q R (2 ^ 124) p r t) (omega arith)) ∙ medium_value n l q sl sq
