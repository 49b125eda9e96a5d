-- The numbers a + b·√D over a commutative ring are a commutative ring.
use Rattle.std.proofs.Common.{◌≡◌, ℕ, [], ◌∷◌, ◌∙◌}
use Rattle.std.specs.Prelude.{ℤ, pos, ◌*ℤ◌}
use Rattle.rings.specs.Ring.{Ops, IsRing, Expr, var, expr, look}
use Rattle.rings.proofs.Solver.{solve}
use Rattle.rings.specs.Extension.{extended, norm}

module _ {R : Type 0} (O : Ops R) (L : IsRing O) (D : R) where
  -- the operations of the extension, and those of its expressions, whose D is the variable 0
  abbrev ext : Ops (R × R)
  ext = extended O D

  -- the operations of the expressions of the extension, whose D is the variable 0
  abbrev sym_ext : Ops (Expr × Expr)
  sym_ext = extended expr (var 0)

  -- the values of D and of the parts of x, y and z
  abbrev values : R × R → R × R → R × R → ℕ → R
  values x y z = look D (D ∷ x.0 ∷ x.1 ∷ y.0 ∷ y.1 ∷ z.0 ∷ z.1 ∷ [])

  -- the expression of x
  abbrev X : Expr × Expr
  X = (var 1, var 2)

  -- the expression of y
  abbrev Y : Expr × Expr
  Y = (var 3, var 4)

  -- the expression of z
  abbrev Z : Expr × Expr
  Z = (var 5, var 6)

  abbrev pair : {a b c d : R} → a ≡ c → b ≡ d → ◌≡◌ {A = R × R} (a, b) (c, d)
  pair p q = λ i. (p i, q i)

  -- (x·y)·z = x·(y·z)
  pub mul_assoc_ext : (x y z : R × R) → ext.mul (ext.mul x y) z ≡ ext.mul x (ext.mul y z)
  mul_assoc_ext x y z = pair
      (solve O L (values x y z) (sym_ext.mul (sym_ext.mul X Y) Z).0 (sym_ext.mul X (sym_ext.mul Y Z)).0 tt)
      (solve O L (values x y z) (sym_ext.mul (sym_ext.mul X Y) Z).1 (sym_ext.mul X (sym_ext.mul Y Z)).1 tt)

  -- (x + y)·z = x·z + y·z
  pub add_mul_ext : (x y z : R × R) → ext.mul (ext.add x y) z ≡ ext.add (ext.mul x z) (ext.mul y z)
  add_mul_ext x y z = pair
      (solve O L (values x y z) (sym_ext.mul (sym_ext.add X Y) Z).0 (sym_ext.add (sym_ext.mul X Z) (sym_ext.mul Y Z)).0 tt)
      (solve O L (values x y z) (sym_ext.mul (sym_ext.add X Y) Z).1 (sym_ext.add (sym_ext.mul X Z) (sym_ext.mul Y Z)).1 tt)

  -- x·y = y·x
  pub mul_comm_ext : (x y : R × R) → ext.mul x y ≡ ext.mul y x
  mul_comm_ext x y = pair
      (solve O L (values x y x) (sym_ext.mul X Y).0 (sym_ext.mul Y X).0 tt)
      (solve O L (values x y x) (sym_ext.mul X Y).1 (sym_ext.mul Y X).1 tt)

  -- 1·x = x
  pub one_mul_ext : (x : R × R) → ext.mul (ext.int (pos 1)) x ≡ x
  one_mul_ext x = pair
      (solve O L (values x x x) (sym_ext.mul (sym_ext.int (pos 1)) X).0 X.0 tt)
      (solve O L (values x x x) (sym_ext.mul (sym_ext.int (pos 1)) X).1 X.1 tt)

  -- whole numbers multiply as in the ring below
  pub int_mul_ext : (m n : ℤ) → ext.int (m *ℤ n) ≡ ext.mul (ext.int m) (ext.int n)
  int_mul_ext m n =
      let a : R × R = ext.int m in
      let b : R × R = ext.int n in
      pair
      (L.int-mul m n ∙ solve O L (values a b a) (expr.mul X.0 Y.0) (expr.add (expr.mul X.0 Y.0) (expr.mul (var 0) (expr.mul (expr.int (pos 0)) (expr.int (pos 0))))) tt)
      (solve O L (values a b a) (expr.int (pos 0)) (expr.add (expr.mul X.0 (expr.int (pos 0))) (expr.mul (expr.int (pos 0)) Y.0)) tt)

  -- the extension is a commutative ring
  pub extended_ring : IsRing ext
  extended_ring = record {
    add_assoc = λ x y z. pair (L.add_assoc x.0 y.0 z.0) (L.add_assoc x.1 y.1 z.1);
    add_comm = λ x y. pair (L.add_comm x.0 y.0) (L.add_comm x.1 y.1);
    zero-add = λ x. pair (L.zero-add x.0) (L.zero-add x.1);
    add-neg = λ x. pair (L.add-neg x.0) (L.add-neg x.1);
    sub_is = λ x y. pair (L.sub_is x.0 y.0) (L.sub_is x.1 y.1);
    mul_assoc = mul_assoc_ext;
    mul_comm = mul_comm_ext;
    one-mul = one_mul_ext;
    add-mul = add_mul_ext;
    int-add = λ m n. pair (L.int-add m n) (L.int-add (pos 0) (pos 0));
    int-mul = int_mul_ext;
  }

  -- the norm of a product
  pub norm-mul : (x y : R × R) → norm O D (ext.mul x y) ≡ O.mul (norm O D x) (norm O D y)
  norm-mul x y = solve O L (values x y x) (norm expr (var 0) (sym_ext.mul X Y)) (expr.mul (norm expr (var 0) X) (norm expr (var 0) Y)) tt
