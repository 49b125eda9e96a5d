-- Products, multiples and inverses of matrices, in every commutative ring.
use Rattle.std.proofs.Common.{◌≡◌, [], ◌∷◌, ap, ◌∙◌}
use Rattle.std.specs.Prelude.{pos}
use Rattle.rings.specs.Ring.{Ops, IsRing, Expr, var, expr}
use Rattle.rings.specs.Matrices.{Matrix, matrix_det, matrix_product, multiple_matrix}
use Rattle.rings.proofs.Solver.{identity}

-- the matrices of the first variables
abbrev a' : Matrix Expr
a' = (var 0, var 1, var 2, var 3)

-- the second one
abbrev b' : Matrix Expr
b' = (var 4, var 5, var 6, var 7)

-- the third one
abbrev c' : Matrix Expr
c' = (var 8, var 9, var 10, var 11)

-- (1, 0; 0, 1)
abbrev pub unit_matrix : {R : Type 0} → Ops R → Matrix R
unit_matrix O = (O.int (pos 1), O.int (pos 0), O.int (pos 0), O.int (pos 1))

-- the adjugate, each entry times x and then times k
abbrev pub scaled_adjugate : {R : Type 0} → Ops R → R → R → Matrix R → Matrix R
scaled_adjugate O x k n = (O.mul (O.mul x n.3) k, O.neg (O.mul (O.mul x n.1) k), O.neg (O.mul (O.mul x n.2) k), O.mul (O.mul x n.0) k)

-- the negatives of the entries
abbrev pub opposite_matrix : {R : Type 0} → Ops R → Matrix R → Matrix R
opposite_matrix O n = (O.neg n.0, O.neg n.1, O.neg n.2, O.neg n.3)

-- equal entries make equal matrices
pub matrix_is : {R : Type 0} {a b c d e f g h : R} → a ≡ e → b ≡ f → c ≡ g → d ≡ h → let x : Matrix R = (a, b, c, d) in let y : Matrix R = (e, f, g, h) in x ≡ y
matrix_is p q r s i = (p i, q i, r i, s i)

module _ {R : Type 0} (O : Ops R) (L : IsRing O) where
  -- (a·b)·c = a·(b·c)
  pub product_assoc : (a b c : Matrix R) → matrix_product O (matrix_product O a b) c ≡ matrix_product O a (matrix_product O b c)
  product_assoc a b c =
      let vs = a.0 ∷ a.1 ∷ a.2 ∷ a.3 ∷ b.0 ∷ b.1 ∷ b.2 ∷ b.3 ∷ c.0 ∷ c.1 ∷ c.2 ∷ c.3 ∷ [] in
      let l = matrix_product expr (matrix_product expr a' b') c' in
      let r = matrix_product expr a' (matrix_product expr b' c') in
      matrix_is (identity O L vs l.0 r.0 tt) (identity O L vs l.1 r.1 tt) (identity O L vs l.2 r.2 tt) (identity O L vs l.3 r.3 tt)

  -- 1·a = a
  pub unit_product : (a : Matrix R) → matrix_product O (unit_matrix O) a ≡ a
  unit_product a =
      let vs = a.0 ∷ a.1 ∷ a.2 ∷ a.3 ∷ [] in
      let l = matrix_product expr (unit_matrix expr) a' in
      matrix_is (identity O L vs l.0 (var 0) tt) (identity O L vs l.1 (var 1) tt) (identity O L vs l.2 (var 2) tt) (identity O L vs l.3 (var 3) tt)

  -- a·1 = a
  pub product_unit : (a : Matrix R) → matrix_product O a (unit_matrix O) ≡ a
  product_unit a =
      let vs = a.0 ∷ a.1 ∷ a.2 ∷ a.3 ∷ [] in
      let l = matrix_product expr a' (unit_matrix expr) in
      matrix_is (identity O L vs l.0 (var 0) tt) (identity O L vs l.1 (var 1) tt) (identity O L vs l.2 (var 2) tt) (identity O L vs l.3 (var 3) tt)

  -- (x·y)·(a·b) = (x·a)·(y·b)
  pub product_multiples : (a b : Matrix R) (x y : R)
      → multiple_matrix O (O.mul x y) (matrix_product O a b) ≡ matrix_product O (multiple_matrix O x a) (multiple_matrix O y b)
  product_multiples a b x y =
      let vs = a.0 ∷ a.1 ∷ a.2 ∷ a.3 ∷ b.0 ∷ b.1 ∷ b.2 ∷ b.3 ∷ x ∷ y ∷ [] in
      let l = multiple_matrix expr (expr.mul (var 8) (var 9)) (matrix_product expr a' b') in
      let r = matrix_product expr (multiple_matrix expr (var 8) a') (multiple_matrix expr (var 9) b') in
      matrix_is (identity O L vs l.0 r.0 tt) (identity O L vs l.1 r.1 tt) (identity O L vs l.2 r.2 tt) (identity O L vs l.3 r.3 tt)

  -- det(1) = 1
  pub unit_det : matrix_det O (unit_matrix O) ≡ O.int (pos 1)
  unit_det = identity O L [] (matrix_det expr (unit_matrix expr)) (expr.int (pos 1)) tt

  -- with det(a)·k = w, the product of the scaled adjugate and a is w·x
  pub adjugate_product : (a : Matrix R) (x k w : R) → O.mul (matrix_det O a) k ≡ w
      → multiple_matrix O (O.int (pos 1)) (matrix_product O (scaled_adjugate O x k a) a) ≡ multiple_matrix O (O.mul w x) (unit_matrix O)
  adjugate_product a x k w e =
      let vs = a.0 ∷ a.1 ∷ a.2 ∷ a.3 ∷ x ∷ k ∷ [] in
      let l = multiple_matrix expr (expr.int (pos 1)) (matrix_product expr (scaled_adjugate expr (var 4) (var 5) a') a') in
      let r = multiple_matrix expr (expr.mul (expr.mul (matrix_det expr a') (var 5)) (var 4)) (unit_matrix expr) in
      matrix_is (identity O L vs l.0 r.0 tt) (identity O L vs l.1 r.1 tt) (identity O L vs l.2 r.2 tt) (identity O L vs l.3 r.3 tt)
      ∙ ap (λ u. multiple_matrix O (O.mul u x) (unit_matrix O)) e

  -- and so is that of a and the scaled adjugate
  pub product_adjugate : (a : Matrix R) (x k w : R) → O.mul (matrix_det O a) k ≡ w
      → multiple_matrix O (O.int (pos 1)) (matrix_product O a (scaled_adjugate O x k a)) ≡ multiple_matrix O (O.mul x w) (unit_matrix O)
  product_adjugate a x k w e =
      let vs = a.0 ∷ a.1 ∷ a.2 ∷ a.3 ∷ x ∷ k ∷ [] in
      let l = multiple_matrix expr (expr.int (pos 1)) (matrix_product expr a' (scaled_adjugate expr (var 4) (var 5) a')) in
      let r = multiple_matrix expr (expr.mul (var 4) (expr.mul (matrix_det expr a') (var 5))) (unit_matrix expr) in
      matrix_is (identity O L vs l.0 r.0 tt) (identity O L vs l.1 r.1 tt) (identity O L vs l.2 r.2 tt) (identity O L vs l.3 r.3 tt)
      ∙ ap (λ u. multiple_matrix O (O.mul x u) (unit_matrix O)) e

  -- the negatives of the scaled adjugate are the one of -k
  pub adjugate_opposite : (a : Matrix R) (x k : R) → opposite_matrix O (scaled_adjugate O x k a) ≡ scaled_adjugate O x (O.neg k) a
  adjugate_opposite a x k =
      let vs = a.0 ∷ a.1 ∷ a.2 ∷ a.3 ∷ x ∷ k ∷ [] in
      let l = opposite_matrix expr (scaled_adjugate expr (var 4) (var 5) a') in
      let r = scaled_adjugate expr (var 4) (expr.neg (var 5)) a' in
      matrix_is (identity O L vs l.0 r.0 tt) (identity O L vs l.1 r.1 tt) (identity O L vs l.2 r.2 tt) (identity O L vs l.3 r.3 tt)

  -- and det(a)·(-k) = -(det(a)·k)
  pub negative_factor : (x k : R) → O.mul x (O.neg k) ≡ O.neg (O.mul x k)
  negative_factor x k = identity O L (x ∷ k ∷ []) (expr.mul (var 0) (expr.neg (var 1))) (expr.neg (expr.mul (var 0) (var 1))) tt

  -- det of the scaled adjugate is (x·k)²·det(a)
  pub scaled_adjugate_det : (a : Matrix R) (x k : R) → matrix_det O (scaled_adjugate O x k a) ≡ O.mul (O.mul (O.mul x k) (O.mul x k)) (matrix_det O a)
  scaled_adjugate_det a x k =
      let vs = a.0 ∷ a.1 ∷ a.2 ∷ a.3 ∷ x ∷ k ∷ [] in
      let c = expr.mul (var 4) (var 5) in
      identity O L vs (matrix_det expr (scaled_adjugate expr (var 4) (var 5) a')) (expr.mul (expr.mul c c) (matrix_det expr a')) tt

  -- 0·x = 0
  pub zero_product : (x : R) → O.mul (O.int (pos 0)) x ≡ O.int (pos 0)
  zero_product x = identity O L (x ∷ []) (expr.mul (expr.int (pos 0)) (var 0)) (expr.int (pos 0)) tt
