-- Commutative rings: their operations as one value, their laws, and polynomial expressions over them.
use Rattle.std.specs.Prelude.{◌≡◌, ℕ, zero, suc, List, [], ◌∷◌, ℤ, pos, ◌+ℤ◌, ◌-ℤ◌, ◌*ℤ◌, neg_ℤ}

-- sum, difference, product and negative, and the ring's element for a whole number:
-- a formula is written once over these, at numbers it is its value, at terms or expressions its own tree
pub record Ops (R : Type 0) : Type 0 where
  pub add : R → R → R
  pub sub : R → R → R
  pub mul : R → R → R
  pub neg : R → R
  pub int : ℤ → R

-- the laws of a commutative ring, whose elements for whole numbers add and multiply as these do
pub record IsRing {R : Type 0} (O : Ops R) : Type 0 where
  pub add_assoc : (a b c : R) → O.add (O.add a b) c ≡ O.add a (O.add b c)
  pub add_comm : (a b : R) → O.add a b ≡ O.add b a
  pub zero-add : (a : R) → O.add (O.int (pos 0)) a ≡ a
  pub add-neg : (a : R) → O.add a (O.neg a) ≡ O.int (pos 0)
  pub sub_is : (a b : R) → O.sub a b ≡ O.add a (O.neg b)
  pub mul_assoc : (a b c : R) → O.mul (O.mul a b) c ≡ O.mul a (O.mul b c)
  pub mul_comm : (a b : R) → O.mul a b ≡ O.mul b a
  pub one-mul : (a : R) → O.mul (O.int (pos 1)) a ≡ a
  pub add-mul : (a b c : R) → O.mul (O.add a b) c ≡ O.add (O.mul a c) (O.mul b c)
  pub int-add : (m n : ℤ) → O.int (m +ℤ n) ≡ O.add (O.int m) (O.int n)
  pub int-mul : (m n : ℤ) → O.int (m *ℤ n) ≡ O.mul (O.int m) (O.int n)

-- a polynomial expression in numbered variables
pub data Expr : Type 0 where
  var : ℕ → Expr
  int : ℤ → Expr
  add : Expr → Expr → Expr
  sub : Expr → Expr → Expr
  mul : Expr → Expr → Expr
  neg : Expr → Expr

-- the operations that build expressions: a formula at these is its own expression
abbrev pub expr : Ops Expr
expr = record { add = Expr.add; sub = Expr.sub; mul = Expr.mul; neg = Expr.neg; int = Expr.int }

-- the value of an expression where v gives the values of its variables
abbrev pub eval : {R : Type 0} → Ops R → (ℕ → R) → Expr → R
eval O v (var i) = v i
eval O v (int n) = O.int n
eval O v (add a b) = O.add (eval O v a) (eval O v b)
eval O v (sub a b) = O.sub (eval O v a) (eval O v b)
eval O v (mul a b) = O.mul (eval O v a) (eval O v b)
eval O v (neg a) = O.neg (eval O v a)

-- the values of a list for the variables 0, 1, 2, .., and z for those after its end
abbrev pub look : {R : Type 0} → R → List R → ℕ → R
look z [] i = z
look z (x ∷ xs) zero = x
look z (x ∷ xs) (suc i) = look z xs i

-- the ring of whole numbers
abbrev pub whole_ops : Ops ℤ
whole_ops = record { add = ◌+ℤ◌; sub = ◌-ℤ◌; mul = ◌*ℤ◌; neg = neg_ℤ; int = λ n. n }
