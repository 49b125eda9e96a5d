-- Formulas at whole numbers: in every field they have the value that they have at whole numbers, and where that can't leave 128 bits by
-- the size of the numbers, no step of them is wide.
use Rattle.std.proofs.Common.{◌≡◌, ℕ, zero, suc, ◌+◌, ◌*◌, ◌^◌, ◌<◌, ◌≤◌, [], ◌∷◌, arith, refl, ap, sym, subst, ◌∙◌}
use Rattle.std.specs.Prelude.{ℤ, pos, ◌+ℤ◌, ◌-ℤ◌, ◌*ℤ◌, neg_ℤ, unsigned_abs}
use mathlib.Core.Path.{ap₂, subst₂}
use Rattle.std.proofs.lemmas.Int.{ints, unsigned_abs-mul}
use Rattle.std.proofs.lemmas.Nat.{mul-le}
use Rattle.rings.specs.Ring.{Expr, var, int, add, sub, mul, neg, expr, eval, look, whole_ops}
use Rattle.rings.proofs.Solver.{identity}
use Rattle.rings.proofs.WholeNumbers.{whole_ring}
use Rattle.quad_field.specs.declared.quad.Quad.{Quad}
use Rattle.quad_field.specs.Quads.{quad, quad_ops, product}
use Rattle.quad_field.specs.Width.{Term, number, term_ops, value_of, FitsI128, PartsFit, AllFit, product_steps, StepsFit}

-- whole numbers as K-integers
abbrev pub wholes : (ℕ → ℤ) → ℕ → Quad
wholes v i = quad (v i) (pos 0)

-- an expression as a tree
abbrev pub tree : (ℕ → Quad) → Expr → Term
tree w e = eval term_ops (λ i. number (w i)) e

-- the product of two whole numbers
no_root : (m n : ℤ) → (m *ℤ pos 0) +ℤ (pos 0 *ℤ n) ≡ pos 0
no_root m n = identity whole_ops whole_ring (m ∷ n ∷ []) (expr.add (expr.mul (var 0) (expr.int (pos 0))) (expr.mul (expr.int (pos 0)) (var 1))) (expr.int (pos 0)) tt

whole_alone : (d : ℕ) (n : ℤ) → n +ℤ (pos d *ℤ (pos 0 *ℤ pos 0)) ≡ n
whole_alone d n = identity whole_ops whole_ring (n ∷ pos d ∷ []) (expr.add (var 0) (expr.mul (var 1) (expr.mul (expr.int (pos 0)) (expr.int (pos 0))))) (var 0) tt

nothing : (d : ℕ) → pos d *ℤ (pos 0 *ℤ pos 0) ≡ pos 0
nothing d = identity whole_ops whole_ring (pos d ∷ []) (expr.mul (var 0) (expr.mul (expr.int (pos 0)) (expr.int (pos 0)))) (expr.int (pos 0)) tt

times_nothing : (m : ℤ) → m *ℤ pos 0 ≡ pos 0
times_nothing m = identity whole_ops whole_ring (m ∷ []) (expr.mul (var 0) (expr.int (pos 0))) (expr.int (pos 0)) tt

nothing_times : (m : ℤ) → pos 0 *ℤ m ≡ pos 0
nothing_times m = identity whole_ops whole_ring (m ∷ []) (expr.mul (expr.int (pos 0)) (var 0)) (expr.int (pos 0)) tt

product_is : (d : ℕ) (m n : ℤ) → product d (quad m (pos 0)) (quad n (pos 0)) ≡ quad (m *ℤ n) (pos 0)
product_is d m n i = quad (whole_alone d (m *ℤ n) i) (no_root m n i)

-- ---- the value
module _ (d : ℕ) (v : ℕ → ℤ) where
  pub whole_value : (e : Expr) → eval (quad_ops d) (wholes v) e ≡ quad (eval whole_ops v e) (pos 0)
  whole_value (var i) = refl
  whole_value (int n) = refl
  whole_value (add p q) = ap₂ (quad_ops d).add (whole_value p) (whole_value q)
  whole_value (sub p q) = ap₂ (quad_ops d).sub (whole_value p) (whole_value q)
  whole_value (mul p q) = ap₂ (quad_ops d).mul (whole_value p) (whole_value q) ∙ product_is d (eval whole_ops v p) (eval whole_ops v q)
  whole_value (neg p) = ap (quad_ops d).neg (whole_value p)

  tree_value : (e : Expr) → value_of d (tree (wholes v) e) ≡ quad (eval whole_ops v e) (pos 0)
  tree_value (var i) = refl
  tree_value (int n) = refl
  tree_value (add p q) = ap₂ (quad_ops d).add (tree_value p) (tree_value q)
  tree_value (sub p q) = ap₂ (quad_ops d).sub (tree_value p) (tree_value q)
  tree_value (mul p q) = ap₂ (quad_ops d).mul (tree_value p) (tree_value q) ∙ product_is d (eval whole_ops v p) (eval whole_ops v q)
  tree_value (neg p) = ap (quad_ops d).neg (tree_value p)

-- ---- its size
-- what the size of an expression can't exceed where its variables are of at most size b; at least 1
abbrev pub reach : ℕ → Expr → ℕ
reach b (var i) = b
reach b (int n) = suc (unsigned_abs n)
reach b (add p q) = reach b p + reach b q
reach b (sub p q) = reach b p + reach b q
reach b (mul p q) = reach b p * reach b q
reach b (neg p) = reach b p

sum_size : (m n : ℤ) (a b : ℕ) → unsigned_abs m ≤ a → unsigned_abs n ≤ b → unsigned_abs (m +ℤ n) ≤ a + b
sum_size m n a b s t = omega (arith, ints)

difference_size : (m n : ℤ) (a b : ℕ) → unsigned_abs m ≤ a → unsigned_abs n ≤ b → unsigned_abs (m -ℤ n) ≤ a + b
difference_size m n a b s t = omega (arith, ints)

negative_size : (m : ℤ) (a : ℕ) → unsigned_abs m ≤ a → unsigned_abs (neg_ℤ m) ≤ a
negative_size m a s = omega (arith, ints)

pub times_size : (m n : ℤ) (a b : ℕ) → unsigned_abs m ≤ a → unsigned_abs n ≤ b → unsigned_abs (m *ℤ n) ≤ a * b
times_size m n a b s t = omega (arith, unsigned_abs-mul m n, mul-le (unsigned_abs m) (unsigned_abs n) a b s t)

whole_size : (n : ℤ) → unsigned_abs n ≤ suc (unsigned_abs n)
whole_size n = omega arith

module _ (b : ℕ) (some : 1 ≤ b) where
  reach_some : (e : Expr) → 1 ≤ reach b e
  reach_some (var i) = some
  reach_some (int n) = omega arith
  reach_some (add p q) = omega (arith, reach_some p)
  reach_some (sub p q) = omega (arith, reach_some p)
  reach_some (mul p q) = mul-le 1 1 (reach b p) (reach b q) (reach_some p) (reach_some q)
  reach_some (neg p) = reach_some p

  -- a factor reaches no further than a product
  first_below : (p q : Expr) → reach b p ≤ reach b p * reach b q
  first_below p q = omega (arith, mul-le (reach b p) 1 (reach b p) (reach b q) (omega arith) (reach_some q))

  second_below : (p q : Expr) → reach b q ≤ reach b p * reach b q
  second_below p q = omega (arith, mul-le 1 (reach b q) (reach b p) (reach b q) (reach_some p) (omega arith))

  module _ (d : ℕ) (v : ℕ → ℤ) (small : (i : ℕ) → unsigned_abs (v i) ≤ b) where
    size : (e : Expr) → unsigned_abs (eval whole_ops v e) ≤ reach b e
    size (var i) = small i
    size (int n) = whole_size n
    size (add p q) = sum_size (eval whole_ops v p) (eval whole_ops v q) (reach b p) (reach b q) (size p) (size q)
    size (sub p q) = difference_size (eval whole_ops v p) (eval whole_ops v q) (reach b p) (reach b q) (size p) (size q)
    size (mul p q) = times_size (eval whole_ops v p) (eval whole_ops v q) (reach b p) (reach b q) (size p) (size q)
    size (neg p) = negative_size (eval whole_ops v p) (reach b p) (size p)

    fits_by_size : (n : ℤ) (r : ℕ) → unsigned_abs n ≤ r → r < 2 ^ 127 → FitsI128 n
    fits_by_size n r s h = omega (arith, ints)

    zero_fits : (n : ℤ) → n ≡ pos 0 → FitsI128 n
    zero_fits n e = omega (arith, ints, e)

    -- the value's parts fit
    parts : (e : Expr) → reach b e < 2 ^ 127 → PartsFit (value_of d (tree (wholes v) e))
    parts e h = subst PartsFit (sym (tree_value d v e)) (fits_by_size (eval whole_ops v e) (reach b e) (size e) h, zero_fits (pos 0) refl)

    product_fits : (m n : ℤ) (r : ℕ) → unsigned_abs (m *ℤ n) ≤ r → r < 2 ^ 127 → AllFit (product_steps d (quad m (pos 0)) (quad n (pos 0)))
    product_fits m n r s h =
        let own = fits_by_size (m *ℤ n) r s h in (
          own,
          (
            zero_fits (pos 0 *ℤ pos 0) (times_nothing (pos 0)),
            (
              zero_fits (pos d *ℤ (pos 0 *ℤ pos 0)) (nothing d),
              (
                subst FitsI128 (sym (whole_alone d (m *ℤ n))) own,
                (
                  zero_fits (m *ℤ pos 0) (times_nothing m),
                  (
                    zero_fits (pos 0 *ℤ n) (nothing_times n),
                    (zero_fits ((m *ℤ pos 0) +ℤ (pos 0 *ℤ n)) (no_root m n), tt),
                  ),
                ),
              ),
            ),
          ),
        )

    -- no step of an expression is wide that reaches less than 2^127
    pub steps : (e : Expr) → reach b e < 2 ^ 127 → StepsFit d (tree (wholes v) e)
    steps (var i) h = tt
    steps (int n) h = tt
    steps (add p q) h = (steps p (omega (arith, h)), steps q (omega (arith, h)), parts (add p q) h)
    steps (sub p q) h = (steps p (omega (arith, h)), steps q (omega (arith, h)), parts (sub p q) h)
    steps (mul p q) h = (
      steps p (omega (arith, h, first_below p q)),
      steps q (omega (arith, h, second_below p q)),
      subst₂ (λ (x y : Quad). AllFit (product_steps d x y)) (sym (tree_value d v p)) (sym (tree_value d v q))
          (product_fits (eval whole_ops v p) (eval whole_ops v q) (reach b (mul p q)) (size (mul p q)) h),
    )
    steps (neg p) h = (steps p h, parts (neg p) h)

-- ---- six variables
-- each of six numbers is at most of size b
module _ (b : ℕ) (k l m n p q : ℤ) (a₀ : unsigned_abs k ≤ b) (a₁ : unsigned_abs l ≤ b) (a₂ : unsigned_abs m ≤ b) (a₃ : unsigned_abs n ≤ b) (a₄ : unsigned_abs p ≤ b) (a₅ : unsigned_abs q ≤ b) where
  -- they are the values of the variables
  abbrev pub six : ℕ → ℤ
  six = look (pos 0) (k ∷ l ∷ m ∷ n ∷ p ∷ q ∷ [])

  pub six_small : (i : ℕ) → unsigned_abs (six i) ≤ b
  six_small zero = a₀
  six_small (suc zero) = a₁
  six_small (suc (suc zero)) = a₂
  six_small (suc (suc (suc zero))) = a₃
  six_small (suc (suc (suc (suc zero)))) = a₄
  six_small (suc (suc (suc (suc (suc zero))))) = a₅
  six_small (suc (suc (suc (suc (suc (suc i)))))) = omega arith
