-- Checked sums of numbers that were checked before, and products by their parts.
use Rattle.std.proofs.Common.{◌≡◌, ◌↔◌, ℕ, IsTrue, false, to_z, of_z, arith, refl, subst}
use Rattle.std.specs.Int.{w128}
use Rattle.std.proofs.lemmas.Int.{to_z-of_z}
use mathlib.Core.Path.{subst₂}
use Rattle.std.specs.Prelude.{ℤ, ◌+ℤ◌, ◌*ℤ◌, [], ◌∷◌, Result, Ok, Err, IsOk, IfOk}
use Rattle.quad_field.specs.declared.quad.Quad.{Quad}
use Rattle.quad_field.specs.declared.quad.TooWide.{TooWide}
use Rattle.quad_field.specs.Checked.{IsExactProduct, IsExactWhere, root_part_steps, whole_part_steps}
use Rattle.quad_field.specs.Quads.{quad, product}
use Rattle.quad_field.specs.Width.{FitsI128, AllFit, StepsFit, Term, number, product_steps}

module _ (m n x y : ℤ) (r : Result ℤ TooWide) (p : FitsI128 m × (x ≡ m)) (q : FitsI128 n × (y ≡ n)) where
  -- m + n by x and y
  pub sum_of_two : IsExactWhere (FitsI128 (x +ℤ y)) (x +ℤ y) r → IsExactWhere (AllFit (m ∷ n ∷ (m +ℤ n) ∷ [])) (m +ℤ n) r
  sum_of_two h = by_cases r (subst₂ (λ a b. IsExactWhere (FitsI128 (a +ℤ b)) (a +ℤ b) r) p.1 q.1 h)
    where
      by_cases : (r : Result ℤ TooWide) → IsExactWhere (FitsI128 (m +ℤ n)) (m +ℤ n) r → IsExactWhere (AllFit (m ∷ n ∷ (m +ℤ n) ∷ [])) (m +ℤ n) r
      by_cases (Ok k) h = ((p.0, (q.0, (h.0, tt))), h.1)
      by_cases (Err e) h = λ f. h f.1.1.0

  -- m + d·n by x and z, which is d·y
  pub sum_of_scaled : (d z : ℤ) → FitsI128 (d *ℤ y) × (z ≡ d *ℤ y) → IsExactWhere (FitsI128 (x +ℤ z)) (x +ℤ z) r
      → IsExactWhere (AllFit (m ∷ n ∷ (d *ℤ n) ∷ (m +ℤ (d *ℤ n)) ∷ [])) (m +ℤ (d *ℤ n)) r
  sum_of_scaled d z s h = by_cases r (subst₂ (λ a b. IsExactWhere (FitsI128 (a +ℤ b)) (a +ℤ b) r) p.1 t.1 h)
    where
      t : FitsI128 (d *ℤ n) × (z ≡ d *ℤ n)
      t = subst (λ y. FitsI128 (d *ℤ y) × (z ≡ d *ℤ y)) q.1 s

      by_cases : (r : Result ℤ TooWide) → IsExactWhere (FitsI128 (m +ℤ (d *ℤ n))) (m +ℤ (d *ℤ n)) r → IsExactWhere (AllFit (m ∷ n ∷ (d *ℤ n) ∷ (m +ℤ (d *ℤ n)) ∷ [])) (m +ℤ (d *ℤ n)) r
      by_cases (Ok k) h = ((p.0, (q.0, (t.0, (h.0, tt)))), h.1)
      by_cases (Err e) h = λ f. h f.1.1.1.0

-- ---- a product by its parts
-- what is read of numbers that fit
pub parts_read : (a b : ℤ) → FitsI128 a → FitsI128 b → quad (to_z w128 (of_z w128 a)) (to_z w128 (of_z w128 b)) ≡ quad a b
parts_read a b f g = λ i. quad (to_z-of_z w128 a f i) (to_z-of_z w128 b g i)

module _ (d : ℕ) (x y : Quad) where
  -- the steps of the product are those of its parts, in their order
  parts_fit : AllFit (whole_part_steps d x y) → AllFit (root_part_steps x y) → AllFit (product_steps d x y)
  parts_fit p q = (p.0, (p.1.0, (p.1.1.0, (p.1.1.1.0, q))))

  whole_fits : AllFit (product_steps d x y) → AllFit (whole_part_steps d x y)
  whole_fits p = (p.0, (p.1.0, (p.1.1.0, (p.1.1.1.0, tt))))

  root_fits : AllFit (product_steps d x y) → AllFit (root_part_steps x y)
  root_fits p = p.1.1.1.1

  pub product_by_parts : (m n : ℤ) → IsExactWhere (AllFit (whole_part_steps d x y)) (product d x y).a (Ok m)
      → IsExactWhere (AllFit (root_part_steps x y)) (product d x y).b (Ok n) → IsExactProduct d x y (Ok (quad m n))
  product_by_parts m n p q = (parts_fit p.0 q.0, λ i. quad (p.1 i) (q.1 i))

  pub whole_is_wide : (e f : TooWide) → IsExactWhere (AllFit (whole_part_steps d x y)) (product d x y).a (Err e) → IsExactProduct d x y (Err f)
  whole_is_wide e f p fits = p (whole_fits fits)

  pub root_is_wide : (e f : TooWide) → IsExactWhere (AllFit (root_part_steps x y)) (product d x y).b (Err e) → IsExactProduct d x y (Err f)
  root_is_wide e f p fits = p (root_fits fits)

  -- what is so of an exact product
  pub product_exact : (r : Result Quad TooWide) → IsExactProduct d x y r → IfOk r (λ z. z ≡ product d x y)
  product_exact (Ok z) h = h.1
  product_exact (Err e) h = tt

  pub product_fits : (r : Result Quad TooWide) → IsExactProduct d x y r → IsOk r ↔ StepsFit d (Term.product (number x) (number y))
  product_fits (Ok z) h = (λ _. (tt, tt, h.0), λ _. refl)
  product_fits (Err e) h = (λ k. absurd (never k), λ fits. absurd (h fits.2))
    where
      never : IsTrue false → ⊥
      never k = grind arith
