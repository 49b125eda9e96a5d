-- A positive K-integer times its conjugate is a whole number other than zero.
use Rattle.std.proofs.Common.{◌≡◌, ℕ, zero, suc, ◌<◌, ◌≤◌, [], ◌∷◌, arith, refl, sym, ap, ◌∙◌, subst}
use Rattle.std.specs.Prelude.{ℤ, pos, negsuc, neg_ℤ, unsigned_abs, ◌⊎◌}
use mathlib.Core.Logic.{inl, inr}
use Rattle.rings.specs.Ring.{var, expr}
use Rattle.rings.proofs.Solver.{identity}
use Rattle.rings.proofs.Ordered.{no_divisors}
use Rattle.quad_field.specs.declared.quad.Quad.{Quad}
use Rattle.quad_field.specs.FieldNumber.{IsSquareFree}
use Rattle.quad_field.specs.Quads.{quad, quad_ops, conjugate_of, product, IsPositive}
use Rattle.quad_field.specs.Multiples.{HasWhole}
use Rattle.quad_field.proofs.KIntegers.{quad_ring, quad_order}
use Rattle.quad_field.proofs.Norms.{norm_is}

-- a number whose negative is zero
zero_negative : (n : ℤ) → neg_ℤ n ≡ pos 0 → n ≡ pos 0
zero_negative (pos zero) e = refl
zero_negative (pos (suc n)) e = cc
zero_negative (negsuc n) e = cc

module _ (d : ℕ) (free : IsSquareFree d) (two : 2 ≤ d) (x : Quad) (p : IsPositive d x) where
  -- a positive number isn't zero, and nor is its conjugate
  conjugate_some : conjugate_of x ≡ (quad_ops d).int (pos 0) → ⊥
  conjugate_some e =
      let a : x.a ≡ pos 0 = ap (λ (y : Quad). y.a) e in
      let b : x.b ≡ pos 0 = zero_negative x.b (ap (λ (y : Quad). y.b) e) in
      (quad_order d free two).zero_is_not (subst (IsPositive d) (λ i. quad (a i) (b i)) p)

  -- nor is their product
  product_some : product d x (conjugate_of x) ≡ (quad_ops d).int (pos 0) → ⊥
  product_some e = factor (no_divisors (quad_ops d) (quad_ring d) (quad_order d free two) x (conjugate_of x) e)
    where
      factor : (x ≡ (quad_ops d).int (pos 0)) ⊎ (conjugate_of x ≡ (quad_ops d).int (pos 0)) → ⊥
      factor (inl z) = (quad_order d free two).zero_is_not (subst (IsPositive d) z p)
      factor (inr z) = conjugate_some z

  -- the norm of a positive number isn't zero
  pub norm_some : (n : ℤ) → quad n (pos 0) ≡ product d x (conjugate_of x) → 0 < unsigned_abs n
  norm_some (pos zero) e = absurd (product_some (sym e))
  norm_some (pos (suc n)) e = omega arith
  norm_some (negsuc n) e = omega arith

  -- a positive number times its conjugate, or times the negative of that, is a whole number above zero
  pub has_whole : HasWhole d x
  has_whole = go (product d x (conjugate_of x)).a (sym (norm_is d x (conjugate_of x) (product d x (conjugate_of x)) refl refl))
    where
      go : (n : ℤ) → product d x (conjugate_of x) ≡ quad n (pos 0) → HasWhole d x
      go (pos zero) e = absurd (product_some e)
      go (pos (suc n)) e = record { multiplier = conjugate_of x; whole = suc n; positive = omega arith; multiple = e }
      go (negsuc n) e = record {
        multiplier = (quad_ops d).neg (conjugate_of x);
        whole = suc n;
        positive = omega arith;
        multiple =
            identity (quad_ops d) (quad_ring d) (x ∷ conjugate_of x ∷ []) (expr.mul (var 0) (expr.neg (var 1))) (expr.neg (expr.mul (var 0) (var 1))) tt
            ∙ ap (quad_ops d).neg e;
      }
