-- The root part of a product with the conjugate is zero.
use Rattle.std.proofs.Common.{◌≡◌, ℕ, zero, suc, arith, ap, ◌∙◌}
use Rattle.std.specs.Prelude.{ℤ, pos, negsuc, neg_ℤ, ◌+ℤ◌, ◌*ℤ◌}
use Rattle.std.proofs.lemmas.Int.{ints}
use Rattle.quad_field.specs.declared.quad.Quad.{Quad}
use Rattle.quad_field.specs.Quads.{conjugate_of, product, quad}

cross_terms : (a b : ℤ) → pos 0 ≡ (a *ℤ neg_ℤ b) +ℤ (b *ℤ a)
cross_terms (pos a) (pos zero) = omega (arith, ints)
cross_terms (pos a) (pos (suc b)) = omega (arith, ints)
cross_terms (pos a) (negsuc b) = omega (arith, ints)
cross_terms (negsuc a) (pos zero) = omega (arith, ints)
cross_terms (negsuc a) (pos (suc b)) = omega (arith, ints)
cross_terms (negsuc a) (negsuc b) = omega (arith, ints)

pub norm_is : (d : ℕ) (x y z : Quad) → y ≡ conjugate_of x → z ≡ product d x y → quad z.a (pos 0) ≡ product d x (conjugate_of x)
norm_is d x y z e f =
    let g : z ≡ product d x (conjugate_of x) = f ∙ ap (product d x) e in
    ap (λ z. quad z.a (pos 0)) g ∙ ap (λ b. quad (product d x (conjugate_of x)).a b) (cross_terms x.a x.b)
