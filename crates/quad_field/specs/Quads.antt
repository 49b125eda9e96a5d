-- K-integers: a pair (a, b) of whole numbers, without bound, with the value a + b·√D.
use Rattle.std.specs.Prelude.{◌≡◌, ℕ, ℤ, pos, neg_ℤ, ◌+ℤ◌, ◌-ℤ◌, ◌*ℤ◌, ◌<ℤ◌, ◌≤ℤ◌, ◌⊎◌}
use Rattle.quad_field.specs.declared.quad.Quad.{Quad}
use Rattle.quad_field.specs.declared.quad.Sign.{Sign}
use Rattle.quad_field.specs.declared.quad.Sign.TheVariants.{Minus, Zero, Plus}
use Rattle.quad_field.specs.Ring.{Ops}

-- the K-integer a + b·√D
abbrev pub quad : ℤ → ℤ → Quad
quad a b = record { a = a; b = b }

-- (a, b)·(c, d) = (ac + D·bd, ad + bc)
abbrev pub product : ℕ → Quad → Quad → Quad
product d x y = quad ((x.a *ℤ y.a) +ℤ (pos d *ℤ (x.b *ℤ y.b))) ((x.a *ℤ y.b) +ℤ (x.b *ℤ y.a))

-- k·(a + b·√D): both parts times the whole number k
abbrev pub scaled : ℤ → Quad → Quad
scaled k x = quad (x.a *ℤ k) (x.b *ℤ k)

-- the conjugate a - b·√D
abbrev pub conjugate_of : Quad → Quad
conjugate_of x = quad x.a (neg_ℤ x.b)

-- the ring of K-integers: sums by components, and products
abbrev pub quad_ops : ℕ → Ops Quad
quad_ops d = record {
  add = λ x y. quad (x.a +ℤ y.a) (x.b +ℤ y.b);
  sub = λ x y. quad (x.a -ℤ y.a) (x.b -ℤ y.b);
  mul = product d;
  neg = λ x. quad (neg_ℤ x.a) (neg_ℤ x.b);
  int = λ n. quad n (pos 0);
}

-- a + b·√D is zero only where both parts are
abbrev pub IsZero : Quad → Type 0
IsZero x = (x.a ≡ pos 0) × (x.b ≡ pos 0)

-- a + b·√D > 0: no part is negative and one isn't zero; or a > 0 > b and a² > D·b²; or a < 0 < b and D·b² > a²
abbrev pub IsPositive : ℕ → Quad → Type 0
IsPositive d x =
    ((pos 0 ≤ℤ x.a) × (pos 0 ≤ℤ x.b) × ¬ (IsZero x))
    ⊎ (((pos 0 <ℤ x.a) × (x.b <ℤ pos 0) × ((pos d *ℤ (x.b *ℤ x.b)) <ℤ (x.a *ℤ x.a)))
    ⊎ ((x.a <ℤ pos 0) × (pos 0 <ℤ x.b) × ((x.a *ℤ x.a) <ℤ (pos d *ℤ (x.b *ℤ x.b)))))

-- which sign the real number a + b·√D has
abbrev pub IsSign : ℕ → Quad → Sign → Type 0
IsSign d x Minus = IsPositive d ((quad_ops d).neg x)
IsSign d x Zero = IsZero x
IsSign d x Plus = IsPositive d x
