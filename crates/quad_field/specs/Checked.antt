-- For private functions alone, no public contract cites it: what a checked computation answers, the steps of the two parts of a product,
-- and the numbers of which no product is wide.
use Rattle.std.specs.Prelude.{◌≡◌, ℕ, ◌^◌, ℤ, pos, neg_ℤ, ◌+ℤ◌, ◌*ℤ◌, ◌≤ℤ◌, ◌<ℤ◌, List, [], ◌∷◌, Result, Ok, Err}
use Rattle.quad_field.specs.declared.quad.Quad.{Quad}
use Rattle.quad_field.specs.declared.quad.TooWide.{TooWide}
use Rattle.quad_field.specs.Quads.{product}
use Rattle.quad_field.specs.Width.{AllFit, product_steps}

-- the number n where P holds, and too wide where P doesn't hold
abbrev pub IsExactWhere : Type 0 → ℤ → Result ℤ TooWide → Type 0
IsExactWhere P n (Ok m) = P × (m ≡ n)
IsExactWhere P n (Err e) = ¬ P

-- the steps of a product's whole part: a·c, b·d, D·(b·d), a·c + D·(b·d)
abbrev pub whole_part_steps : ℕ → Quad → Quad → List ℤ
whole_part_steps d x y =
    (x.a *ℤ y.a) ∷ (x.b *ℤ y.b) ∷ (pos d *ℤ (x.b *ℤ y.b)) ∷ ((x.a *ℤ y.a) +ℤ (pos d *ℤ (x.b *ℤ y.b))) ∷ []

-- the steps of its other part: a·d, b·c, a·d + b·c
abbrev pub root_part_steps : Quad → Quad → List ℤ
root_part_steps x y = (x.a *ℤ y.b) ∷ (x.b *ℤ y.a) ∷ ((x.a *ℤ y.b) +ℤ (x.b *ℤ y.a)) ∷ []

-- the product of x and y where none of its steps is wide, and too wide where one is
abbrev pub IsExactProduct : ℕ → Quad → Quad → Result Quad TooWide → Type 0
IsExactProduct d x y (Ok z) = AllFit (product_steps d x y) × (z ≡ product d x y)
IsExactProduct d x y (Err e) = ¬ (AllFit (product_steps d x y))

-- -2^53 ≤ n < 2^53
abbrev pub IsSmall : ℤ → Type 0
IsSmall n = (neg_ℤ (pos (2 ^ 53)) ≤ℤ n) × (n <ℤ pos (2 ^ 53))

-- all four parts of two numbers are small
abbrev pub AreSmall : Quad → Quad → Type 0
AreSmall x y = IsSmall x.a × IsSmall x.b × IsSmall y.a × IsSmall y.b

-- two small whole numbers
abbrev pub AreSmallAndWhole : Quad → Quad → Type 0
AreSmallAndWhole x y = ((x.b ≡ pos 0) × (y.b ≡ pos 0)) × IsSmall x.a × IsSmall y.a
