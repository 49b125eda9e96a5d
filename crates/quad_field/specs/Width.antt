-- Width: a formula is a tree, and it is wide where one of the steps of its evaluation lies outside i128.
use Rattle.std.specs.Prelude.{ℕ, ℤ, pos, ◌+ℤ◌, ◌*ℤ◌, List, [], ◌∷◌, ⊤, FitsSigned}
use Rattle.std.specs.Int.{w128}
use Rattle.quad_field.specs.declared.quad.Quad.{Quad}
use Rattle.quad_field.specs.Ring.{Ops}
use Rattle.quad_field.specs.Quads.{conjugate_of, quad, quad_ops, scaled}

-- a tree of sums, differences, products, negations, multiples by whole numbers and conjugates of K-integers
pub data Term : Type 0 where
  number : Quad → Term
  sum : Term → Term → Term
  difference : Term → Term → Term
  product : Term → Term → Term
  negation : Term → Term
  scaling : ℤ → Term → Term
  conjugate : Term → Term

-- the operations that build trees: a formula at these is its own tree
abbrev pub term_ops : Ops Term
term_ops = record { add = Term.sum; sub = Term.difference; mul = Term.product; neg = Term.negation; int = λ n. number (quad n (pos 0)) }

-- what a tree evaluates to, without bound
abbrev pub value_of : ℕ → Term → Quad
value_of d (number x) = x
value_of d (sum s t) = (quad_ops d).add (value_of d s) (value_of d t)
value_of d (difference s t) = (quad_ops d).sub (value_of d s) (value_of d t)
value_of d (product s t) = (quad_ops d).mul (value_of d s) (value_of d t)
value_of d (negation s) = (quad_ops d).neg (value_of d s)
value_of d (scaling k s) = scaled k (value_of d s)
value_of d (conjugate s) = conjugate_of (value_of d s)

-- -2^127 ≤ n < 2^127
abbrev pub FitsI128 : ℤ → Type 0
FitsI128 n = FitsSigned w128 n

-- both parts fit
abbrev pub PartsFit : Quad → Type 0
PartsFit x = FitsI128 x.a × FitsI128 x.b

-- each number of a list fits
abbrev pub AllFit : List ℤ → Type 0
AllFit [] = ⊤
AllFit (n ∷ ns) = FitsI128 n × AllFit ns

-- the steps of a product, in their order: a·c, b·d, D·(b·d), a·c + D·(b·d), a·d, b·c, a·d + b·c
abbrev pub product_steps : ℕ → Quad → Quad → List ℤ
product_steps d x y =
    (x.a *ℤ y.a) ∷ (x.b *ℤ y.b) ∷ (pos d *ℤ (x.b *ℤ y.b)) ∷ ((x.a *ℤ y.a) +ℤ (pos d *ℤ (x.b *ℤ y.b)))
    ∷ (x.a *ℤ y.b) ∷ (x.b *ℤ y.a) ∷ ((x.a *ℤ y.b) +ℤ (x.b *ℤ y.a)) ∷ []

-- no step of the tree lies outside i128: the tree isn't wide
abbrev pub StepsFit : ℕ → Term → Type 0
StepsFit d (number x) = ⊤
StepsFit d (sum s t) = StepsFit d s × StepsFit d t × PartsFit (value_of d (sum s t))
StepsFit d (difference s t) = StepsFit d s × StepsFit d t × PartsFit (value_of d (difference s t))
StepsFit d (product s t) = StepsFit d s × StepsFit d t × AllFit (product_steps d (value_of d s) (value_of d t))
StepsFit d (negation s) = StepsFit d s × PartsFit (value_of d (negation s))
StepsFit d (scaling k s) = StepsFit d s × PartsFit (value_of d (scaling k s))
StepsFit d (conjugate s) = StepsFit d s × FitsI128 (value_of d (conjugate s)).b
