-- That half-edges are a triangulation has one proof.
use Rattle.std.proofs.Common.{ℕ, List, Bool, ap, inl, inr, arith}
use Rattle.std.proofs.Math.Dec.{T_prop}
use Rattle.std.specs.Prelude.{ℤ, pos, ◌<ℤ◌, ◌≤ℤ◌, ◌*ℤ◌}
use Rattle.std.proofs.lemmas.Int.{ints}
use Rattle.std.specs.Coded.{Coded-set, coded_ℤ, coded_ℕ, coded_bool, le_prop}
use Rattle.quad_field.specs.declared.quad.Quad.{Quad}
use Rattle.quad_field.specs.Quads.{IsPositive, IsZero}
use Rattle.tri_core.specs.declared.half.Half.{Half}
use Rattle.tri_core.specs.Triangulation.{IsTriangulation}

whole_set : IsSet ℤ
whole_set = Coded-set coded_ℤ

number_set : IsSet ℕ
number_set = Coded-set coded_ℕ

bool_set : IsSet Bool
bool_set = Coded-set coded_bool

quad_set : IsSet Quad
quad_set = hlevel whole_set

at_most_prop : (m n : ℤ) → IsProp (m ≤ℤ n)
at_most_prop m n = hlevel T_prop

less_prop : (m n : ℤ) → IsProp (m <ℤ n)
less_prop m n = hlevel T_prop

-- a number is positive in one way
pub positive_prop : (d : ℕ) (x : Quad) → IsProp (IsPositive d x)
positive_prop d x (inl p) (inl q) = ap inl (first p q)
  where
    first : IsProp ((pos 0 ≤ℤ x.a) × (pos 0 ≤ℤ x.b) × ¬ (IsZero x))
    first = hlevel at_most_prop
positive_prop d x (inl p) (inr (inl q)) = absurd (omega (arith, ints, p.1, q.1))
positive_prop d x (inl p) (inr (inr q)) = absurd (omega (arith, ints, p.0, q.0))
positive_prop d x (inr (inl p)) (inl q) = absurd (omega (arith, ints, q.1, p.1))
positive_prop d x (inr (inl p)) (inr (inl q)) = ap (λ r. inr (inl r)) (second p q)
  where
    second : IsProp ((pos 0 <ℤ x.a) × (x.b <ℤ pos 0) × ((pos d *ℤ (x.b *ℤ x.b)) <ℤ (x.a *ℤ x.a)))
    second = hlevel less_prop
positive_prop d x (inr (inl p)) (inr (inr q)) = absurd (omega (arith, ints, p.0, q.0))
positive_prop d x (inr (inr p)) (inl q) = absurd (omega (arith, ints, p.0, q.0))
positive_prop d x (inr (inr p)) (inr (inl q)) = absurd (omega (arith, ints, p.0, q.0))
positive_prop d x (inr (inr p)) (inr (inr q)) = ap (λ r. inr (inr r)) (third p q)
  where
    third : IsProp ((x.a <ℤ pos 0) × (pos 0 <ℤ x.b) × ((x.a *ℤ x.a) <ℤ (pos d *ℤ (x.b *ℤ x.b))))
    third = hlevel less_prop

pub triangulation_prop : (d : ℕ) (halves : List Half) → IsProp (IsTriangulation d halves)
triangulation_prop d halves = hlevel (positive_prop, le_prop, T_prop, number_set, quad_set, bool_set)
