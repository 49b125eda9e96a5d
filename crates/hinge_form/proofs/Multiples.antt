-- Multiples of triples of K-integers by whole numbers.
use Rattle.std.proofs.Common.{◌≡◌, ℕ, zero, suc, ◌≤◌, [], ◌∷◌, sym, ◌∙◌, ap, arith}
use Rattle.std.specs.Prelude.{pos}
use Rattle.rings.specs.Ring.{var, expr}
use Rattle.rings.specs.Forms.{value_at}
use Rattle.rings.specs.Lines.{multiple, HasPositiveFactor}
use Rattle.rings.proofs.Solver.{identity}
use Rattle.rings.proofs.Multiples.{triples_equal, multiple_value}
use Rattle.quad_field.specs.declared.quad.Quad.{Quad}
use Rattle.quad_field.specs.Quads.{quad, quad_ops, scaled, IsPositive}
use Rattle.quad_field.proofs.CallerLemmas.{quad_ring, scaled_is, natural_positive}
use Rattle.hinge_form.specs.Triples.{Triple, zeros, times, IsReduced}

-- a multiple of a triple by a whole number is one by a K-integer
pub times_is : (d g : ℕ) (l : Triple) → times g l ≡ multiple (quad_ops d) (quad (pos g) (pos 0)) l
times_is d g l = triples_equal (quad_ops d) (quad_ring d) _ _ (scaled_is d (pos g) l.0) (scaled_is d (pos g) l.1) (scaled_is d (pos g) l.2)

-- 0 times a triple
pub times_zero : (l : Triple) → times 0 l ≡ zeros
times_zero l = triples_equal (quad_ops 0) (quad_ring 0) (times 0 l) zeros (one l.0) (one l.1) (one l.2)
  where
    one : (x : Quad) → scaled (pos 0) x ≡ quad (pos 0) (pos 0)
    one x = scaled_is 0 (pos 0) x ∙ identity (quad_ops 0) (quad_ring 0) (x ∷ []) (expr.mul (expr.int (pos 0)) (var 0)) (expr.int (pos 0)) tt

-- the value of a multiple
pub times_value : (d g : ℕ) (l q : Triple) → value_at (quad_ops d) (times g l) q ≡ scaled (pos g) (value_at (quad_ops d) l q)
times_value d g l q =
    let O = quad_ops d in
    ap (λ (m : Triple). value_at O m q) (times_is d g l) ∙ multiple_value O (quad_ring d) (O.int (pos g)) l q ∙ sym (scaled_is d (pos g) (value_at O l q))

-- the form of zeros has the value zero
pub zeros_value : (d : ℕ) (q : Triple) → value_at (quad_ops d) zeros q ≡ (quad_ops d).int (pos 0)
zeros_value d q =
    identity (quad_ops d) (quad_ring d) (q.0 ∷ q.1 ∷ q.2 ∷ []) (value_at expr (expr.int (pos 0), expr.int (pos 0), expr.int (pos 0)) (var 0, var 1, var 2)) (expr.int (pos 0)) tt

-- what is taken out of a triple that isn't zero is a whole number above zero
pub divisor_some : (g : ℕ) (full x : Triple) → full ≡ times g x → ¬ (full ≡ zeros) → 1 ≤ g
divisor_some zero full x out some = absurd (some (out ∙ times_zero x))
divisor_some (suc g) full x out some = omega arith

-- so the full triple is the reduced one times a positive K-integer
pub reduced_factor : (d : ℕ) (full x : Triple) → ¬ (full ≡ zeros) → IsReduced full x → HasPositiveFactor (quad_ops d) (IsPositive d) full x
reduced_factor d full x some r = record {
  factor = quad (pos r.divisor) (pos 0);
  positive = natural_positive d r.divisor (divisor_some r.divisor full x r.taken_out some);
  out = r.taken_out ∙ times_is d r.divisor x;
}
