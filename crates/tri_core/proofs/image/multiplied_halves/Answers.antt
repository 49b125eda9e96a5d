use Rattle.std.proofs.Common.{false, refl, sym, subst, arith}
use Rattle.std.specs.Prelude.{ℤ}
use Rattle.std.specs.Int.{w128}
use Rattle.std.proofs.lemmas.Int.{to_z-of_z}
use Rattle.std.proofs.lemmas.Bool.{both_ways}
use Rattle.std.proofs.lemmas.Result.{err_from_is_err_and}
use Rattle.plane.specs.Vectors.{scaled_term, VectorFits}
use Rattle.tri_core.specs.HalfEdges.{half_at}
use Rattle.tri_core.proofs.Changed.{changed_more}
use Rattle.tri_core.proofs.image.multiplied_halves.Goals as goal

pub returns-in_err-vec-clause-wide : goal.returns-in_err-vec-clause-wide
returns-in_err-vec-clause-wide c = let p = err_from_is_err_and c.from_residual-in_err-vec.result c.from_residual-in_err-vec.ensures.1 in
    rw (p.1) (λ wide fit.
    both_ways false refl
    (c.in_err-vec.ensures.fits.1
    (subst (λ (z : ℤ). VectorFits c.args.f.now (scaled_term z (half_at c.args.halves.now c.loop-half.half-index).vec)) (sym (to_z-of_z w128 c.args.k c.ranges.k))
    (fit c.loop-half.half-index c.loop-half-test.true))))

pub loop-half-preserved : goal.loop-half-preserved
loop-half-preserved c = record {
  changed = rw c.push_reserved.ensures.items (changed_more _ c.args.halves.now c.loop-half.later.items c.loop-half.half-index _ c.in_ok-vec.ensures.exact refl c.loop-half.invariant.changed);
  room = omega (arith, c.push_reserved.ensures.capacity, c.loop-half.invariant.room);
}
