use Rattle.std.proofs.Common.{false, refl, arith}
use Rattle.std.proofs.lemmas.Bool.{both_ways}
use Rattle.std.proofs.lemmas.Result.{err_from_is_err_and}
use Rattle.tri_core.proofs.Changed.{changed_more}
use Rattle.tri_core.proofs.image.mapped_halves.Goals as goal

pub returns-in_err-vec-clause-wide : goal.returns-in_err-vec-clause-wide
returns-in_err-vec-clause-wide c = let p = err_from_is_err_and c.from_residual-in_err-vec.result c.from_residual-in_err-vec.ensures.1 in
    rw (p.1) (λ wide fit. both_ways false refl (c.in_err-vec.ensures.fits.1 (fit c.loop-half.half-index c.loop-half-test.true)))

pub loop-half-preserved : goal.loop-half-preserved
loop-half-preserved c = record {
  changed = rw c.push_reserved.ensures.items (changed_more _ c.args.halves.now c.loop-half.later.items c.loop-half.half-index _ c.in_ok-vec.ensures.exact refl c.loop-half.invariant.changed);
  room = omega (arith, c.push_reserved.ensures.capacity, c.loop-half.invariant.room);
}
