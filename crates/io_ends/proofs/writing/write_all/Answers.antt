use Rattle.std.proofs.Common.{arith}
use Rattle.std.proofs.lemmas.Grind.{common_steps}
use Rattle.io_ends.proofs.Pieces.{taken-more}
use Rattle.io_ends.proofs.writing.write_all.Goals as goal

pub loop-at-preserved : goal.loop-at-preserved
loop-at-preserved g c = record {
  within = omega (arith, c.in_ok-at.ensures.within);
  taken = taken-more _ _ _ _ _ _ _ c.loop-at.invariant.taken c.in_ok-at.ensures.takes (grind (arith, common_steps));
  faults = omega (arith, c.in_ok-at.ensures.never_falls, c.loop-at.invariant.faults);
  fresh = λ none. absurd (omega (arith, c.in_ok-at.ensures.some));
}
