use Rattle.std.proofs.Common.{◌≡◌}
use Rattle.tri_core.specs.SeveralFlips.{AfterFirst}
use Rattle.wall_cross.proofs.flips.flip_all.Given as goal

abbrev pub invariant-loop-i : goal.invariant-loop-i
invariant-loop-i l = record {
  field : l.tri.field ≡ l.initial.tri.field;
  flipped : AfterFirst l.initial.tri.field l.edges l.i l.initial.tri.halves l.tri.halves;
}
