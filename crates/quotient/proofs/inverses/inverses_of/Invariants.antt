use Rattle.std.proofs.Common.{◌≡◌, length}
use Rattle.quotient.specs.Inverses.{AreInversesBelow}
use Rattle.quotient.proofs.inverses.inverses_of.Given as goal

abbrev pub invariant-loop-m : goal.invariant-loop-m
invariant-loop-m l = record {
  many : length l.inverses.items ≡ l.m-index;
  below : AreInversesBelow l.f l.m-index l.tree l.inverses.items;
}
