use Rattle.std.proofs.Common.{◌≡◌, ◌∷◌, [], None}
use Rattle.walls_out.specs.Seats.{count_of, view_of}
use Rattle.walls_out.specs.declared.entry.Entry.TheVariants.{Root}
use Rattle.class_shards.specs.Views.{number_of}
use Rattle.class_shards.proofs.tests.fill_up.Given as goal

abbrev pub invariant-loop-i : goal.invariant-loop-i
invariant-loop-i g l = record {
  number : number_of l.shard ≡ 0;
  count : count_of l.seat ≡ g.N.Naming.count;
  plain : (view_of l.seat).keeper ≡ None;
  owes : (view_of l.seat).owed ≡ Root ∷ [];
}
