use Rattle.std.proofs.Common.{◌≡◌, ◌<◌, ℕ, length}
use Rattle.terrain.specs.Places.{IsAt}
use Rattle.explore_shared.specs.declared.gathered.Gathered.{Gathered}
use Rattle.explore_shared.proofs.sorting.ranks_of.Given as goal

abbrev pub invariant-loop-rank : goal.invariant-loop-rank
invariant-loop-rank g l = record {
  long : length l.ranks.items ≡ length l.records;
  ranked : (i : ℕ) (x : Gathered g.row.K.Denot g.row.R.Denot) → i < l.rank → IsAt l.records i x → (j : ℕ) × (y : Gathered g.row.K.Denot g.row.R.Denot) × IsAt l.ranks.items x.number j × IsAt l.records j y × (y.number ≡ x.number);
}
