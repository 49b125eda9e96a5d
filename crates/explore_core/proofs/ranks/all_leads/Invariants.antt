use Rattle.std.proofs.Common.{◌≡◌, ◌<◌, ◌≤◌, ℕ, List, map, vec_len}
use Rattle.terrain.specs.Places.{IsAt}
use Rattle.terrain.specs.declared.graph.Lead.{Lead}
use Rattle.explore_core.specs.declared.record.Record.{Record}
use Rattle.explore_core.specs.Ranks.{AreRanked}
use Rattle.explore_core.proofs.ranks.all_leads.Given as goal

abbrev pub invariant-loop-rank : goal.invariant-loop-rank
invariant-loop-rank g l = record {
  len : vec_len l.records ≡ vec_len l.fn.records;
  out : vec_len l.leads ≡ l.rank;
  kept : (i : ℕ) (r : Record _ _) → l.rank ≤ i → IsAt l.fn.records.items i r → IsAt l.records.items i r;
  each : (i : ℕ) (r : Record _ _) → i < l.rank → IsAt l.fn.records.items i r → (q : List (Lead _)) × (IsAt (map (λ x. x.items) l.leads.items) i q) × AreRanked l.ranks r.slots.items q;
  keys : map (λ r. r.key) l.records.items ≡ map (λ r. r.key) l.fn.records.items;
}
