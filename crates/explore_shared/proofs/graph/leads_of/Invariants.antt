use Rattle.std.proofs.Common.{◌≡◌, List, map}
use Rattle.std.specs.Prelude.{ℤ, option_map}
use Rattle.receipt_log.specs.Logs.{list_of}
use Rattle.class_shards.specs.Stored.{slot_of}
use Rattle.explore_shared.specs.Records.{AreNamed}
use Rattle.explore_shared.specs.Ranks.{Finds, AreLeadsOf}
use Rattle.explore_shared.proofs.graph.leads_of.Given as goal

abbrev pub invariant-loop-slot : goal.invariant-loop-slot
invariant-loop-slot g l = record {
  names : AreNamed g.N.Naming.logs l.places.logs.items;
  lists : map list_of l.places.logs.items ≡ map list_of l.fn.places.logs.items;
  starts : l.places.starts ≡ l.fn.places.starts;
  ranks : l.places.ranks ≡ l.fn.places.ranks;
  leads : (keys : List (List ℤ)) → Finds (map list_of l.fn.places.logs.items) l.fn.places.starts.items l.fn.places.ranks.items keys → AreLeadsOf keys (map (option_map slot_of) l.yielded) l.leads.items;
}
