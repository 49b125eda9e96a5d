use Rattle.std.proofs.Common.{◌≡◌, ℕ, length, map, vec_len}
use Rattle.receipt_log.specs.Logs.{list_of}
use Rattle.class_shards.specs.Stored.{slots_of}
use Rattle.terrain.specs.Places.{IsAt}
use Rattle.explore_shared.specs.Records.{keys_in, AreNamed}
use Rattle.explore_shared.specs.Ranks.{AreLeadsOf}
use Rattle.explore_shared.proofs.graph.read_records.Given as goal

abbrev pub invariant-loop-record : goal.invariant-loop-record
invariant-loop-record g l =
    let numbers = g.T.Key.Numbers.numbers in
    record {
      names : AreNamed g.N.Naming.logs l.places.logs.items;
      lists : map list_of l.places.logs.items ≡ map list_of l.fn.places.logs.items;
      starts : l.places.starts ≡ l.fn.places.starts;
      ranks : l.places.ranks ≡ l.fn.places.ranks;
      keys : map numbers l.keys.items ≡ keys_in numbers l.yielded;
      len : vec_len l.leads ≡ length l.yielded;
      leads : (i : ℕ) (x : _) (v : _) → IsAt l.yielded i x → IsAt (map (λ y. y.items) l.leads.items) i v → AreLeadsOf (keys_in numbers l.fn.records.items) (slots_of x.row) v;
    }
