use Rattle.walls_out.specs.Seats.{count_of, view_of}
use Rattle.receipt_log.specs.Logs.{name_of_log, list_of}
use Rattle.std.proofs.Common.{◌≡◌, ◌∷◌, [], ◌+◌, ◌-◌, ◌≤◌, ℕ, Some, vec_len, vec_capacity}
use Rattle.std.specs.Prelude.{slice_get, slice_index_or}
use Rattle.std.specs.Arc.{arc_value}
use Rattle.walls_out.specs.declared.entry.Entry.{Entry}
use Rattle.walls_out.specs.Views.{fresh}
use Rattle.class_shards.specs.Tickets.{AreTicketsOf}
use Rattle.class_shards.proofs.hand.hand_out.Given as goal

abbrev pub invariant-loop-key : goal.invariant-loop-key
invariant-loop-key g l =
    let key = slice_index_or (list_of l.fn.log) l.fn.place [] in
    let b = Some (g.T.Terrain.shard key) in
    record {
      table : (count_of l.keeper) ≡ g.N.Naming.count;
      keeps : (view_of l.keeper).keeper ≡ (view_of l.fn.keeper).keeper;
      made : (view_of l.keeper).made ≡ (view_of l.fn.keeper).made;
      done : (view_of l.keeper).done ≡ (view_of l.fn.keeper).done;
      owes : (e : Entry) → (view_of l.fn.keeper).owed ≡ e ∷ fresh b ((view_of l.fn.keeper).made - vec_len l.fn.keys) (vec_len l.fn.keys) → (view_of l.keeper).owed ≡ e ∷ fresh b ((view_of l.fn.keeper).made - vec_len l.fn.keys) (vec_len l.keys);
      list : (list_of l.log) ≡ (list_of l.fn.log);
      log : (name_of_log l.log) ≡ (name_of_log l.fn.log);
      keys : (i : ℕ) (a : _) → slice_get l.keys.items i ≡ Some a → g.T.Key.Numbers.numbers (arc_value a) ≡ key;
      short : vec_len l.keys ≤ vec_len l.fn.keys;
      room : vec_len l.tickets + vec_len l.keys ≤ vec_capacity l.tickets;
      len : vec_len l.tickets + vec_len l.keys ≡ vec_len l.fn.keys;
      each : AreTicketsOf key (vec_len l.fn.keys) l.tickets.items;
    }

abbrev pub decreases-loop-key : goal.decreases-loop-key
decreases-loop-key g l = vec_len l.keys
