-- A ticket's slot, as its shard stores it.
use Rattle.std.proofs.Common.{◌≡◌, ℕ, ◌+◌, ◌<◌, List, [], ◌∷◌, length, set, Some, ap, ◌∙◌, subst, arith}
use Rattle.std.specs.Prelude.{ℤ, option_map}
use Rattle.std.specs.Arc.{arc_value}
use Rattle.std.specs.declared.sync.Arc.{Arc}
use Rattle.std.specs.declared.alloc.Global.{Global}
use Rattle.std.specs.Vec.{with_item}
use mathlib.Core.List.{IsPrefix}
use Rattle.terrain.specs.declared.terrains.Terrain as terrains
use Rattle.terrain.specs.declared.numbers.Numbers as numbers
use Rattle.class_shards.specs.declared.naming.Naming as namings
use Rattle.class_shards.specs.declared.shard.Shard.{Shard}
use Rattle.class_shards.specs.declared.ticket.Ticket.{Ticket}
use Rattle.class_shards.specs.declared.row.Slot.{Slot}
use Rattle.class_shards.specs.declared.row.Row.{Row}
use Rattle.walls_out.specs.declared.entry.Entry.TheVariants.{Wall}
use Rattle.walls_out.specs.Seats.{view_of}
use Rattle.receipt_log.specs.Logs.{place_of, seen_by, list_of}
use Rattle.terrain.specs.Places.{IsAt}
use Rattle.terrain.proofs.CallerLemmas.{at_within}
use Rattle.explore_core.specs.Events.{with_slot}
use Rattle.class_shards.specs.Entries.{index_in}
use Rattle.class_shards.specs.Keepers.{keeper_number}
use Rattle.class_shards.specs.Rows.{before}
use Rattle.class_shards.specs.Stored.{slot_of, slots_of, rows_in}
use Rattle.class_shards.specs.Views.{rows_of}
use Rattle.class_shards.proofs.Fills.{Spot, spot_of}
use Rattle.class_shards.proofs.Stored.{rows_length, written, map_set}

module _ {T N K L F W : Type 0} {G : terrains.Ghosts T K L F W} {A : numbers.Ghosts T} {B : numbers.Ghosts K} {M : namings.Ghosts N} (one : (k : List ℤ) (n m : ℕ) → G.has_walls M.terrain k n → G.has_walls M.terrain k m → n ≡ m) (s : Shard T N K L F W G A B M) (ticket : Ticket T N K L F W G A B M) (belongs : G.shard (B.numbers (arc_value ticket.key)) ≡ keeper_number s.keeper) (prefix : IsPrefix (seen_by ticket.source) (list_of s.log)) where
  -- where the slot is
  pub spot : Spot (rows_of s) (B.numbers (arc_value ticket.key)) (place_of ticket.source) ticket.wall (index_in (view_of ticket.seat).owed)
  spot = spot_of (G.has_walls M.terrain) (G.leads M.terrain) G.shard M.root (keeper_number s.keeper) (rows_of s) one s.sound (seen_by ticket.source) (B.numbers (arc_value ticket.key)) (place_of ticket.source) ticket.wall (index_in (view_of ticket.seat).owed) (subst (IsPrefix (seen_by ticket.source)) s.list prefix) ticket.entry ticket.slot

  -- the ticket's seat owes its entry
  pub owes : (view_of ticket.seat).owed ≡ Wall (keeper_number s.keeper) (before (rows_of s) (place_of ticket.source) + ticket.wall) ∷ []
  owes = ticket.owes ∙ (λ i. Wall (belongs i) (spot.index_is i) ∷ [])

  -- its key is there
  pub short : place_of ticket.source < length s.rows.items
  short = let h = at_within (rows_of s) (place_of ticket.source) spot.row spot.at in let l = rows_length (λ (a : Arc K Global). B.numbers (arc_value a)) slots_of s.keys.items s.rows.items s.long in omega arith

  -- what a write of the slot shows
  pub shows : (p : ℕ) (row : Row T N K L F W G A B M) (slot : Slot T N K L F W G A B M) → p ≡ place_of ticket.source → IsAt s.rows.items (place_of ticket.source) row → rows_in B.numbers s.keys.items (set s.rows.items p (record { slots = with_item row.slots ticket.wall (Some slot) })) ≡ set (rows_of s) (place_of ticket.source) (with_slot spot.row ticket.wall (slot_of slot))
  shows p row slot e at = ap (λ (i : ℕ). rows_in B.numbers s.keys.items (set s.rows.items i (record { slots = with_item row.slots ticket.wall (Some slot) }))) e ∙ written (λ (a : Arc K Global). B.numbers (arc_value a)) slots_of s.keys.items s.rows.items (place_of ticket.source) row (record { slots = with_item row.slots ticket.wall (Some slot) }) spot.row ticket.wall (slot_of slot) spot.at at (map_set (option_map slot_of) row.slots.items ticket.wall (Some slot))
