-- What a fill does to a shard, in the words of the core's events, and what a receipt of a key is.
use Rattle.std.specs.Prelude.{◌≡◌, ℕ, ℤ, List, slice_set}
use Rattle.atomic_table.specs.Seated.{TableId}
use Rattle.terrain.specs.declared.numbers.Numbers.{Ghosts}
use Rattle.terrain.specs.Places.{IsAt}
use Rattle.receipt_log.specs.declared.receipt.Receipt.{Receipt}
use Rattle.receipt_log.specs.Logs.{log_of, seen_by, place_of}
use Rattle.explore_core.specs.Books.{Row}
use Rattle.explore_core.specs.Events.{Ticket, with_slot}

-- Fill(k, w) on the shard of key k: the target to which wall w of k leads, and the link, are written into slot w of k, which was empty. The target may stand in another shard
abbrev pub Fills : {L : Type 0} → (Leads : List ℤ → ℕ → List ℤ → L → Type 0) → List ℤ → ℕ → List ℤ → L → List (Row L) → List (Row L) → Type 0
Fills Leads k w target link before after = (t : Ticket Leads before k w) × (t.target ≡ target) × (t.link ≡ link) × (after ≡ slice_set before t.from.place (with_slot t.from.row w (record { target = t.target; link = t.link })))

-- the receipt of the key's place in that log has seen just these keys
abbrev pub IsReceiptOf : {K : Type 0} {G : Ghosts K} → TableId → List (List ℤ) → List ℤ → Receipt K G → Type 0
IsReceiptOf log keys k r = (log_of r ≡ log) × (seen_by r ≡ keys) × IsAt keys (place_of r) k
