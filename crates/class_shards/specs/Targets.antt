-- The key that a receipt is of.
use Rattle.std.specs.Prelude.{ℤ, List, [], slice_index_or}
use Rattle.terrain.specs.declared.numbers.Numbers.{Ghosts}
use Rattle.receipt_log.specs.declared.receipt.Receipt.{Receipt}
use Rattle.receipt_log.specs.Logs.{seen_by, place_of}

-- what stands at the receipt's place in the list that it has seen
abbrev pub target_of : {K : Type 0} {G : Ghosts K} → Receipt K G → List ℤ
target_of r = slice_index_or (seen_by r) (place_of r) []
