-- What the crates above need of the definitions.
use Rattle.std.proofs.Common.{◌≡◌, ℕ, List, Some, ap, sym}
use Rattle.std.specs.Prelude.{slice_get}
use Rattle.terrain.specs.declared.numbers.Numbers.{Ghosts}
use Rattle.receipt_log.specs.declared.keeper.LogKeeper.{LogKeeper}
use Rattle.receipt_log.specs.Logs.{name_of_log}
use Rattle.class_shards.specs.Names.{name_or_none, name_at}

-- each log has the name that is picked for its place
pub named_at : {E : Type 0} {G : Ghosts E} (logs : List (LogKeeper E G)) (place : ℕ) (log : LogKeeper E G) → slice_get logs place ≡ Some log → name_of_log log ≡ name_at logs place
named_at logs place log at = sym (ap name_or_none at)
