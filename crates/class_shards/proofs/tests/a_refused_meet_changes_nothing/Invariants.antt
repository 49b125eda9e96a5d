use Rattle.std.proofs.Common.{◌∷◌, []}
use Rattle.std.specs.Prelude.{pos}
use Rattle.walls_out.specs.Seats.{name_of}
use Rattle.receipt_log.specs.Logs.{name_of_log}
use Rattle.class_shards.proofs.tests.a_refused_meet_changes_nothing.Given as goal

abbrev pub ghosts-fill_up : goal.ghosts-fill_up
ghosts-fill_up g a = record { terrain = pos 100 ∷ []; root = pos 0 ∷ []; limit = 4; count = name_of a.start.count; logs = λ _. name_of_log a.start.log }
