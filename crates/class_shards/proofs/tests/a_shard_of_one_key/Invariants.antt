use Rattle.std.proofs.Common.{◌∷◌, []}
use Rattle.std.specs.Prelude.{pos}
use Rattle.walls_out.specs.Seats.{name_of}
use Rattle.receipt_log.specs.Logs.{name_of_log}
use Rattle.class_shards.proofs.tests.a_shard_of_one_key.Given as goal

abbrev pub ghosts-one_key : goal.ghosts-one_key
ghosts-one_key g a = record { terrain = pos 1 ∷ []; root = pos 0 ∷ []; limit = 1; count = name_of a.start.count; logs = λ _. name_of_log a.start.log }
