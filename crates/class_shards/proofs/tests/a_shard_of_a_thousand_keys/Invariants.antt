use Rattle.std.proofs.Common.{◌∷◌, []}
use Rattle.std.specs.Prelude.{pos}
use Rattle.walls_out.specs.Seats.{name_of}
use Rattle.receipt_log.specs.Logs.{name_of_log}
use Rattle.class_shards.proofs.tests.a_shard_of_a_thousand_keys.Given as goal

abbrev pub ghosts-thousand_keys : goal.ghosts-thousand_keys
ghosts-thousand_keys g a = record { terrain = pos 16000 ∷ []; root = pos 0 ∷ []; limit = 999; count = name_of a.start.count; logs = λ _. name_of_log a.start.log }
