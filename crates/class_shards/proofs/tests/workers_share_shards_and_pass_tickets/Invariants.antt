use Rattle.std.proofs.Common.{◌∷◌, []}
use Rattle.std.specs.Prelude.{pos}
use Rattle.walls_out.specs.Seats.{name_of}
use Rattle.class_shards.specs.Names.{name_at}
use Rattle.class_shards.proofs.tests.workers_share_shards_and_pass_tickets.Given as goal

abbrev pub ghosts-two_workers : goal.ghosts-two_workers
ghosts-two_workers g a = record { terrain = pos 100 ∷ []; root = pos 0 ∷ []; limit = 4; count = name_of a.count.now; logs = name_at a.logs.items }
