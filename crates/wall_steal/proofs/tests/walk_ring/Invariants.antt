use Rattle.std.proofs.Common.{◌∷◌, []}
use Rattle.std.specs.Prelude.{pos}
use Rattle.terrain.specs.Rings.{numbers_of}
use Rattle.walls_out.specs.Seats.{name_of}
use Rattle.class_shards.specs.Names.{name_at}
use Rattle.wall_steal.proofs.tests.walk_ring.Given as goal

abbrev pub ghosts-walk : goal.ghosts-walk
ghosts-walk g a = record { terrain = numbers_of a.ring.now; root = pos 0 ∷ []; limit = a.limit; count = name_of a.count.now; logs = name_at a.logs.items }
