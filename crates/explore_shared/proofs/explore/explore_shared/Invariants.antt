use Rattle.walls_out.specs.Seats.{name_of}
use Rattle.class_shards.specs.Names.{name_at}
use Rattle.explore_shared.proofs.explore.explore_shared.Given as goal

abbrev pub ghosts-explore_named : goal.ghosts-explore_named
ghosts-explore_named g a = record { terrain = g.T.Numbers.numbers a.terrain.now; root = g.T.Key.Numbers.numbers a.root.now; limit = a.limit; count = name_of a.count; logs = name_at a.logs.items }
