use Rattle.std.proofs.Common.{[], arith}
use Rattle.wall_steal.proofs.hands.Hands.take.Goals as goal

pub pop_as-first-requires-clause-empty : goal.pop_as-first-requires-clause-empty
pop_as-first-requires-clause-empty g c = λ views h at. c.requires.1 _ [] views (omega arith) h at
