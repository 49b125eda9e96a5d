use Rattle.family_gen.proofs.Surfaces.{of_number}
use Rattle.family_gen.proofs.laws.surfaces.Goals as goal

pub returns : goal.returns
returns c = record { limits = λ n h. (of_number n h).limits; short = λ n h. (of_number n h).short; glued = λ n h. (of_number n h).glued }
