use Rattle.std.proofs.Common.{ap, ◌∙◌}
use Rattle.walls_out.specs.Views.{raised, lowered, last_of}
use Rattle.walls_out.proofs.tests.three_walls.Goals as goal

pub lower-requires-clause-own : goal.lower-requires-clause-own
lower-requires-clause-own g c =
    let is = c.raise.ensures.view ∙ ap (raised 3) c.requires.root in
    (0, 2, ap (λ v. v.keeper) is, ap (λ v. last_of v.owed) is)

pub lower-requires-2-clause-own : goal.lower-requires-2-clause-own
lower-requires-2-clause-own g c =
    let is = c.lower.ensures.view ∙ ap lowered (c.raise.ensures.view ∙ ap (raised 3) c.requires.root) in
    (0, 1, ap (λ v. v.keeper) is, ap (λ v. last_of v.owed) is)
