use Rattle.std.proofs.Common.{refl, false}
use Rattle.std.proofs.lemmas.Bool.{both_ways}
use Rattle.gluing.proofs.turns.is_last_rise.Goals as goal

pub returns-in-Some : goal.returns-in-Some
returns-in-Some c =
    let found = c.in-Some.ensures in
    ((λ no. absurd (both_ways false refl no)), (λ all. absurd (all c.in-Some.field-0 found.0 found.1 found.2)))

pub returns-in-None : goal.returns-in-None
returns-in-None c = ((λ _. c.in-None.ensures), (λ _. refl))
