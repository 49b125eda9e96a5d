use Rattle.std.proofs.Common.{rules, refl, sym, subst, true≢false}
use Rattle.quad_field.specs.declared.formula.Formula.{Formula}
use Rattle.wall_cross.specs.Crossings.{DiagonalsFit, AreAllFlipped}
use Rattle.path_walk.specs.Walks.{IsWideChoice}
use Rattle.path_walk.proofs.Choices.{chosen_wall, at_chosen}
use Rattle.path_walk.proofs.steps.step.Goals as goal

pub cross_in_place-requires-clause-wall : goal.cross_in_place-requires-clause-wall
cross_in_place-requires-clause-wall c =
    chosen_wall c.args.at.now.field c.args.at.now.halves c.in-Ok.walls.items c.as_slice.result.now c.as_slice.ensures.value c.in-Ok.ensures.walls c.args.choice
    c.in-Some.wall.now _ (search rules) c.in-Some.ensures.lookup.1

pub returns-in-Ok-cross_in_place-clause-crossed : goal.returns-in-Ok-cross_in_place-clause-crossed
returns-in-Ok-cross_in_place-clause-crossed c =
    at_chosen c.args.at.now.field c.args.at.now.halves c.in-Ok.walls.items c.as_slice.result.now c.as_slice.ensures.value c.in-Ok.ensures.walls c.args.choice
    c.in-Some.wall.now _ (search rules) c.in-Some.ensures.lookup.1
    (λ edges. DiagonalsFit c.args.at.now.field c.args.at.now.halves edges × AreAllFlipped c.args.at.now.field c.args.at.now.halves edges c.cross_in_place.new.tri.halves)
    (c.in-Ok-cross_in_place.ensures.fits.0 refl, c.in-Ok-cross_in_place.ensures.flipped)

pub returns-in-Some-clause-fault : goal.returns-in-Some-clause-fault
returns-in-Some-clause-fault c = (
  refl,
  subst (λ (formula : Formula). IsWideChoice formula c.args.at.now.field c.args.at.now.halves c.args.choice) (sym c.in-Err-cross_in_place.ensures.wide.0)
      (at_chosen c.args.at.now.field c.args.at.now.halves c.in-Ok.walls.items c.as_slice.result.now c.as_slice.ensures.value c.in-Ok.ensures.walls c.args.choice
      c.in-Some.wall.now _ (search rules) c.in-Some.ensures.lookup.1
      (λ edges. ¬ (DiagonalsFit c.args.at.now.field c.args.at.now.halves edges))
      (λ fits. absurd (true≢false (sym (c.in-Err-cross_in_place.ensures.fits.1 fits))))),
)
