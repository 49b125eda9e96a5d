use Rattle.tri_core.proofs.CallerLemmas.{forth_inside}
use Rattle.wall_cross.proofs.CarriedFlips.{convex_carried, flip_from_either, flip_image}
use Rattle.wall_cross.proofs.carried.flips_are_carried.Goals as goal

pub returns : goal.returns
returns c = record {
  convex = λ d n m from to forth back h field valid valid_to image below convex. convex_carried d n m from to forth back valid valid_to image h below field convex;
  flip = λ d n m from to later later_to forth back h e field valid valid_to image edge name flip flip_to.
      flip_image d n m from to forth back valid valid_to image h edge.0 later later_to flip
      (flip_from_either d to valid_to (forth h) (forth_inside d n m from to forth back image h edge.0) e later_to name.0 flip_to);
}
