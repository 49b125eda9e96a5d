use Rattle.wall_cross.proofs.CarriedWalls.{edges_match, edge_forms_match}
use Rattle.wall_cross.proofs.carried.edges_are_carried.Goals as goal

pub returns : goal.returns
returns c = record {
  line = λ d n m from to forth back h e field valid valid_to image edge name. edge_forms_match d field n m from to forth back valid valid_to image h e edge name;
  edges = λ d n m from to forth back l k h e field valid valid_to image matching edge name.
      edges_match d field n m from to forth back valid valid_to image l k matching h e edge name;
}
