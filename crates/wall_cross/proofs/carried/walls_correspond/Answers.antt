use Rattle.wall_cross.proofs.CarriedWallLists.{wall_to, wall_from, one_to, one_from}
use Rattle.wall_cross.proofs.carried.walls_correspond.Goals as goal

pub returns : goal.returns
returns c = λ d n m from to forth back count count_to form form_to edges edges_to field valid valid_to image walls walls_to. (
  wall_to d field n m from to forth back valid valid_to image count count_to form form_to edges edges_to walls walls_to,
  wall_from d field n m from to forth back valid valid_to image count count_to form form_to edges edges_to walls walls_to,
  one_to d field n m from to forth back valid valid_to image count count_to form form_to edges edges_to walls walls_to,
  one_from d field n m from to forth back valid valid_to image count count_to form form_to edges edges_to walls walls_to,
)
