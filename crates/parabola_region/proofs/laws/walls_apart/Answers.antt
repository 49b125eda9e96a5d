use Rattle.hinge_form.proofs.CallerLemmas.{apart_from}
use Rattle.parabola_region.specs.WallLists.{form_of}
use Rattle.parabola_region.proofs.WallPairs as pairs
use Rattle.parabola_region.proofs.laws.walls_apart.Goals as goal

pub returns : goal.returns
returns c = λ d halves walls i j field valid list less under. apart_from d field (form_of walls i) (form_of walls j) (pairs.walls_apart d field halves valid walls list i j less under)
