use Rattle.std.proofs.Common.{◌∙◌, List, ap}
use Rattle.plane.specs.declared.vec2.Vec2.{Vec2}
use Rattle.gluing.specs.Polygons.{vectors, side_at}
use Rattle.gluing.proofs.lines.side_of.Goals as goal

pub returns-clause-value : goal.returns-clause-value
returns-clause-value c = λ d. ap (λ (s : List Vec2). side_at d (vectors s) c.args.e) c.sides_at.ensures.value ∙ c.side.ensures.value d
