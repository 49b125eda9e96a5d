use Rattle.std.proofs.Common.{◌∙◌, sym, ap, inl, inr}
use Rattle.quad_field.specs.Quads.{scaled}
use Rattle.std.specs.Int.{w128}
use Rattle.std.proofs.lemmas.Int.{to_z-of_z}
use Rattle.canon_code.proofs.coordinates.whole_pair.Goals as goal

pub returns-in-None-clause-none : goal.returns-in-None-clause-none
returns-in-None-clause-none c = inl (λ y e. c.in-None.ensures.none y (c.in_ok-s.ensures.first ∙ e ∙ ap (λ z. scaled z y) (sym (to_z-of_z w128 c.args.g c.ranges.g))))

pub returns-in-None-whole_number-clause-none : goal.returns-in-None-whole_number-clause-none
returns-in-None-whole_number-clause-none c = inr (λ y e. c.in-None-whole_number.ensures.none y (c.in_ok-s.ensures.second ∙ e ∙ ap (λ z. scaled z y) (sym (to_z-of_z w128 c.args.g c.ranges.g))))
