use Rattle.std.proofs.Common.{ℕ, ◌<◌}
use Rattle.rings.specs.Forms.{value_at}
use Rattle.quad_field.specs.Quads.{quad_ops}
use Rattle.hinge_form.specs.Triples.{of_place}
use Rattle.parabola_region.specs.HingeLists.{form_at}
use Rattle.parabola_region.specs.Corners.{NotNegative}
use Rattle.parabola_region.proofs.corner.none_negative.Given as goal

abbrev pub invariant-loop-i : goal.invariant-loop-i
invariant-loop-i l = (k : ℕ) → k < l.i → NotNegative l.f (value_at (quad_ops l.f) (form_at l.forms k) (of_place l.at))
