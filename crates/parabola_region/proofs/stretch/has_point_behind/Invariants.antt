use Rattle.std.proofs.Common.{ℕ, ◌<◌}
use Rattle.rings.specs.Bounds.{IsBehind}
use Rattle.quad_field.specs.Quads.{quad_ops, IsPositive}
use Rattle.hinge_form.specs.Triples.{of_form}
use Rattle.parabola_region.specs.HingeLists.{form_at}
use Rattle.parabola_region.specs.Stretches.{bound_point}
use Rattle.parabola_region.proofs.stretch.has_point_behind.Given as goal

abbrev pub invariant-loop-i : goal.invariant-loop-i
invariant-loop-i l = (k : ℕ) → k < l.i → IsBehind (quad_ops l.f) (IsPositive l.f) (of_form l.line) (of_form l.bound.form) (bound_point l.f l.bound) (form_at l.forms k)
